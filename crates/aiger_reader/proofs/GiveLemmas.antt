-- The names that the lines of the symbols give, a line at a time.
use Rattle.std.proofs.Common.{◌≡◌, ℕ, List, [], ◌∷◌, ◌++◌, sym, refl, ◌∙◌, subst}
use Rattle.aiger_reader.specs.Symbols.{Entry, GiveNames, AddsName}
use Rattle.aiger_reader.proofs.SymbolLemmas.{gives_same}

-- one line more
pub give_more : (inputs outputs : ℕ) (done : List (List ℕ)) (line : List ℕ) (before entries after : List Entry) → GiveNames inputs outputs done before entries → AddsName inputs outputs line entries after → GiveNames inputs outputs (done ++ line ∷ []) before after
give_more inputs outputs [] line before entries after given adds =
    let P : List Entry → Type 0 = λ xs. AddsName inputs outputs line xs after in
    subst P given adds
give_more inputs outputs (first ∷ done) line before entries after given adds =
    (given.0, given.1, given.2, given.3, give_more inputs outputs done line (before ++ given.0) entries after given.4 adds)

-- and back
pub give_split : (inputs outputs : ℕ) (done : List (List ℕ)) (line : List ℕ) (before after : List Entry) → GiveNames inputs outputs (done ++ line ∷ []) before after → (entries : List Entry) × GiveNames inputs outputs done before entries × AddsName inputs outputs line entries after
give_split inputs outputs [] line before after given = (before, refl, given)
give_split inputs outputs (first ∷ done) line before after given =
    let following = give_split inputs outputs done line (before ++ given.0) after given.4 in
    (following.0, (given.0, given.1, given.2, given.3, following.1), following.2)

-- the lines give one row of names
pub give_same : (inputs outputs : ℕ) (done : List (List ℕ)) (before xs ys : List Entry) → GiveNames inputs outputs done before xs → GiveNames inputs outputs done before ys → xs ≡ ys
give_same inputs outputs [] before xs ys one other = one ∙ sym other
give_same inputs outputs (line ∷ done) before xs ys one other =
    let same = gives_same line other.0 one.0 other.1 one.1 in
    let P : List Entry → Type 0 = λ new. GiveNames inputs outputs done (before ++ new) ys in
    give_same inputs outputs done (before ++ one.0) xs ys one.4 (subst P same other.4)

-- the same counts under other names
pub adds_at : (inputs outputs i o : ℕ) (line : List ℕ) (before after : List Entry) → i ≡ inputs → o ≡ outputs → AddsName i o line before after → AddsName inputs outputs line before after
adds_at inputs outputs i o line before after same too adds =
    let P : ℕ → Type 0 = λ n. AddsName n o line before after in
    let Q : ℕ → Type 0 = λ n. AddsName inputs n line before after in
    subst Q too (subst P same adds)
