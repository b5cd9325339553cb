-- The numbers on a line, and the same numbers up to a limit.
use Rattle.std.proofs.Common.{◌≡◌, ℕ, ◌+◌, ◌≤◌, min, Bool, List, [], ◌∷◌, ◌++◌, length, map, All, Option, Some, None, refl, sym, ap, ap₂, subst, ◌∙◌, arith}
use Rattle.std.specs.Option.{option_map}
use Rattle.std.proofs.lemmas.List.{length-map}
use Rattle.std.proofs.lemmas.List.Elements.{All-nil, All-cons, All-head, All-tail}
use Rattle.net_file.specs.declared.fault.NetKind.TheVariants as kind
use Rattle.aiger_reader.specs.Words.{numbers_on}
use Rattle.aiger_reader.specs.Reading.{capped_on, IsRowFault}

-- a word that is no number
pub not_written : (done numbers : List ℕ) (whole rest : List (Option ℕ)) → whole ≡ map Some done ++ None ∷ rest → whole ≡ map Some numbers → ⊥
not_written (d ∷ ds) (n ∷ ns) whole rest front same =
    let all : map Some (d ∷ ds) ++ None ∷ rest ≡ map Some (n ∷ ns) = sym front ∙ same in
    not_written ds ns (map Some ns) rest (cc) refl
not_written [] [] whole rest front same = cc
not_written [] (n ∷ ns) whole rest front same = cc
not_written (d ∷ ds) [] whole rest front same = cc

-- each number, up to a limit
abbrev pub capped : ℕ → List ℕ → List ℕ
capped limit numbers = map (λ n. min n limit) numbers

abbrev pub all_capped : ℕ → List (Option ℕ) → List (Option ℕ)
all_capped limit words = map (option_map (λ n. min n limit)) words

-- where the limit leaves numbers, there are numbers
uncapped : (limit : ℕ) (words : List (Option ℕ)) (row : List ℕ) → all_capped limit words ≡ map Some row → (numbers : List ℕ) × (words ≡ map Some numbers) × (row ≡ capped limit numbers)
uncapped limit [] [] e = ([], refl, refl)
uncapped limit (Some m ∷ words) (n ∷ row) e =
    let tails : all_capped limit words ≡ map Some row = cc in
    let head : n ≡ min m limit = cc in
    let rest = uncapped limit words row tails in
    (m ∷ rest.0, ap (λ ws. Some m ∷ ws) rest.1, ap₂ (λ one more. one ∷ more) head rest.2)
uncapped limit (None ∷ words) (n ∷ row) e = cc
uncapped limit words row e = cc

-- numbers are capped as numbers
pub all_capped-map : (limit : ℕ) (numbers : List ℕ) → all_capped limit (map Some numbers) ≡ map Some (capped limit numbers)
all_capped-map limit [] = refl
all_capped-map limit (n ∷ numbers) = ap (λ ws. Some (min n limit) ∷ ws) (all_capped-map limit numbers)

-- what is below the limit stays
capped_same : (greatest : ℕ) (numbers : List ℕ) → All (λ n. n ≤ greatest) (capped (greatest + 1) numbers) → capped (greatest + 1) numbers ≡ numbers
capped_same greatest [] small = refl
capped_same greatest (n ∷ numbers) small =
    let here : min n (greatest + 1) ≤ greatest = All-head (λ n. n ≤ greatest) (min n (greatest + 1)) (capped (greatest + 1) numbers) small in
    let same : min n (greatest + 1) ≡ n = omega arith in
    ap₂ (λ one more. one ∷ more) same (capped_same greatest numbers (All-tail (λ n. n ≤ greatest) (min n (greatest + 1)) (capped (greatest + 1) numbers) small))

capped_in_range : (greatest : ℕ) (numbers : List ℕ) → All (λ n. n ≤ greatest) numbers → All (λ n. n ≤ greatest) (capped (greatest + 1) numbers)
capped_in_range greatest [] small = All-nil (λ n. n ≤ greatest)
capped_in_range greatest (n ∷ numbers) small =
    let here : n ≤ greatest = All-head (λ n. n ≤ greatest) n numbers small in
    All-cons (λ n. n ≤ greatest) (min n (greatest + 1)) (capped (greatest + 1) numbers) (omega arith) (capped_in_range greatest numbers (All-tail (λ n. n ≤ greatest) n numbers small))

-- a row in range is what the line writes
pub row_written : (line : List ℕ) (greatest : ℕ) (row : List ℕ) → capped_on (greatest + 1) line ≡ map Some row → All (λ n. n ≤ greatest) row → numbers_on line ≡ map Some row
row_written line greatest row read small =
    let found = uncapped (greatest + 1) (numbers_on line) row read in
    let same = capped_same greatest found.0 (subst (All (λ n. n ≤ greatest)) found.2 small) in
    found.1 ∙ ap (map Some) (sym same ∙ sym found.2)

-- a row out of range is a bad literal
pub out_of_range : (line : List ℕ) (greatest : ℕ) (row : List ℕ) (defining : Bool) (width : ℕ) → capped_on (greatest + 1) line ≡ map Some row → length row ≡ width → (All (λ n. n ≤ greatest) row → ⊥) → IsRowFault line greatest defining width kind.BadLiteral
out_of_range line greatest row defining width read wide large =
    let found = uncapped (greatest + 1) (numbers_on line) row read in
    (found.0, omega (arith, ap length found.2, length-map found.0 (λ (n : ℕ). min n (greatest + 1)), wide), found.1, λ good. large (subst (All (λ n. n ≤ greatest)) (sym found.2) (capped_in_range greatest found.0 good.in_range)))

-- a line with no row of the width up to the limit is a bad line
pub bad_line : (line : List ℕ) (greatest : ℕ) (defining : Bool) (width : ℕ) → ((numbers : List ℕ) → length numbers ≡ width → capped_on (greatest + 1) line ≡ map Some numbers → ⊥) → IsRowFault line greatest defining width kind.BadLine
bad_line line greatest defining width none = λ row wide written.
    none (capped (greatest + 1) row) (omega (arith, length-map row (λ (n : ℕ). min n (greatest + 1)), wide)) (ap (all_capped (greatest + 1)) written ∙ all_capped-map (greatest + 1) row)
