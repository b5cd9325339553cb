-- The ways in a block.
use Rattle.std.proofs.Common.{◌≡◌, ℕ, ◌+◌, ◌<◌, Bool, true, false, List, [], ◌∷◌, ◌++◌, length, take, get_or, All, Contains, refl, ap, ◌∙◌, append_assoc, arith}
use Rattle.std.proofs.lemmas.List.Elements.{All-append, All-cons, All-nil}
use Rattle.circuits.specs.declared.port.Pair.{Pair}
use Rattle.circuits.specs.declared.port.PortKind.{PortKind}
use Rattle.account_core.specs.Covers.{way, ways, row}
use Rattle.ban_book.proofs.ListLemmas.{flat_more}
use Rattle.ban_book.specs.declared.block.Block.{Block}
use Rattle.ban_book.specs.Ways.{ways_in}
use Rattle.circuits.proofs.Lists.{contains_cons}

-- the ways to one port more
pub row_more : (kind : PortKind) (from : ℕ) (to : List ℕ) (index d : ℕ) (before now mid after : List Pair) (plain negated : Pair) → index < length to → now ≡ before ++ row kind from (take index to) → plain ≡ way kind from (get_or to index d) false → negated ≡ way kind from (get_or to index d) true → mid ≡ now ++ plain ∷ [] → after ≡ mid ++ negated ∷ [] → after ≡ before ++ row kind from (take (index + 1) to)
row_more kind from to index d before now mid after plain negated below is plain_is negated_is one other =
    flat_more (λ t. way kind from t false ∷ way kind from t true ∷ []) to index d before now after below is both
  where
    both : after ≡ now ++ (way kind from (get_or to index d) false ∷ way kind from (get_or to index d) true ∷ [])
    both = other
        ∙ (ap (λ l. l ++ negated ∷ []) one
        ∙ (append_assoc now (plain ∷ []) (negated ∷ [])
        ∙ (ap (λ p. now ++ (p ∷ negated ∷ [])) plain_is ∙ ap (λ p. now ++ (way kind from (get_or to index d) false ∷ p ∷ [])) negated_is)))

row_each : (P : Pair → Type 0) (kind : PortKind) (from : ℕ) (to : List ℕ) → ((t : ℕ) (flip : Bool) → Contains to t → P (way kind from t flip)) → All P (row kind from to)
row_each P kind from [] each = All-nil P
row_each P kind from (t ∷ to) each =
    let here : Contains (t ∷ to) t = (0, omega arith, refl) in
    All-cons P (way kind from t false) (way kind from t true ∷ row kind from to) (each t false here) (All-cons P (way kind from t true) (row kind from to) (each t true here) (row_each P kind from to (λ s flip there. each s flip (contains_cons to t s there))))

rows_each : (P : Pair → Type 0) (kind : PortKind) (from to : List ℕ) → ((f t : ℕ) (flip : Bool) → Contains from f → Contains to t → P (way kind f t flip)) → All P (ways kind from to)
rows_each P kind [] to each = All-nil P
rows_each P kind (f ∷ from) to each =
    let here : Contains (f ∷ from) f = (0, omega arith, refl) in
    All-append P (row kind f to) (ways kind from to) (row_each P kind f to (λ t flip there. each f t flip here there)) (rows_each P kind from to (λ g t flip first second. each g t flip (contains_cons from f g first) second))

-- what holds of each way to pair two ports of a block
pub each_in : (P : Pair → Type 0) (block : Block) → ((f t : ℕ) (flip : Bool) → Contains block.from f → Contains block.to t → P (way block.kind f t flip)) → All P (ways_in block)
each_in P block each = rows_each P block.kind block.from block.to each
