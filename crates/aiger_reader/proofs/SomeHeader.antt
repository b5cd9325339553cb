-- Each file begins with a header that is accepted, or has a fault there.
use Rattle.std.proofs.Common.{◌≡◌, ℕ, ◌+◌, ◌^◌, ◌<◌, ◌≤◌, ◌⊎◌, Bool, true, false, List, ◌∷◌, length, map, take, Option, None, Some, inl, inr, refl, sym, ap, ap₂, ◌∙◌, subst, arith}
use Rattle.net_file.specs.declared.fault.NetKind.{NetKind}
use Rattle.net_file.specs.declared.fault.NetKind.TheVariants as kind
use Rattle.aiger_reader.specs.Words.{numbers_on}
use Rattle.aiger_reader.specs.Headers.{AigerHeader, header_numbers, keyword, line_after, HasHeader, header_fault, Begins}
use Rattle.aiger_reader.specs.Numbers.{IsHeaderFault}
use Rattle.aiger_reader.proofs.HeaderLemmas.{map_same, keyword_same}
use Rattle.aiger_reader.proofs.OneBody.{header_from_row}
use Rattle.aiger_reader.proofs.DecidableLemmas.{Decidable, decidable_both, decidable_by, decidable_if, decidable_same, decidable_le, decidable_lt, decidable_true, decidable_all, decidable_list, decidable_some}

-- the file's only header is that of its numbers
header_is : (bytes : List ℕ) (binary : Bool) (row : List ℕ) (h : AigerHeader) → take 4 bytes ≡ keyword binary → numbers_on (line_after bytes) ≡ map Some row → HasHeader bytes h → h ≡ header_from_row binary row
header_is bytes binary row h begins written has =
    ap₂ header_from_row (keyword_same h.binary binary (sym has.begins ∙ begins)) (map_same (header_numbers h) row (sym has.numbers.written ∙ written))

five_numbers : (binary : Bool) (row : List ℕ) → 5 ≤ length row → header_numbers (header_from_row binary row) ≡ row
five_numbers binary (a ∷ b ∷ c ∷ d ∷ e ∷ rest) enough = refl
five_numbers binary row enough = absurd (omega arith)

decidable_enough : (bytes : List ℕ) (binary : Bool) (row : List ℕ) → take 4 bytes ≡ keyword binary → numbers_on (line_after bytes) ≡ map Some row → 5 ≤ length row → Decidable (HasHeader bytes (header_from_row binary row))
decidable_enough bytes binary row begins written enough =
    let h = header_from_row binary row in
    let same = five_numbers binary row enough in
    let numbers = decidable_both (decidable_le (length h.properties) 4) (decidable_all (λ n. n < 2 ^ 32) (λ n. decidable_lt n (2 ^ 32)) (header_numbers h)) in
    let counts = decidable_both (decidable_le (h.inputs + h.latches + h.gates) h.variables) (decidable_if (decidable_true h.binary) (decidable_same (h.inputs + h.latches + h.gates) h.variables)) in
    decidable_by (λ both. record {
      begins = begins;
      numbers = record { written = written ∙ ap (map Some) (sym same); few = both.0.0; small = both.0.1 };
      counted = both.1.0;
      no_gaps = both.1.1;
    }) (λ has. ((has.numbers.few, has.numbers.small), (has.counted, has.no_gaps))) (decidable_both numbers counts)

decidable_row : (bytes : List ℕ) (binary : Bool) (row : List ℕ) → take 4 bytes ≡ keyword binary → numbers_on (line_after bytes) ≡ map Some row → Decidable (HasHeader bytes (header_from_row binary row))
decidable_row bytes binary row begins written =
    elim (decidable_le 5 (length row)) [
      | inl enough ↦ decidable_enough bytes binary row begins written enough
      | inr few ↦ inr (λ has. let same = map_same (header_numbers (header_from_row binary row)) row (sym has.numbers.written ∙ written) in few (omega (arith, ap length same)))
    ]

abbrev HasSome : List ℕ → Type 0
HasSome bytes = (h : AigerHeader) × HasHeader bytes h

decidable_form : (bytes : List ℕ) (binary : Bool) → take 4 bytes ≡ keyword binary → Decidable (HasSome bytes)
decidable_form bytes binary begins =
    elim (decidable_some (numbers_on (line_after bytes))) [
      | inr none ↦ inr (λ has. none (header_numbers has.0, has.1.numbers.written))
      | inl row ↦ decidable_by (λ has. (header_from_row binary row.0, has)) (λ has. subst (HasHeader bytes) (header_is bytes binary row.0 has.0 begins row.1 has.1) has.1) (decidable_row bytes binary row.0 begins row.1)
    ]

no_form : (bytes : List ℕ) (binary : Bool) → (take 4 bytes ≡ keyword true → ⊥) → (take 4 bytes ≡ keyword false → ⊥) → take 4 bytes ≡ keyword binary → ⊥
no_form bytes true not_binary not_text begins = not_binary begins
no_form bytes false not_binary not_text begins = not_text begins

decidable_header : (bytes : List ℕ) → Decidable (HasSome bytes)
decidable_header bytes =
    elim (decidable_list (take 4 bytes) (keyword true)) [
      | inl begins ↦ decidable_form bytes true begins
      | inr not_binary ↦ elim (decidable_list (take 4 bytes) (keyword false)) [
        | inl begins ↦ decidable_form bytes false begins
        | inr not_text ↦ inr (λ has. no_form bytes has.0.binary not_binary not_text has.1.begins)
      ]
    ]

abbrev pub IsBegun : List ℕ → Type 0
IsBegun bytes = (h : AigerHeader) × Begins bytes h

abbrev HasFault : List ℕ → Type 0
HasFault bytes = (fault : NetKind) × IsHeaderFault bytes fault

accepted_or_fault : (bytes : List ℕ) (h : AigerHeader) (fault : Option NetKind) → header_fault h ≡ fault → HasHeader bytes h → IsBegun bytes ⊎ HasFault bytes
accepted_or_fault bytes h None is has = inl (h, record { header = has; accepted = is })
accepted_or_fault bytes h (Some fault) is has = inr (fault, inr (h, has, is))

pub begun_or_fault : (bytes : List ℕ) → IsBegun bytes ⊎ HasFault bytes
begun_or_fault bytes =
    elim (decidable_header bytes) [
      | inl has ↦ accepted_or_fault bytes has.0 (header_fault has.0) refl has.1
      | inr none ↦ inr (kind.Header, inl (refl, λ h has. none (h, has)))
    ]
