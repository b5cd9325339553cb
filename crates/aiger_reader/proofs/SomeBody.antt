-- Each file with a header has all its lines, or a first bad one, and reads what some line defines, or a first unknown.
use Rattle.std.proofs.Common.{◌≡◌, ◌≢◌, ℕ, ◌+◌, ◌*◌, ◌/◌, ◌%◌, ◌<◌, ◌≤◌, ◌⊎◌, IsTrue, List, [], ◌∷◌, ◌++◌, length, get_or, AllPairs, Contains, inl, inr, refl, sym, ap, ◌∙◌, subst, arith, append-nil}
use Rattle.std.proofs.lemmas.Bool.{cases_lt}
use Rattle.std.proofs.lemmas.List.{get_or_default, length_push}
use Rattle.std.proofs.lemmas.List.Quantifiers.{all_pairs_push}
use Rattle.net_file.specs.declared.fault.NetKind.{NetKind}
use Rattle.net_file.specs.declared.fault.NetKind.TheVariants as kind
use Rattle.aiger_reader.specs.Words.{numbers_on}
use Rattle.aiger_reader.specs.Headers.{AigerHeader}
use Rattle.aiger_reader.specs.Bodies.{Role, Input, Output, Gate, roles_of, role_at, width_of, defines, defined, body_lines, line_offset, first_of, Writes, IsGoodRow, AreGood, IsFirstFault, AreLines, IsKnown, IsKnownRow, IsUndefined, reads}
use Rattle.aiger_reader.specs.Reading.{IsNextLine}
use Rattle.aiger_reader.proofs.HeaderLemmas.{map_same}
use Rattle.aiger_reader.proofs.GoodLemmas.{defined_by, defined_none, defined_more, good_more, row_good}
use Rattle.aiger_reader.proofs.OneBody.{defines_one}
use Rattle.aiger_reader.proofs.DecidableLemmas.{Decidable, decidable_both, decidable_by, decidable_if, decidable_not, decidable_same, decidable_le, decidable_true, decidable_all, decidable_contains, decidable_some, all_or_first, steps_or}

decidable_writes : (line : List ℕ) (role : Role) → Decidable ((row : List ℕ) × Writes line role row)
decidable_writes line role =
    elim (decidable_some (numbers_on line)) [
      | inr none ↦ inr (λ writes. none (writes.0, writes.1.numbers))
      | inl row ↦ decidable_by (λ wide. (row.0, record { numbers = row.1; width = wide })) (λ writes. ap length (map_same row.0 writes.0 (sym row.1 ∙ writes.1.numbers)) ∙ writes.1.width) (decidable_same (length row.0) (width_of role))
    ]

decidable_good : (h : AigerHeader) (role : Role) (row : List ℕ) → Decidable (IsGoodRow h role row)
decidable_good h role row =
    let range = decidable_all (λ literal. literal ≤ 2 * h.variables + 1) (λ literal. decidable_le literal (2 * h.variables + 1)) row in
    let plain = decidable_if (decidable_true (defines role)) (decidable_both (decidable_same (first_of row % 2) 0) (decidable_le 2 (first_of row))) in
    decidable_by (λ both. record { in_range = both.0; plain = both.1 }) (λ good. (good.in_range, good.plain)) (decidable_both range plain)

abbrev AreDistinct : List ℕ → Type 0
AreDistinct variables = AllPairs (λ one other. one ≢ other) variables

distinct_more : (variables : List ℕ) (v : ℕ) → AreDistinct variables → (Contains variables v → ⊥) → AreDistinct (variables ++ v ∷ [])
distinct_more variables v distinct fresh =
    all_pairs_push (λ one other. one ≢ other) variables v distinct (λ k d below same. fresh (k, below, get_or_default variables k v d below ∙ same))

defines_none : (role : Role) (row : List ℕ) → (IsTrue (defines role) → ⊥) → defined_by role row ≡ []
defines_none Input row not_so = absurd (not_so refl)
defines_none Output row not_so = refl
defines_none Gate row not_so = absurd (not_so refl)

abbrev IsAgain : List ℕ → Role → List ℕ → Type 0
IsAgain variables role row = IsTrue (defines role) × Contains variables (first_of row / 2)

distinct_then : (variables : List ℕ) (role : Role) (row : List ℕ) → AreDistinct variables → (IsAgain variables role row → ⊥) → AreDistinct (variables ++ defined_by role row)
distinct_then variables role row distinct fresh =
    elim (decidable_true (defines role)) [
      | inl defining ↦ subst (λ vs. AreDistinct (variables ++ vs)) (sym (defines_one role row defining)) (distinct_more variables (first_of row / 2) distinct (λ there. fresh (defining, there)))
      | inr not_so ↦ subst AreDistinct (sym (ap (λ vs. variables ++ vs) (defines_none role row not_so) ∙ append-nil variables)) distinct
    ]

-- n good lines, or a first fault
abbrev Front : List ℕ → AigerHeader → ℕ → Type 0
Front bytes h n = (rows : List (List ℕ)) × AreGood h (body_lines bytes) rows × (length rows ≡ n)

abbrev pub HasBodyFault : List ℕ → AigerHeader → Type 0
HasBodyFault bytes h = (fault : NetKind) × (at : ℕ) × IsFirstFault bytes h fault at

front_more : (bytes : List ℕ) (h : AigerHeader) (rows : List (List ℕ)) (row : List ℕ) → AreGood h (body_lines bytes) rows → length rows < length (roles_of h) → length rows < length (body_lines bytes) → Writes (get_or (body_lines bytes) (length rows) []) (role_at h (length rows)) row → IsGoodRow h (role_at h (length rows)) row → (IsAgain (defined (roles_of h) rows) (role_at h (length rows)) row → ⊥) → AreGood h (body_lines bytes) (rows ++ row ∷ [])
front_more bytes h rows row good announced there writes fine fresh =
    let role = role_at h (length rows) in
    let body = body_lines bytes in
    let next : IsNextLine h rows (width_of role) (defines role) = record { announced = announced; wide = refl; role = refl } in
    let distinct = subst AreDistinct (sym (defined_more (roles_of h) rows row announced)) (distinct_then (defined (roles_of h) rows) role row good.distinct fresh) in
    good_more h body rows row (width_of role) (defines role) next there writes.width (row_good h rows (get_or body (length rows) []) row (width_of role) (defines role) next writes.numbers fine) distinct good

row_or_fault : (bytes : List ℕ) (h : AigerHeader) (rows : List (List ℕ)) (row : List ℕ) → AreGood h (body_lines bytes) rows → length rows < length (roles_of h) → length rows < length (body_lines bytes) → Writes (get_or (body_lines bytes) (length rows) []) (role_at h (length rows)) row → Front bytes h (length rows + 1) ⊎ HasBodyFault bytes h
row_or_fault bytes h rows row good announced there writes =
    let role = role_at h (length rows) in
    let at = line_offset bytes (length rows + 1) in
    elim (decidable_good h role row) [
      | inr bad ↦ inr (kind.BadLiteral, at, record { rows = rows; good = good; line_announced = announced; why = (record { row = row; there = there; written = writes; bad = bad }, refl) })
      | inl fine ↦ elim (decidable_both (decidable_true (defines role)) (decidable_contains (defined (roles_of h) rows) (first_of row / 2))) [
        | inl again ↦ inr (kind.Redefined, at, record { rows = rows; good = good; line_announced = announced; why = (record { row = row; there = there; written = writes; good = fine; defining = again.0; before = again.1 }, refl) })
        | inr fresh ↦ inl (rows ++ row ∷ [], front_more bytes h rows row good announced there writes fine fresh, length_push rows row)
      ]
    ]

line_or_fault : (bytes : List ℕ) (h : AigerHeader) (rows : List (List ℕ)) → AreGood h (body_lines bytes) rows → length rows < length (roles_of h) → Front bytes h (length rows + 1) ⊎ HasBodyFault bytes h
line_or_fault bytes h rows good announced =
    let line = get_or (body_lines bytes) (length rows) [] in
    elim (cases_lt (length rows) (length (body_lines bytes))) [
      | inr none ↦ inr (kind.Truncated, length bytes, record { rows = rows; good = good; line_announced = announced; why = (omega (arith, none, good.there), refl) })
      | inl there ↦ elim (decidable_writes line (role_at h (length rows))) [
        | inl writes ↦ row_or_fault bytes h rows writes.0 good announced there writes.1
        | inr none ↦ inr (kind.BadLine, line_offset bytes (length rows + 1), record { rows = rows; good = good; line_announced = announced; why = (record { there = there; unwritten = λ row writes. none (row, writes) }, refl) })
      ]
    ]

front_none : (bytes : List ℕ) (h : AigerHeader) → Front bytes h 0
front_none bytes h = (
  [],
  record {
    announced = omega arith;
    there = omega arith;
    written = λ k below. absurd (omega (arith, below));
    good = λ k below. absurd (omega (arith, below));
    distinct = subst AreDistinct (sym (defined_none (roles_of h))) (λ i j d before below. absurd (omega (arith, below)));
  },
  refl,
)

pub body_or_bad : (bytes : List ℕ) (h : AigerHeader) → ((rows : List (List ℕ)) × AreLines bytes h rows) ⊎ HasBodyFault bytes h
body_or_bad bytes h =
    let next : (n : ℕ) → n < length (roles_of h) → Front bytes h n → Front bytes h (n + 1) ⊎ HasBodyFault bytes h = λ n below front.
    subst (λ m. Front bytes h (m + 1) ⊎ HasBodyFault bytes h) front.2 (line_or_fault bytes h front.0 front.1 (omega (arith, front.2, below))) in
    elim (steps_or (Front bytes h) (HasBodyFault bytes h) (length (roles_of h)) (front_none bytes h) next) [
      | inr bad ↦ inr bad
      | inl front ↦ inl (front.0, record { good = front.1; whole = front.2 })
    ]

decidable_known : (h : AigerHeader) (rows : List (List ℕ)) (k : ℕ) → Decidable (IsKnownRow h rows k)
decidable_known h rows k =
    let variables = defined (roles_of h) rows in
    decidable_all (IsKnown variables) (λ literal. decidable_if (decidable_not (decidable_same (literal / 2) 0)) (decidable_contains variables (literal / 2))) (reads (role_at h k) (get_or rows k []))

pub known_or_not : (bytes : List ℕ) (h : AigerHeader) (rows : List (List ℕ)) → ((k : ℕ) → k < length rows → IsKnownRow h rows k) ⊎ ((at : ℕ) × IsUndefined bytes h rows at)
known_or_not bytes h rows =
    elim (all_or_first (IsKnownRow h rows) (decidable_known h rows) (length rows)) [
      | inl known ↦ inl known
      | inr found ↦ inr (line_offset bytes (found.0 + 1), record { place = found.0; there = found.1.0; unknown = found.1.1; first = found.1.2; offset = refl })
    ]
