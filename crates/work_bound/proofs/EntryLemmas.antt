-- Entries whose queries have numbers, and are apart: as many entries with lines as there are numbers at most.
use Rattle.std.proofs.Common.{◌≡◌, ◌≢◌, ℕ, suc, ◌*◌, ◌<◌, ◌≤◌, eqb, List, [], ◌∷◌, length, All, AllPairs, Any, sum_by, slice_index_or, inl, inr, refl, subst, arith}
use Rattle.std.specs.List.{IsDistinct}
use Rattle.std.proofs.Math.Nat.{mul-le-mul_right}
use Rattle.std.proofs.lemmas.Bool.{eq-eqb, eqb-true}
use Rattle.std.proofs.lemmas.Bool.Decides.{leb_tells}
use Rattle.std.proofs.lemmas.Nat.{row_fits}
use Rattle.std.proofs.lemmas.List.Elements.{All-cons, All-contains, All-nil, All-tail}
use Rattle.std.proofs.lemmas.List.Kept.{AllPairs-cons}
use Rattle.std.proofs.lemmas.List.Sums.{sum_by-cons}
use Rattle.std.proofs.lemmas.Map.Views.{Contains-from_any}
use Rattle.std.proofs.lemmas.Map.Made.{IsDistinct-from_AllPairs}
use Rattle.std.proofs.lemmas.Map.Steps.{length-le_from_distinct_below}
use Rattle.claim_core.specs.declared.query.Query.{Query}
use Rattle.query_core.specs.declared.ledger.Asked.{Asked}
use Rattle.query_core.specs.Ledgers.{charged_in}
use Rattle.oracle_core.specs.Work.{AreApart, IsCharged}

-- different numbers below a count are at most as many
few_numbers : (numbers : List ℕ) (count : ℕ) → All (λ k. k < count) numbers → AllPairs (λ j k. j ≢ k) numbers → length numbers ≤ count
few_numbers numbers count below apart =
    let distinct : IsDistinct eqb numbers = IsDistinct-from_AllPairs (λ a b. (eqb-true a b, eq-eqb a b)) numbers apart in
    length-le_from_distinct_below numbers count distinct (λ q found. All-contains (λ k. k < count) numbers q below (Contains-from_any (λ x y same. eqb-true x y same) q numbers found))

all_pairs_tail : {X : Type 0} (R : X → X → Type 0) (x : X) (xs : List X) → AllPairs R (x ∷ xs) → AllPairs R xs
all_pairs_tail R x xs all i j d before within = all (suc i) (suc j) d (omega (arith, before)) (omega (arith, within))

all_pairs_head : {X : Type 0} (R : X → X → Type 0) (x : X) (xs : List X) → AllPairs R (x ∷ xs) → All (R x) xs
all_pairs_head R x xs all k d within = all 0 (suc k) d (omega arith) (omega (arith, within))

any_later : {X : Type 0} (P : X → Type 0) (x : X) (xs : List X) → Any P xs → Any P (x ∷ xs)
any_later P x xs is = (suc is.0, is.1, omega (arith, is.2), is.3, is.4)

-- an entry has lines, and its query has this number
abbrev IsEntryOf : (Query → ℕ → Type 0) → ℕ → Asked → Type 0
IsEntryOf HasNumber k entry = IsCharged entry × HasNumber entry.query k

-- The numbers of the entries that have lines.
record AreNumbers (HasNumber : Query → ℕ → Type 0) (count most : ℕ) (asked : List Asked) : Type 0 where
  numbers : List ℕ
  below : All (λ k. k < count) numbers
  apart : AllPairs (λ j k. j ≢ k) numbers
  of_entries : All (λ k. Any (IsEntryOf HasNumber k) asked) numbers
  few : sum_by charged_in asked ≤ length numbers * most

-- A query has a number below a count.
pub record IsCounted (HasNumber : Query → ℕ → Type 0) (count : ℕ) (query : Query) : Type 0 where
  pub number : ℕ
  pub below : number < count
  pub is : HasNumber query number

module _ (HasNumber : Query → ℕ → Type 0) (count most : ℕ) where
  no_numbers : AreNumbers HasNumber count most []
  no_numbers = record {
    numbers = [];
    below = All-nil (λ k. k < count);
    apart = λ i j d before within. absurd (omega (arith, within));
    of_entries = All-nil (λ k. Any (IsEntryOf HasNumber k) []);
    few = omega arith;
  }

  -- an entry without lines
  not_charged : (entry : Asked) (asked : List Asked) → length entry.lines ≤ entry.lemmas → AreNumbers HasNumber count most asked → AreNumbers HasNumber count most (entry ∷ asked)
  not_charged entry asked none are = record {
    numbers = are.numbers;
    below = are.below;
    apart = are.apart;
    of_entries = λ k d within. any_later (IsEntryOf HasNumber (slice_index_or are.numbers k d)) entry asked (are.of_entries k d within);
    few = omega (arith, sum_by-cons charged_in entry asked, are.few, none);
  }

  -- an entry with lines has another number than each later one
  charged : ((one other : Query) (k : ℕ) → HasNumber one k → HasNumber other k → one ≡ other) → (entry : Asked) (asked : List Asked) → IsCharged entry → charged_in entry ≤ most → IsCounted HasNumber count entry.query → All (AreApart entry) asked → AreNumbers HasNumber count most asked → AreNumbers HasNumber count most (entry ∷ asked)
  charged same entry asked is few counted others are = record {
    numbers = counted.number ∷ are.numbers;
    below = All-cons (λ k. k < count) counted.number are.numbers counted.below are.below;
    apart = AllPairs-cons (λ j k. j ≢ k) counted.number are.numbers another are.apart;
    of_entries = All-cons (λ k. Any (IsEntryOf HasNumber k) (entry ∷ asked)) counted.number are.numbers
        (0, entry, omega arith, refl, (is, counted.is))
        (λ k d within. any_later (IsEntryOf HasNumber (slice_index_or are.numbers k d)) entry asked (are.of_entries k d within));
    few = omega (arith, sum_by-cons charged_in entry asked, are.few, few, row_fits (length are.numbers) most (length (counted.number ∷ are.numbers)) most (omega arith) (omega arith));
  }
    where
      another : All (λ k. counted.number ≢ k) are.numbers
      another k d within equal =
          let found = are.of_entries k d within in
          let later = found.1 in
          let here : HasNumber entry.query (slice_index_or are.numbers k d) = subst (HasNumber entry.query) equal counted.is in
          let apart : AreApart entry later = subst (AreApart entry) found.3 (others found.0 later found.2) in
          apart is found.4.0 (same entry.query later.query (slice_index_or are.numbers k d) here found.4.1)

  are_numbers : ((one other : Query) (k : ℕ) → HasNumber one k → HasNumber other k → one ≡ other) → (asked : List Asked) → All (λ entry. IsCounted HasNumber count entry.query) asked → All (λ entry. charged_in entry ≤ most) asked → AllPairs AreApart asked → AreNumbers HasNumber count most asked
  are_numbers same [] counted few apart = no_numbers
  are_numbers same (entry ∷ asked) counted few apart =
      let rest = are_numbers same asked (All-tail (λ (e : Asked). IsCounted HasNumber count e.query) entry asked counted) (All-tail (λ (e : Asked). charged_in e ≤ most) entry asked few) (all_pairs_tail AreApart entry asked apart) in
      elim (leb_tells (length entry.lines) entry.lemmas) [
        | inl (test, none) ↦ not_charged entry asked none rest
        | inr (test, some) ↦ charged same entry asked some (few 0 entry (omega arith)) (counted 0 entry (omega arith)) (all_pairs_head AreApart entry asked apart) rest
      ]

-- as many lines in all as there are numbers, each for at most so many
pub lines_counted : (HasNumber : Query → ℕ → Type 0) (count most : ℕ) → ((one other : Query) (k : ℕ) → HasNumber one k → HasNumber other k → one ≡ other) → (asked : List Asked) → All (λ entry. IsCounted HasNumber count entry.query) asked → All (λ entry. charged_in entry ≤ most) asked → AllPairs AreApart asked → sum_by charged_in asked ≤ count * most
lines_counted HasNumber count most same asked counted few apart =
    let are = are_numbers HasNumber count most same asked counted few apart in
    omega (arith, are.few, mul-le-mul_right most (few_numbers are.numbers count are.below are.apart))
