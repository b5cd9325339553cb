-- Numbers that ascend, read from the front.
use Rattle.std.proofs.Common.{◌≡◌, ℕ, suc, ◌+◌, ◌<◌, ◌≤◌, List, [], ◌∷◌, length, get_or, drop, ◌↔◌, true, sym, subst, arith}
use Rattle.std.proofs.lemmas.List.{drop_all}
use Rattle.std.proofs.lemmas.List.Elements.{All-cons}
use Rattle.std.proofs.lemmas.List.Kept.{AllPairs-cons}
use Rattle.std.specs.Bool.{IsTrue}
use Rattle.account_core.specs.Tallies.{Ascend}
use Rattle.ban_check.specs.Counted.{AscendFrom}
use Rattle.ban_check.proofs.BoolLemmas.{granted}

pub none_ascend : (least : ℕ) → AscendFrom least []
none_ascend least = record {
  ascend = λ i j d lt within. absurd (omega arith);
  least_first = λ k d below. absurd (omega arith);
}

pub ascend_more : (least x : ℕ) (xs : List ℕ) → least ≤ x → AscendFrom (x + 1) xs → AscendFrom least (x ∷ xs)
ascend_more least x xs within rest = record {
  ascend = AllPairs-cons (λ a b. a < b) x xs (λ k d below. let e = rest.least_first k d below in omega (arith, e)) rest.ascend;
  least_first = All-cons (λ n. least ≤ n) x xs within (λ k d below. let e = rest.least_first k d below in omega (arith, e, within));
}

pub ascend_rest : (least x : ℕ) (xs : List ℕ) → AscendFrom least (x ∷ xs) → (least ≤ x) × AscendFrom (x + 1) xs
ascend_rest least x xs whole = (
  whole.least_first 0 x (omega arith),
  record {
    ascend = λ i j d lt within. whole.ascend (suc i) (suc j) d (omega arith) (omega arith);
    least_first = λ k d below. let e : x < get_or xs k d = whole.ascend 0 (suc k) d (omega arith) (omega arith) in omega (arith, e);
  },
)

-- from no bound on
pub all_ascend : (numbers : List ℕ) → Ascend numbers → AscendFrom 0 numbers
all_ascend numbers ascend = record { ascend = ascend; least_first = λ k d below. omega arith }

-- one number more is read
pub ascent_step : (P : Type 0) (least x : ℕ) (xs ys : List ℕ) → ys ≡ x ∷ xs → least ≤ x → (AscendFrom least ys ↔ P) → (AscendFrom (x + 1) xs ↔ P)
ascent_step P least x xs ys is within so_far = (
  (λ rest. so_far.0 (subst (AscendFrom least) (sym is) (ascend_more least x xs within rest))),
  (λ p. (ascend_rest least x xs (subst (AscendFrom least) is (so_far.1 p))).1),
)

-- all numbers are read
pub ascent_end : (P : Type 0) (least : ℕ) (numbers : List ℕ) (k : ℕ) → length numbers ≤ k → (AscendFrom least (drop k numbers) ↔ P) → IsTrue true ↔ P
ascent_end P least numbers k all so_far =
    granted P (so_far.0 (subst (AscendFrom least) (sym (drop_all k numbers all)) (none_ascend least)))
