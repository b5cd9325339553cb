-- What the effect of a clause says of literals on a trail.
use Rattle.std.proofs.Common.{◌≡◌, ◌||◌, cond, Bool, true, false, List, [], ◌∷◌, length, All, None, Some, slice_index_or, ◌⊎◌, inl, inr, refl, sym, ◌∙◌, ap, arith, eq-eqb, eqb-true}
use Rattle.std.specs.List.{list_all}
use Rattle.std.proofs.lemmas.List.Recursion.{and_from_places}
use Rattle.std.proofs.lemmas.Bool.{false≢true, or_cases, or_left, or_right}
use Rattle.std.proofs.lemmas.List.Elements.{All-cons, All-nil}
use Rattle.cnf_core.specs.declared.literal.SatLit.{SatLit}
use Rattle.cnf_core.specs.Derivations.{is_same, is_true, is_false}
use Rattle.trail_core.specs.Trails.{value_in}
use Rattle.watch_lists.specs.WatchStates.{IsHalfFalse, IsFalseOrOther}
pub use Rattle.cnf_core.proofs.LiteralLemmas.{same_itself, same_literal}
pub use Rattle.cnf_core.proofs.EffectLemmas.{IsMaker, all_false, conflict_from, conflict_says, known_at, makes_from, makes_says, neither_true, neither_two, not_neither, open_ones}

-- literals that are each false or this one
pub all_but : (made clause : List SatLit) (l : SatLit) → All (IsFalseOrOther made l) clause → list_all (λ y. is_false made y || is_same l y) clause ≡ true
all_but made clause l all = and_from_places (list_all (λ y. is_false made y || is_same l y)) (λ y. is_false made y || is_same l y) refl (λ _ _. refl) clause l (λ k within. by_case (slice_index_or clause k l) (all k l within))
  where
    by_case : (y : SatLit) → IsFalseOrOther made l y → (is_false made y || is_same l y) ≡ true
    by_case y (inl falsity) = or_left (is_false made y) (is_same l y) falsity
    by_case y (inr same) = or_right (is_false made y) (is_same l y) (eq-eqb l.0 y.0 same)

-- what a value says
pub value_false : (made : List SatLit) (l : SatLit) → value_in made l ≡ Some false → is_false made l ≡ true
value_false made l e = by_tests (is_true made l) (is_false made l) e
  where
    by_tests : (t f : Bool) → cond t (Some true) (cond f (Some false) None) ≡ Some false → f ≡ true
    by_tests true f h = absurd (let x : Some true ≡ Some false = h in cc)
    by_tests false true h = refl
    by_tests false false h = absurd (let x : None ≡ Some false = h in cc)

-- a literal of a clause of two is the first or the second
one_of_two : (l a b : SatLit) → is_true (a ∷ b ∷ []) l ≡ true → (is_same l a ≡ true) ⊎ (is_same l b ≡ true)
one_of_two l a b there = elim (or_cases (is_same l a) (is_same l b || false) there) [
  | inl first ↦ inl first
  | inr later ↦ elim (or_cases (is_same l b) false later) [ inl second ↦ inr second | inr none ↦ absurd (false≢true none) ]
]

all_two : (made : List SatLit) (l a b : SatLit) → IsFalseOrOther made l a → IsFalseOrOther made l b → All (IsFalseOrOther made l) (a ∷ b ∷ [])
all_two made l a b first second =
    All-cons (IsFalseOrOther made l) a (b ∷ []) first (All-cons (IsFalseOrOther made l) b [] second (All-nil (IsFalseOrOther made l)))

-- a binary clause has no literal but its two watched ones
pub binary_out : (made clause : List SatLit) (l : SatLit) → length clause ≡ 2 → IsHalfFalse made clause l → All (IsFalseOrOther made l) clause
binary_out made [] l two half = absurd (omega (arith, two))
binary_out made (a ∷ []) l two half = absurd (omega (arith, two))
binary_out made (a ∷ b ∷ []) l two half = elim (one_of_two l a b half.other_there) [
  | inl mine ↦ elim (one_of_two half.falsified a b half.there) [
    | inl same ↦ absurd (half.differs (eqb-true half.falsified.0 a.0 same ∙ sym (eqb-true l.0 a.0 mine)))
    | inr is_false_one ↦ all_two made l a b (inr (eqb-true l.0 a.0 mine)) (inl (ap (is_false made) (sym (same_literal half.falsified b is_false_one)) ∙ half.fails))
  ]
  | inr mine ↦ elim (one_of_two half.falsified a b half.there) [
    | inl is_false_one ↦ all_two made l a b (inl (ap (is_false made) (sym (same_literal half.falsified a is_false_one)) ∙ half.fails)) (inr (eqb-true l.0 b.0 mine))
    | inr same ↦ absurd (half.differs (eqb-true half.falsified.0 b.0 same ∙ sym (eqb-true l.0 b.0 mine)))
  ]
]
binary_out made (a ∷ b ∷ x ∷ clause) l two half = absurd (omega (arith, two))
