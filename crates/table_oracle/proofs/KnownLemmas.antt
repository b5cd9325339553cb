-- Literals that are known, true or false, and clauses that are held by a true one: once a gate's operands are known and its three
-- clauses are held, its literal is known.
use Rattle.std.proofs.Common.{◌≡◌, ℕ, zero, suc, ◌<◌, ◌&&◌, ◌||◌, Bool, true, false, List, [], ◌∷◌, inl, inr, refl, sym, ◌∙◌, ap, arith}
use Rattle.std.specs.List.{list_any, list_all}
use Rattle.std.proofs.lemmas.Bool.{and_from, and_parts, both_ways, cases_Bool, false≢true, or_cases, or_left, or_parts, or_right}
use Rattle.cnf_core.specs.declared.literal.SatLit.{SatLit}
use Rattle.cnf_core.specs.declared.effect.Effect.TheVariants.{Neither}
use Rattle.cnf_core.specs.Clauses.{clause_at, opposite}
use Rattle.cnf_core.specs.Derivations.{effect_of, is_false, is_same, is_true}
use Rattle.claim_core.specs.Formulas.{and_clauses}
use Rattle.cnf_core.proofs.LiteralLemmas.{same_itself, same_literal}
use Rattle.cnf_core.proofs.EffectLemmas.{not_neither}
use Rattle.cnf_core.proofs.LiteralLemmas.{opposite_twice}

abbrev pub IsKnown : List SatLit → SatLit → Type 0
IsKnown made l = (is_true made l || is_false made l) ≡ true

abbrev pub IsHeld : List SatLit → List SatLit → Type 0
IsHeld made clause = list_any (is_true made) clause ≡ true

-- no literal stands beside its opposite
abbrev pub AreApart : List SatLit → Type 0
AreApart made = (l : SatLit) → is_true made l ≡ true → is_false made l ≡ false

-- known, or this one
abbrev pub is_known_or : List SatLit → SatLit → SatLit → Bool
is_known_or made l y = (is_true made y || is_false made y) || is_same l y

pub known_opposite : (made : List SatLit) (l : SatLit) → IsKnown made l → IsKnown made (opposite l)
known_opposite made l known =
    elim (or_cases (is_true made l) (is_false made l) known) [
      | inl truth ↦ or_right (is_true made (opposite l)) (is_false made (opposite l)) (ap (is_true made) (opposite_twice l) ∙ truth)
      | inr falsity ↦ or_left (is_true made (opposite l)) (is_false made (opposite l)) falsity
    ]

-- a clause all of whose literals but one are known is held where it is neither a conflict nor leaves that one
pub held_by : (made clause : List SatLit) (l : SatLit) → list_all (is_known_or made l) clause ≡ true → list_any (is_same l) clause ≡ true → effect_of made clause ≡ Neither → IsHeld made clause
held_by made clause l known there neither =
    elim (cases_Bool (list_any (is_true made) clause)) [
      | inl held ↦ held
      | inr none ↦ absurd (not_neither made clause l (falsities clause known none) (not_true clause there none) neither)
    ]
  where
    falsities : (ys : List SatLit) → list_all (is_known_or made l) ys ≡ true → list_any (is_true made) ys ≡ false → list_all (λ y. is_false made y || is_same l y) ys ≡ true
    falsities [] k n = refl
    falsities (y ∷ ys) k n =
        let parts = and_parts (is_known_or made l y) (list_all (is_known_or made l) ys) k in
        let free = or_parts (is_true made y) (list_any (is_true made) ys) n in
        and_from (is_false made y || is_same l y) (list_all (λ y'. is_false made y' || is_same l y') ys) (sym (ap (λ t. (t || is_false made y) || is_same l y) free.0) ∙ parts.0) (falsities ys parts.1 free.1)

    not_true : (ys : List SatLit) → list_any (is_same l) ys ≡ true → list_any (is_true made) ys ≡ false → is_true made l ≡ false
    not_true [] t n = absurd (false≢true t)
    not_true (y ∷ ys) t n =
        let free = or_parts (is_true made y) (list_any (is_true made) ys) n in
        elim (or_cases (is_same l y) (list_any (is_same l) ys) t) [
          | inl here ↦ ap (is_true made) (same_literal l y here) ∙ free.0
          | inr after ↦ not_true ys after free.1
        ]

this_one : (made : List SatLit) (l : SatLit) → is_known_or made l l ≡ true
this_one made l = or_right (is_true made l || is_false made l) (is_same l l) (same_itself l)

known_one : (made : List SatLit) (l y : SatLit) → IsKnown made y → is_known_or made l y ≡ true
known_one made l y known = or_left (is_true made y || is_false made y) (is_same l y) known

pub unit_held : (made : List SatLit) (l : SatLit) → effect_of made (l ∷ []) ≡ Neither → IsHeld made (l ∷ [])
unit_held made l neither =
    held_by made (l ∷ []) l (and_from (is_known_or made l l) true (this_one made l) refl) (or_left (is_same l l) false (same_itself l)) neither

pair_held : (made : List SatLit) (l y : SatLit) → IsKnown made y → effect_of made (l ∷ y ∷ []) ≡ Neither → IsHeld made (l ∷ y ∷ [])
pair_held made l y known neither =
    held_by made (l ∷ y ∷ []) l (and_from (is_known_or made l l) (is_known_or made l y && true) (this_one made l) (and_from (is_known_or made l y) true (known_one made l y known) refl)) (or_left (is_same l l) (is_same l y || false) (same_itself l)) neither

three_held : (made : List SatLit) (l y z : SatLit) → IsKnown made y → IsKnown made z → effect_of made (l ∷ y ∷ z ∷ []) ≡ Neither → IsHeld made (l ∷ y ∷ z ∷ [])
three_held made l y z known other neither =
    held_by made (l ∷ y ∷ z ∷ []) l (and_from (is_known_or made l l) (is_known_or made l y && (is_known_or made l z && true)) (this_one made l) (and_from (is_known_or made l y) (is_known_or made l z && true) (known_one made l y known) (and_from (is_known_or made l z) true (known_one made l z other) refl))) (or_left (is_same l l) (is_same l y || (is_same l z || false)) (same_itself l)) neither

-- a clause of a gate whose operands are known
pub gate_held : (made : List SatLit) (v a b : SatLit) (r : ℕ) → IsKnown made a → IsKnown made b → r < 3 → effect_of made (clause_at (and_clauses v a b) r) ≡ Neither → IsHeld made (clause_at (and_clauses v a b) r)
gate_held made v a b zero first second small neither = pair_held made (opposite v) a first neither
gate_held made v a b (suc zero) first second small neither = pair_held made (opposite v) b second neither
gate_held made v a b (suc (suc zero)) first second small neither =
    three_held made v (opposite a) (opposite b) (known_opposite made a first) (known_opposite made b second) neither
gate_held made v a b (suc (suc (suc r))) first second small neither = absurd (omega (arith, small))

-- what is false isn't true
false_apart : (made : List SatLit) (l : SatLit) → AreApart made → is_false made l ≡ true → is_true made l ≡ true → ⊥
false_apart made l apart falsity truth = both_ways (is_false made l) (apart l truth) falsity

-- a pair that is held, one of them false
other_true : (made : List SatLit) (l y : SatLit) → AreApart made → IsHeld made (l ∷ y ∷ []) → is_false made y ≡ true → is_true made l ≡ true
other_true made l y apart held falsity =
    elim (or_cases (is_true made l) (is_true made y || false) held) [
      | inl truth ↦ truth
      | inr after ↦
          elim (or_cases (is_true made y) false after) [
            | inl truth ↦ absurd (false_apart made y apart falsity truth)
            | inr none ↦ absurd (false≢true none)
          ]
    ]

-- once the operands are known, so is the gate
pub gate_known : (made : List SatLit) (v a b : SatLit) → AreApart made → IsKnown made a → IsKnown made b → IsHeld made (opposite v ∷ a ∷ []) → IsHeld made (opposite v ∷ b ∷ []) → IsHeld made (v ∷ opposite a ∷ opposite b ∷ []) → IsKnown made v
gate_known made v a b apart first second one other third =
    elim (or_cases (is_true made a) (is_false made a) first) [
      | inr no_a ↦ or_right (is_true made v) (is_false made v) (other_true made (opposite v) a apart one no_a)
      | inl is_a ↦
          elim (or_cases (is_true made b) (is_false made b) second) [
            | inr no_b ↦ or_right (is_true made v) (is_false made v) (other_true made (opposite v) b apart other no_b)
            | inl is_b ↦ both is_a is_b
          ]
    ]
  where
    both : is_true made a ≡ true → is_true made b ≡ true → IsKnown made v
    both is_a is_b =
        elim (or_cases (is_true made v) (is_true made (opposite a) || (is_true made (opposite b) || false)) third) [
          | inl truth ↦ or_left (is_true made v) (is_false made v) truth
          | inr after ↦
              elim (or_cases (is_true made (opposite a)) (is_true made (opposite b) || false) after) [
                | inl not_a ↦ absurd (both_ways (is_false made a) (apart a is_a) not_a)
                | inr rest ↦
                    elim (or_cases (is_true made (opposite b)) false rest) [
                      | inl not_b ↦ absurd (both_ways (is_false made b) (apart b is_b) not_b)
                      | inr none ↦ absurd (false≢true none)
                    ]
              ]
        ]
