-- Hints of a line: what it says that they lead to a conflict, from the first of them on.
use Rattle.std.proofs.Common.{◌≡◌, ℕ, ◌<◌, ◌⊎◌, cond, List, [], ◌∷◌, ◌++◌, length, None, Some, inl, inr, refl, sym, ◌∙◌, ap}
use Rattle.std.proofs.lemmas.Bool.{cases_lt, le-ltb, lt-ltb}
use Rattle.cnf_core.specs.declared.literal.SatLit.{SatLit}
use Rattle.cnf_core.specs.declared.effect.Effect.{Effect}
use Rattle.cnf_core.specs.declared.effect.Effect.TheVariants.{Conflict, Makes, Neither}
use Rattle.cnf_core.specs.declared.fault.LineFault.TheVariants as fault
use Rattle.cnf_core.specs.Clauses.{clause_at}
use Rattle.cnf_core.specs.Derivations.{effect_of, fault_after, hint_fault}

-- What it says that steps go through: the first is a clause that is there, which is a conflict and the last, or makes a literal
-- true, with which the others go on.
pub hint_says : (clauses : List (List SatLit)) (made : List SatLit) (s : ℕ) (steps : List ℕ) → hint_fault clauses made (s ∷ steps) ≡ None → (s < length clauses) × (((effect_of made (clause_at clauses s) ≡ Conflict) × (steps ≡ [])) ⊎ ((m : SatLit) × (effect_of made (clause_at clauses s) ≡ Makes m) × (hint_fault clauses (made ++ m ∷ []) steps ≡ None)))
hint_says clauses made s steps e =
    elim (cases_lt s (length clauses)) [
      | inr late ↦ absurd (let x : Some fault.UnknownHint ≡ None = sym (ap (λ b. cond b (fault_after (effect_of made (clause_at clauses s)) steps (λ m. hint_fault clauses (made ++ m ∷ []) steps)) (Some fault.UnknownHint)) (le-ltb s (length clauses) late)) ∙ e in cc)
      | inl low ↦ (low, by_effect (effect_of made (clause_at clauses s)) steps (sym (ap (λ b. cond b (fault_after (effect_of made (clause_at clauses s)) steps (λ m. hint_fault clauses (made ++ m ∷ []) steps)) (Some fault.UnknownHint)) (lt-ltb s (length clauses) low)) ∙ e))
    ]
  where
    by_effect : (effect : Effect) (left : List ℕ) → fault_after effect left (λ m. hint_fault clauses (made ++ m ∷ []) steps) ≡ None → ((effect ≡ Conflict) × (left ≡ [])) ⊎ ((m : SatLit) × (effect ≡ Makes m) × (hint_fault clauses (made ++ m ∷ []) steps ≡ None))
    by_effect Conflict [] goes = inl (refl, refl)
    by_effect Conflict (x ∷ left) goes = absurd (let y : Some fault.AfterConflict ≡ None = goes in cc)
    by_effect (Makes m) left goes = inr (m, refl, goes)
    by_effect Neither left goes = absurd (let y : Some fault.NotUnit ≡ None = goes in cc)

-- a first step that leaves a single literal, and one that is the conflict
pub step_makes : (clauses : List (List SatLit)) (made : List SatLit) (id : ℕ) (rest : List ℕ) (l : SatLit) → id < length clauses → effect_of made (clause_at clauses id) ≡ Makes l → hint_fault clauses (made ++ l ∷ []) rest ≡ None → hint_fault clauses made (id ∷ rest) ≡ None
step_makes clauses made id rest l there makes after =
    ap (λ t. cond t (fault_after (effect_of made (clause_at clauses id)) rest (λ m. hint_fault clauses (made ++ m ∷ []) rest)) (Some fault.UnknownHint)) (lt-ltb id (length clauses) there)
    ∙ (ap (λ e. fault_after e rest (λ m. hint_fault clauses (made ++ m ∷ []) rest)) makes ∙ after)

pub step_conflict : (clauses : List (List SatLit)) (made : List SatLit) (id : ℕ) → id < length clauses → effect_of made (clause_at clauses id) ≡ Conflict → hint_fault clauses made (id ∷ []) ≡ None
step_conflict clauses made id there conflict =
    ap (λ t. cond t (fault_after (effect_of made (clause_at clauses id)) [] (λ m. hint_fault clauses (made ++ m ∷ []) [])) (Some fault.UnknownHint)) (lt-ltb id (length clauses) there)
    ∙ ap (λ e. fault_after e [] (λ m. hint_fault clauses (made ++ m ∷ []) [])) conflict
