-- One literal's number more.
use Rattle.std.proofs.Common.{◌≡◌, ℕ, ◌||◌, cond, nat_eq, Bool, true, false, List, [], ◌∷◌, ◌++◌, inl, inr, refl, sym, ap, ◌∙◌}
use Rattle.std.specs.List.{list_any}
use Rattle.std.proofs.lemmas.Bool.{or_right}
use Rattle.std.proofs.lemmas.Bool.Decides.{eqb_tells}
use Rattle.std.proofs.lemmas.List.Folds.{list_any-append}
use Rattle.indexmap.specs.IndexSet.{insert_key}
use Rattle.cnf_core.specs.declared.literal.SatLit.{SatLit}
use Rattle.cnf_core.specs.Derivations.{is_same, is_true}
use Rattle.joint_hash.specs.Made.{AreNumbersOf}

or_false : (b : Bool) → (b || false) ≡ b
or_false true = refl
or_false false = refl

pub numbers_more : (literals : List SatLit) (numbers : List ℕ) (literal : SatLit) → AreNumbersOf literals numbers → AreNumbersOf (literals ++ literal ∷ []) (insert_key nat_eq numbers literal.0)
numbers_more literals numbers literal are l = by_case (list_any (nat_eq literal.0) numbers) refl
  where
    after : is_true (literals ++ literal ∷ []) l ≡ (is_true literals l || (is_same l literal || false))
    after = list_any-append (is_same l) literals (literal ∷ [])

    by_case : (found : Bool) → list_any (nat_eq literal.0) numbers ≡ found → list_any (nat_eq l.0) (cond found numbers (numbers ++ literal.0 ∷ [])) ≡ is_true (literals ++ literal ∷ []) l
    by_case false e =
        list_any-append (nat_eq l.0) numbers (literal.0 ∷ []) ∙ (ap (λ b. b || (nat_eq l.0 literal.0 || false)) (are l) ∙ sym after)
    by_case true e =
        elim (eqb_tells l.0 literal.0) [
          | inl (same, is) ↦
              let there : list_any (nat_eq l.0) numbers ≡ true = ap (λ n. list_any (nat_eq n) numbers) is ∙ e in
              there ∙ sym (after ∙ (ap (λ b. is_true literals l || (b || false)) same ∙ or_right (is_true literals l) true refl))
          | inr (other, apart) ↦
              are l ∙ sym (after ∙ (ap (λ b. is_true literals l || (b || false)) other ∙ or_false (is_true literals l)))
        ]
