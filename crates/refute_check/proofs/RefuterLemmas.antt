-- Whether the last clause is empty, after one clause more.
use Rattle.std.proofs.Common.{◌≡◌, ◌==◌, suc, List, [], ◌∷◌, ◌++◌, length, ne_eqb, refl, arith}
use Rattle.cnf_core.specs.declared.literal.SatLit.{SatLit}
use Rattle.cnf_core.specs.Derivations.{is_empty}
use Rattle.refute_check.specs.Refutations.{ends_empty}

pub ends_empty_push : (clauses : List (List SatLit)) (clause : List SatLit) → ends_empty (clauses ++ clause ∷ []) ≡ is_empty clause
ends_empty_push [] clause = refl
ends_empty_push (first ∷ []) clause = refl
ends_empty_push (first ∷ next ∷ clauses) clause = ends_empty_push (next ∷ clauses) clause

pub length_zero : (clause : List SatLit) → (length clause == 0) ≡ is_empty clause
length_zero [] = refl
length_zero (literal ∷ literals) = ne_eqb (suc (length literals)) 0 (λ e. absurd (omega (arith, e)))
