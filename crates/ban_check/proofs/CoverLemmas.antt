-- References of a cover, read from the front, and what it names.
use Rattle.std.proofs.Common.{◌≡◌, ℕ, ◌<◌, ◌&&◌, Bool, List, [], ◌∷◌, ◌++◌, length, All, Contains, Option, Some, ◌↔◌, sym, subst, ◌∙◌, arith}
use Rattle.std.specs.Bool.{IsTrue}
use Rattle.std.specs.List.{AllZip}
use Rattle.std.proofs.lemmas.List.{get_or_default}
use Rattle.circuits.specs.declared.port.Pair.{Pair}
use Rattle.circuits.specs.declared.port.PortKind.{PortKind}
use Rattle.net_core.specs.Sides.{Graphs}
use Rattle.account_core.specs.Covers.{AreCoverNames, row}
use Rattle.account_core.specs.Given.{Given, IsBanGiven}
use Rattle.account_core.specs.Ports.{ports_in}
use Rattle.ban_check.specs.Counted.{IsReferredBanGiven}
use Rattle.ban_check.proofs.BoolLemmas.{both_tests, same_test}

-- too few references are left
pub references_short : (R : Pair → Option ℕ → Type 0) (kind : PortKind) (port t : ℕ) (to_left to_after : List ℕ) (more : List Pair) (left : List (Option ℕ)) → to_left ≡ t ∷ to_after → length left < 2 → AllZip R (row kind port to_left ++ more) left → ⊥
references_short R kind port t to_left to_after more left to_is short all =
    by left short (subst (λ l. AllZip R (row kind port l ++ more) left) to_is all)
  where
    by : (left : List (Option ℕ)) → length left < 2 → AllZip R (row kind port (t ∷ to_after) ++ more) left → ⊥
    by [] short all = all
    by (one ∷ []) short all = all.1
    by (one ∷ other ∷ after) short all = absurd (omega (arith, short))

-- what a cover names is there
referred : (given : Given) (refs : List (Option ℕ)) → All (IsReferredBanGiven given) refs → (ban : ℕ) → Contains refs (Some ban) → IsBanGiven given ban
referred given refs all ban there = (all there.0 (Some ban) there.1).given_if_named ban there.2

unreferred : (given : Given) (refs : List (Option ℕ)) → ((ban : ℕ) → Contains refs (Some ban) → IsBanGiven given ban) → All (IsReferredBanGiven given) refs
unreferred given refs each k d below = record {
  given_if_named = λ ban is. each ban (k, below, get_or_default refs k (Some ban) d below ∙ is);
}

pub names_there : (graphs : Graphs) (given : Given) (kind : PortKind) (from to : List ℕ) (refs : List (Option ℕ)) (a b : ℕ) (first second third : Bool) → a ≡ ports_in graphs.first kind → b ≡ ports_in graphs.second kind → (IsTrue first ↔ All (λ port. port < a) from) → (IsTrue second ↔ All (λ port. port < b) to) → (IsTrue third ↔ All (IsReferredBanGiven given) refs) → IsTrue ((first && second) && third) ↔ AreCoverNames graphs given kind from to refs
names_there graphs given kind from to refs a b first second third a_is b_is one two three =
    same_test ((first && second) && third) ((All (λ port. port < a) from × All (λ port. port < b) to) × All (IsReferredBanGiven given) refs) (AreCoverNames graphs given kind from to refs) there parts (both_tests (first && second) third (All (λ port. port < a) from × All (λ port. port < b) to) (All (IsReferredBanGiven given) refs) (both_tests first second (All (λ port. port < a) from) (All (λ port. port < b) to) one two) three)
  where
    there : (All (λ port. port < a) from × All (λ port. port < b) to) × All (IsReferredBanGiven given) refs → AreCoverNames graphs given kind from to refs
    there all = record {
      first_ports = subst (λ n. All (λ port. port < n) from) a_is all.0.0;
      second_ports = subst (λ n. All (λ port. port < n) to) b_is all.0.1;
      given_bans = referred given refs all.1;
    }

    parts : AreCoverNames graphs given kind from to refs → (All (λ port. port < a) from × All (λ port. port < b) to) × All (IsReferredBanGiven given) refs
    parts names = (
      (subst (λ n. All (λ port. port < n) from) (sym a_is) names.first_ports, subst (λ n. All (λ port. port < n) to) (sym b_is) names.second_ports),
      unreferred given refs names.given_bans,
    )
