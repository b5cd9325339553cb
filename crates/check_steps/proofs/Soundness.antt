-- A matching that is a match of the graphs that were read is a match of the files' netlists, and where the graphs have none, the
-- netlists have none.
use Rattle.std.proofs.Common.{◌≡◌, inl, inr, ℕ, Bool, List, Option, Result, Ok, subst}
use Rattle.circuits.specs.Matches.{IsMatchOfFunctions}
use Rattle.circuits.specs.Netlists.{Net}
use Rattle.circuits.proofs.MatchLaws.{match_from_functions, functions_from_equal}
use Rattle.net_core.specs.declared.matching.Matching.{Matching}
use Rattle.net_file.specs.declared.named.Named.{Named}
use Rattle.account_check.specs.declared.verdict.CheckStop.{CheckStop}
use Rattle.account_check.specs.declared.verdict.Verdict.{Verdict}
use Rattle.account_check.specs.declared.verdict.Verdict.TheVariants.{Match}
use Rattle.check_steps.specs.Check.{IsAsked}
use Rattle.check_steps.specs.Checks.{IsSound}
use Rattle.check_steps.specs.Reading.{IsReadFrom, netlist_of}
use Rattle.check_steps.specs.Judged.{IsMatchIfAny, IsUnequalIfRefused}
use Rattle.check_steps.specs.declared.outcome.Outcome.{Outcome}
use Rattle.check_steps.specs.declared.outcome.Outcome.TheVariants.{AcceptedMatch}

-- what an account proves is a match of the graphs
pub proved_match : (f g : Net) (result : Result Verdict CheckStop) (matching : Matching) → result ≡ Ok (Match matching) → ((matching : Matching) → result ≡ Ok (Match matching) → IsMatchOfFunctions f g matching.inputs matching.outputs) → IsMatchIfAny f g (AcceptedMatch matching)
proved_match f g result matching is proved = λ other has.
    elim has [
      | inl same ↦
          let e : matching ≡ other = cc in
          subst (λ t. IsMatchOfFunctions f g t.inputs t.outputs) e (proved matching is)
      | inr same ↦ cc
    ]

pub sound : (tells : Bool) (held : List ℕ → Option (List ℕ)) (words : List (List ℕ)) (here there : Option (List ℕ)) (first second : Named) (account_name : List ℕ) (o : Outcome) → (a : IsReadFrom tells here first) → (b : IsReadFrom tells there second) → IsAsked held words (netlist_of a.circuit first) (netlist_of b.circuit second) account_name → IsMatchIfAny first.graph second.graph o → IsUnequalIfRefused first.graph second.graph o → IsSound held words o
sound tells held words here there first second account_name o a b asked matches refuses = record {
  matches = λ matching is. record {
    first = netlist_of a.circuit first;
    second = netlist_of b.circuit second;
    account_name = account_name;
    asked = asked;
    matches = match_from_functions a.circuit b.circuit first.graph second.graph matching.inputs matching.outputs a.computes b.computes (matches matching (inl is));
  };
  refuses = λ is. record {
    first = netlist_of a.circuit first;
    second = netlist_of b.circuit second;
    account_name = account_name;
    asked = asked;
    unequal = λ equal. refuses is (functions_from_equal a.circuit b.circuit first.graph second.graph a.acyclic b.acyclic a.computes b.computes equal);
  };
}
