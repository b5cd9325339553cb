-- What a match says of the words and of the files, before the run and afterwards.
use Rattle.std.specs.Prelude.{◌≡◌, ℕ, List, [], ◌∷◌, ◌++◌, codes, take, Option, Some}
use Rattle.circuits.specs.Matches.{IsMatch, AreNpnpEqual}
use Rattle.account_file.specs.Lines.{whole_lines}
use Rattle.account_check.specs.Verdicts.{IsAccepted as Proves}
use Rattle.account_check.specs.declared.verdict.Verdict.{Verdict}
use Rattle.net_core.specs.Sides.{Graphs}
use Rattle.net_core.specs.declared.matching.Matching.{Matching}
use Rattle.query_core.specs.Ledgers.{Ledgered}
use Rattle.check_steps.specs.Check.{IsAccepted}
use Rattle.check_steps.specs.Held.{Netlist, HasNetlist, HasGraph}
use Rattle.run_steps.specs.Info.{IsSpentOf}
use Rattle.check_steps.specs.Words.{AsksMatch, MatchRequest, check_words}

-- The words ask for a match of two files that are these netlists.
pub record IsSought (held : List ℕ → Option (List ℕ)) (words : List (List ℕ)) (first second : Netlist) : Type 0 where
  pub sought : MatchRequest
  pub asks : AsksMatch words sought
  pub first_held : HasNetlist (held sought.first) first
  pub second_held : HasNetlist (held sought.second) second

-- The words ask for a match of two files that are netlists.
pub record IsAskedToMatch (held : List ℕ → Option (List ℕ)) (words : List (List ℕ)) : Type 0 where
  pub first : Netlist
  pub second : Netlist
  pub files : IsSought held words first second

-- The words ask for a match of two files that are netlists, and the matching is one.
pub record IsMatchFound (held : List ℕ → Option (List ℕ)) (words : List (List ℕ)) (matching : Matching) : Type 0 where
  pub first : Netlist
  pub second : Netlist
  pub files : IsSought held words first second
  pub matches : IsMatch first.circuit second.circuit matching.inputs matching.outputs

-- The words ask for a match of two files that are netlists, and no signed bijections make the two circuits equal.
pub record HasNoMatch (held : List ℕ → Option (List ℕ)) (words : List (List ℕ)) : Type 0 where
  pub first : Netlist
  pub second : Netlist
  pub files : IsSought held words first second
  pub unequal : AreNpnpEqual first.circuit second.circuit → ⊥

-- The words ask for a match of two files, within a budget that was spent on the graphs by which accounts number them.
pub record IsSpentOnTwo (held : List ℕ → Option (List ℕ)) (words : List (List ℕ)) (ledger : Ledgered) : Type 0 where
  pub sought : MatchRequest
  pub asks : AsksMatch words sought
  pub graphs : Graphs
  pub first_held : HasGraph (held sought.first) graphs.first
  pub second_held : HasGraph (held sought.second) graphs.second
  pub spent : IsSpentOf graphs sought.budget ledger

-- The words ask for a match, and a check by the same three names accepts the account: it proves this.
pub record IsProved (held : List ℕ → Option (List ℕ)) (words : List (List ℕ)) (proved : Verdict) : Type 0 where
  pub sought : MatchRequest
  pub asks : AsksMatch words sought
  pub accepted : IsAccepted held (check_words sought.first sought.second sought.account) proved

-- The words ask for a match, and under the account's name stand the first bytes of an account of the two files that is
-- accepted.
pub record HasPart (held : List ℕ → Option (List ℕ)) (words : List (List ℕ)) : Type 0 where
  pub sought : MatchRequest
  pub asks : AsksMatch words sought
  pub graphs : Graphs
  pub first_held : HasGraph (held sought.first) graphs.first
  pub second_held : HasGraph (held sought.second) graphs.second
  pub account : List ℕ
  pub proved : Verdict
  pub accepted : Proves graphs account proved
  pub count : ℕ
  pub part : held sought.account ≡ Some (take count account)
  -- its last line is `end` only where it is the whole account
  pub unfinished : (lines : List (List ℕ)) → whole_lines (take count account) ≡ lines ++ codes "end" ∷ [] → take count account ≡ account

-- the words ask for a match whose account has this name
abbrev pub NamesAccount : List (List ℕ) → List ℕ → Type 0
NamesAccount words name = (sought : MatchRequest) × AsksMatch words sought × (name ≡ sought.account)
