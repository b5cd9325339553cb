-- What a check says of the words and of the files.
use Rattle.std.specs.Prelude.{◌≡◌, ℕ, List, Option, None, Some}
use Rattle.circuits.specs.Matches.{IsMatch, AreNpnpEqual}
use Rattle.account_check.specs.Verdicts.{IsAccepted as Proves, IsRejected as IsBadAt}
use Rattle.account_check.specs.declared.verdict.Verdict.{Verdict}
use Rattle.account_check.specs.declared.verdict.Why.{Why}
use Rattle.net_core.specs.Sides.{Graphs}
use Rattle.net_core.specs.declared.matching.Matching.{Matching}
use Rattle.check_steps.specs.Held.{Netlist, HasNetlist, HasGraph}
use Rattle.check_steps.specs.Words.{AsksCheck}

-- The words ask for a check of two files that are netlists, and of the account under a name.
pub record IsAsked (held : List ℕ → Option (List ℕ)) (words : List (List ℕ)) (first second : Netlist) (account_name : List ℕ) : Type 0 where
  pub first_name : List ℕ
  pub second_name : List ℕ
  pub asks : AsksCheck words first_name second_name account_name
  pub first_held : HasNetlist (held first_name) first
  pub second_held : HasNetlist (held second_name) second

-- Both files are netlists, and there is no account.
pub record LacksAccount (held : List ℕ → Option (List ℕ)) (words : List (List ℕ)) : Type 0 where
  pub first : Netlist
  pub second : Netlist
  pub account_name : List ℕ
  pub asked : IsAsked held words first second account_name
  pub absent : held account_name ≡ None

-- The words ask for a check of two files by which accounts number these graphs, and the account has these bytes.
pub record HasAccount (held : List ℕ → Option (List ℕ)) (words : List (List ℕ)) (graphs : Graphs) (account : List ℕ) : Type 0 where
  pub first_name : List ℕ
  pub second_name : List ℕ
  pub account_name : List ℕ
  pub asks : AsksCheck words first_name second_name account_name
  pub first_held : HasGraph (held first_name) graphs.first
  pub second_held : HasGraph (held second_name) graphs.second
  pub there : held account_name ≡ Some account

-- The account's records are all valid, and prove this: that a matching is a match, or that there is none.
pub record IsAccepted (held : List ℕ → Option (List ℕ)) (words : List (List ℕ)) (proved : Verdict) : Type 0 where
  pub graphs : Graphs
  pub account : List ℕ
  pub has : HasAccount held words graphs account
  pub accepted : Proves graphs account proved

-- The account's first bad record is this one, counted from 1, for this reason.
pub record IsRejected (held : List ℕ → Option (List ℕ)) (words : List (List ℕ)) (line : ℕ) (why : Why) : Type 0 where
  pub graphs : Graphs
  pub account : List ℕ
  pub has : HasAccount held words graphs account
  pub rejected : IsBadAt graphs account line why

-- The words ask for a check of two files that are netlists, and the matching is a match of them.
pub record IsMatchOfFiles (held : List ℕ → Option (List ℕ)) (words : List (List ℕ)) (matching : Matching) : Type 0 where
  pub first : Netlist
  pub second : Netlist
  pub account_name : List ℕ
  pub asked : IsAsked held words first second account_name
  pub matches : IsMatch first.circuit second.circuit matching.inputs matching.outputs

-- The words ask for a check of two files that are netlists, and no signed bijections make the two circuits equal.
pub record LacksMatch (held : List ℕ → Option (List ℕ)) (words : List (List ℕ)) : Type 0 where
  pub first : Netlist
  pub second : Netlist
  pub account_name : List ℕ
  pub asked : IsAsked held words first second account_name
  pub unequal : AreNpnpEqual first.circuit second.circuit → ⊥
