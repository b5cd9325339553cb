-- What a search comes to.
use Rattle.std.specs.Prelude.{◌≡◌, ℕ, ⊤, Bool, List, [], ◌∷◌, ◌++◌, Option, Some, None}
use Rattle.cnf_core.specs.declared.log.Log.{Log}
use Rattle.net_core.specs.Sides.{Graphs}
use Rattle.net_core.specs.declared.matching.Matching.{Matching}
use Rattle.account_core.specs.declared.step.Ban.{Ban}
use Rattle.account_core.specs.Given.{Decided}
use Rattle.account_core.specs.Shown.{AreSame, IsEmptyBan, IsShownMatch}
use Rattle.oracle_core.specs.Oracles.{IsDifference}
pub use Rattle.class_refine.specs.Stable.{AreDecidedOn, AreOutputsDecided}
use Rattle.match_search.specs.declared.guessed.Guessed.{Guessed}
use Rattle.match_search.specs.declared.guessed.Guessed.TheVariants as guessed
use Rattle.match_search.specs.declared.found.Found.{Found}
use Rattle.match_search.specs.declared.found.Found.TheVariants as found

-- Two logs of an output came after others.
pub record AddsLogs (graphs : Graphs) (matching : Matching) (k : ℕ) (before after : List Log) : Type 0 where
  pub one : Log
  pub other : Log
  pub same : AreSame graphs matching k one other
  pub after_is : after ≡ before ++ one ∷ other ∷ []

-- an output was compared: its logs were added, or it differs on a vector
abbrev pub IsComparison : Graphs → Matching → ℕ → List Log → List Log → Option (List Bool) → Type 0
IsComparison graphs matching k before after None = AddsLogs graphs matching k before after
IsComparison graphs matching k before after (Some vector) = IsDifference graphs matching k vector

-- a guessed matching is a match, if it is said to be one
abbrev pub IsGuessed : Graphs → Guessed → Type 0
IsGuessed graphs (guessed.Match matching logs) = IsShownMatch graphs matching logs
IsGuessed graphs guessed.Fails = Unit {0}
IsGuessed graphs guessed.Nothing = Unit {0}

-- what a search found is shown: a match, by its logs, or that there is none, by a ban without pairs
abbrev pub IsFound : Graphs → List Ban → Found → Type 0
IsFound graphs bans (found.Match matching logs) = IsShownMatch graphs matching logs
IsFound graphs bans (found.None number) = IsEmptyBan bans number

-- where a match was found, the claims of one input of all outputs are decided
abbrev pub IsDecidedFound : Graphs → List Decided → Found → Type 0
IsDecidedFound graphs facts (found.Match matching logs) = AreOutputsDecided graphs facts
IsDecidedFound graphs facts (found.None number) = ⊤
