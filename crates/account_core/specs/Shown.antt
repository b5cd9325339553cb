-- What shows an answer: logs for each output of a match, or a ban without pairs (this project's).
use Rattle.std.specs.Prelude.{◌≡◌, ℕ, ◌*◌, ◌+◌, ◌<◌, true, false, List, [], length, slice_index_or}
use Rattle.circuits.specs.Matches.{IsMatchOfFunctions}
use Rattle.cnf_core.specs.declared.log.Log.{Log}
use Rattle.cnf_core.specs.Derivations.{IsRefutation}
use Rattle.net_core.specs.Sides.{Graphs}
use Rattle.net_core.specs.declared.matching.Matching.{Matching}
use Rattle.claim_core.specs.Formulas.{formula_of}
use Rattle.claim_core.specs.MatchQueries.{match_query}
use Rattle.account_core.specs.declared.step.Ban.{Ban}

-- Logs that refute the queries of an output for its two values.
pub record AreSame (graphs : Graphs) (matching : Matching) (k : ℕ) (one other : Log) : Type 0 where
  pub of_true : IsRefutation (formula_of graphs (match_query graphs.first.inputs matching k true)) one.lines
  pub of_false : IsRefutation (formula_of graphs (match_query graphs.first.inputs matching k false)) other.lines

-- Two logs of each of n outputs, in order: they refute that it differs from its partner where it is true, and where it
-- is false.
pub record AreLogsOf (graphs : Graphs) (matching : Matching) (count : ℕ) (logs : List Log) : Type 0 where
  pub number : length logs ≡ 2 * count
  pub same : (k : ℕ) (d : Log) → k < count
      → AreSame graphs matching k (slice_index_or logs (2 * k) d) (slice_index_or logs (2 * k + 1) d)

-- two logs of each output
abbrev pub AreLogs : Graphs → Matching → List Log → Type 0
AreLogs graphs matching logs = AreLogsOf graphs matching (length graphs.first.outputs) logs

-- Signed bijections that are a match, with logs that show it.
pub record IsShownMatch (graphs : Graphs) (matching : Matching) (logs : List Log) : Type 0 where
  pub is_match : IsMatchOfFunctions graphs.first graphs.second matching.inputs matching.outputs
  pub shown : AreLogs graphs matching logs

-- A ban that is kept and has no pairs: each match would have all of none, so there is no match.
pub record IsEmptyBan (bans : List Ban) (number : ℕ) : Type 0 where
  pub kept : number < length bans
  pub pairs : (d : Ban) → (slice_index_or bans number d).pairs ≡ []
