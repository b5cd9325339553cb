-- What a checker keeps of a fact or a match whose logs it checks.
use Rattle.std.specs.Prelude.{◌≡◌, ℕ, ◌<◌, ◌^◌, false, List, [], length, Option, None, Some}
use Rattle.std.specs.List.{list_any}
use Rattle.circuits.specs.Matches.{HavePorts}
use Rattle.cnf_core.specs.declared.literal.SatLit.{SatLit}
use Rattle.cnf_core.specs.declared.log.LogLine.{LogLine}
use Rattle.cnf_core.specs.Derivations.{is_empty, clauses_of, AreDerived}
use Rattle.net_core.specs.Sides.{Graphs}
use Rattle.net_core.specs.declared.graphs.Side.{Side}
use Rattle.net_core.specs.declared.graphs.Side.TheVariants.{First, Second}
use Rattle.net_core.specs.declared.matching.Matching.{Matching}
use Rattle.claim_core.specs.declared.claims.Claim.{Claim}
use Rattle.claim_core.specs.declared.query.Query.{Query}
use Rattle.claim_core.specs.ClaimQueries.{claim_query}
use Rattle.claim_core.specs.Queries.{IsQuery}
use Rattle.claim_core.specs.Formulas.{formula_of, IsRefuted}
use Rattle.query_core.specs.ClaimClauses.{PartialQuery}
use Rattle.account_check.specs.Logs.{OpenFact, Proof, log_count, log_query}

-- A log of a query of two circuits, as far as its lines were taken.
pub record LogSoFar : Type 0 where
  pub graphs : Graphs
  pub query : Query
  pub taken : List (List SatLit)

-- The query fits, and the lines that were taken are derived from its clauses.
pub record IsLogSoFar (graphs : Graphs) (query : Query) (taken : List (List SatLit)) : Type 0 where
  pub fits : IsQuery graphs query
  pub lines : List LogLine
  pub lines_are : taken ≡ clauses_of lines
  pub derived : AreDerived (formula_of graphs query) lines

-- A claim about two circuits and its log.
pub record FactProof : Type 0 where
  pub graphs : Graphs
  pub fact : OpenFact

-- clauses of a claim's query are present
abbrev pub IsFactLog : Claim → PartialQuery → Type 0
IsFactLog claim base = base.query ≡ claim_query base.graphs claim

-- The last log of a circuit's claims, if there was one.
pub record IsLogOf (graphs : Graphs) (side : Side) (log : FactProof) : Type 0 where
  pub graphs_are : log.graphs ≡ graphs
  pub side_is : log.fact.claim.side ≡ side

-- the log that is kept, if one is, is of a claim about this circuit
abbrev pub IsLastOf : Graphs → Side → Option FactProof → Type 0
IsLastOf graphs side None = Unit {0}
IsLastOf graphs side (Some log) = IsLogOf graphs side log

-- The last logs of the claims of two circuits.
pub record AreLastLogs (graphs : Graphs) (first second : Option FactProof) : Type 0 where
  pub first_is : IsLastOf graphs First first
  pub second_is : IsLastOf graphs Second second

-- A match of two circuits and its logs.
pub record MatchLogs : Type 0 where
  pub graphs : Graphs
  pub proof : Proof

-- the lines of the open log, if one is open
abbrev pub lines_in : Option LogSoFar → List (List SatLit)
lines_in None = []
lines_in (Some log) = log.taken

-- A log is number c of a match, and not closed.
pub record IsOpen (graphs : Graphs) (matching : Matching) (c : ℕ) (log : LogSoFar) : Type 0 where
  pub below : c < log_count matching
  pub graphs_are : log.graphs ≡ graphs
  pub asks : log.query ≡ log_query graphs matching c
  pub not_closed : list_any is_empty log.taken ≡ false

-- where log number c stands, or that there is no such log
abbrev pub IsLog : Graphs → Matching → ℕ → Option LogSoFar → Type 0
IsLog graphs matching c None = c ≡ log_count matching
IsLog graphs matching c (Some log) = IsOpen graphs matching c log

-- each of the first n logs refutes its query
abbrev pub AreRefuted : Graphs → Matching → ℕ → Type 0
AreRefuted graphs matching closed = (c : ℕ) → c < closed → IsRefuted graphs (log_query graphs matching c)

-- What is kept of a match whose logs are checked.
pub record IsProof (graphs : Graphs) (matching : Matching) (closed : ℕ) (log : Option LogSoFar) : Type 0 where
  pub ports : HavePorts graphs.first graphs.second matching.inputs matching.outputs
  pub few : length matching.outputs < 2 ^ 32
  pub refuted : AreRefuted graphs matching closed
  pub log_is : IsLog graphs matching closed log
