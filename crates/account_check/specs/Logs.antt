-- The logs of facts and matches, line by line.
use Rattle.std.specs.Prelude.{ℕ, ◌+◌, ◌*◌, ◌/◌, ◌%◌, ◌==◌, List, [], ◌∷◌, ◌++◌, length, Option, None, Some, if◌then◌else◌}
use Rattle.cnf_core.specs.declared.literal.SatLit.{SatLit}
use Rattle.cnf_core.specs.declared.log.LogLine.{LogLine}
use Rattle.cnf_core.specs.declared.fault.LineFault.{LineFault}
use Rattle.cnf_core.specs.Derivations.{is_empty, line_fault}
use Rattle.net_core.specs.Sides.{Graphs}
use Rattle.net_core.specs.declared.matching.Matching.{Matching}
use Rattle.claim_core.specs.declared.claims.Claim.{Claim}
use Rattle.claim_core.specs.declared.query.Query.{Query}
use Rattle.claim_core.specs.ClaimQueries.{claim_query}
use Rattle.claim_core.specs.Formulas.{formula_of}
use Rattle.claim_core.specs.MatchQueries.{match_query}
pub use Rattle.ban_check.specs.More.{with_ban, with_fact}
use Rattle.account_check.specs.declared.reject.Reject.{Reject}
use Rattle.account_check.specs.declared.reject.Reject.TheVariants as reject

-- A claim that is said to hold, and the clauses of the lines of its log so far.
pub record OpenFact : Type 0 where
  pub claim : Claim
  pub taken : List (List SatLit)

-- A match, how many of its logs are closed, and the clauses of the lines of the open log.
pub record Proof : Type 0 where
  pub matching : Matching
  pub closed : ℕ
  pub taken : List (List SatLit)

-- how many logs a match has: one for each output and either value
abbrev pub log_count : Matching → ℕ
log_count matching = 2 * length matching.outputs

-- a claim before the first line of its log
abbrev pub unshown : Claim → OpenFact
unshown claim = record { claim = claim; taken = [] }

-- a match before the first line of its logs
abbrev pub unproved : Matching → Proof
unproved matching = record { matching = matching; closed = 0; taken = [] }

-- before a conclusion there is no match
abbrev pub nothing : Proof
nothing = unproved (record { inputs = []; outputs = [] })

-- what log number c of a match is to refute: that output c / 2 and its partner can differ, where the output has the
-- value true for an even c, and false for an odd one
abbrev pub log_query : Graphs → Matching → ℕ → Query
log_query graphs matching c = match_query graphs.first.inputs matching (c / 2) (c % 2 == 0)

-- a line's fault as a refusal
abbrev pub refutation_of : Option LineFault → Option Reject
refutation_of None = None
refutation_of (Some fault) = Some (reject.Refutation fault)

-- what is wrong with a line of a query's log, after lines with these clauses
abbrev pub log_reject : Graphs → Query → List (List SatLit) → LogLine → Option Reject
log_reject graphs query taken line = refutation_of (line_fault (formula_of graphs query) taken line)

-- what is wrong with a line of a fact's log
abbrev pub fact_reject : Graphs → OpenFact → LogLine → Option Reject
fact_reject graphs fact line = log_reject graphs (claim_query graphs fact.claim) fact.taken line

-- what is wrong with a line of a match's open log
abbrev pub match_reject : Graphs → Proof → LogLine → Option Reject
match_reject graphs proof line = log_reject graphs (log_query graphs proof.matching proof.closed) proof.taken line

-- what is wrong with a line of the open log
abbrev pub line_reject : Graphs → Option OpenFact → Proof → LogLine → Option Reject
line_reject graphs None proof line = match_reject graphs proof line
line_reject graphs (Some fact) proof line = fact_reject graphs fact line

-- where a line of a match's logs leads: the empty one closes its log
abbrev pub with_line : Proof → LogLine → Proof
with_line proof line =
    if is_empty line.clause then record { matching = proof.matching; closed = proof.closed + 1; taken = [] }
    else record { matching = proof.matching; closed = proof.closed; taken = proof.taken ++ line.clause ∷ [] }
