-- What the entries of a ledger are worth: lines that were derived for queries of two circuits, each query asked once,
-- and no line that says less than what was known (this project's; derivations are those of hinted unit propagation).
use Rattle.std.specs.Prelude.{◌≡◌, ◌≢◌, ◌⊎◌, ℕ, ◌<◌, ◌≤◌, Bool, false, List, None, length, take, All, AllPairs}
use Rattle.circuits.specs.Literals.{EachAt}
use Rattle.circuits.specs.Matches.{HavePorts}
use Rattle.cnf_core.specs.declared.literal.SatLit.{SatLit}
use Rattle.cnf_core.specs.declared.log.LogLine.{LogLine}
use Rattle.cnf_core.specs.Derivations.{AreDerived, clauses_of, line_fault, has_all}
use Rattle.net_core.specs.Sides.{Graphs}
use Rattle.net_core.specs.declared.matching.Matching.{Matching}
use Rattle.claim_core.specs.declared.claims.Claim.{Claim}
use Rattle.claim_core.specs.declared.query.Query.{Query}
use Rattle.query_core.specs.declared.ledger.Asked.{Asked}
use Rattle.claim_core.specs.Queries.{IsQuery}
use Rattle.claim_core.specs.Formulas.{formula_of}
use Rattle.claim_core.specs.Claims.{IsClaim}
use Rattle.claim_core.specs.MatchQueries.{match_query}
use Rattle.claim_core.specs.ClaimQueries.{claim_query}
use Rattle.claim_core.specs.ConeClauses.{AllOfCones}
use Rattle.query_core.specs.Ledgers.{Ledgered}

-- lines were learned for the entry, after its lemmas
abbrev pub IsCharged : Asked → Type 0
IsCharged entry = entry.lemmas < length entry.lines

-- the clause isn't weaker than another one: some literal of that one isn't in it
abbrev pub IsNewBeside : List SatLit → List SatLit → Type 0
IsNewBeside clause other = has_all clause other ≡ false

-- The line is derived, and says something that no clause of the two cones and no earlier line says.
pub record IsLearned (graphs : Graphs) (query : Query) (earlier : List LogLine) (line : LogLine) : Type 0 where
  pub derived : line_fault (formula_of graphs query) (clauses_of earlier) line ≡ None
  pub beside_cones : AllOfCones graphs query (IsNewBeside line.clause)
  pub beside_lines : All (IsNewBeside line.clause) (clauses_of earlier)

-- The query fits. The lines are derived in order, none after an empty one, and each one after the lemmas says something
-- new.
pub record IsWorkOn (graphs : Graphs) (entry : Asked) : Type 0 where
  pub fits : IsQuery graphs entry.query
  pub lemmas : entry.lemmas ≤ length entry.lines
  pub derived : AreDerived (formula_of graphs entry.query) entry.lines
  pub learned : EachAt (λ k line. entry.lemmas ≤ k → IsLearned graphs entry.query (take k entry.lines) line) entry.lines

-- lines were learned for both, and their queries aren't the same
abbrev pub AreApart : Asked → Asked → Type 0
AreApart one other = IsCharged one → IsCharged other → one.query ≢ other.query

-- A ledger is work on two circuits. No query has two entries with learned lines.
pub record IsWork (graphs : Graphs) (ledger : Ledgered) : Type 0 where
  pub entries : All (IsWorkOn graphs) ledger.asked
  pub once : AllPairs AreApart ledger.asked

-- the query of a well-placed claim
abbrev pub IsOfClaim : Graphs → Query → Type 0
IsOfClaim graphs query = (claim : Claim) × IsClaim graphs claim × (query ≡ claim_query graphs claim)

-- the query of an output of a matching, for one of its values
pub record IsOfMatch (graphs : Graphs) (query : Query) : Type 0 where
  pub matching : Matching
  pub output : ℕ
  pub value : Bool
  pub ports : HavePorts graphs.first graphs.second matching.inputs matching.outputs
  pub there : output < length graphs.first.outputs
  pub query_is : query ≡ match_query graphs.first.inputs matching output value

-- Work, for queries of claims and of matches alone.
pub record IsWorkOfClaimsAndMatches (graphs : Graphs) (ledger : Ledgered) : Type 0 where
  pub work : IsWork graphs ledger
  pub queries : All (λ entry. IsOfClaim graphs entry.query ⊎ IsOfMatch graphs entry.query) ledger.asked
