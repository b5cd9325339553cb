-- What an oracle means, and what its calls do (this project's).
use Rattle.std.specs.Prelude.{◌≡◌, ◌≢◌, ◌⊎◌, ℕ, ◌+◌, ◌<◌, Bool, true, false, List, ◌++◌, length, All, Any, Result, IfOk, IfErr, slice_index_or}
use Rattle.circuits.specs.Literals.{bit, differ}
use Rattle.circuits.specs.Netlists.{function_of}
use Rattle.circuits.specs.Bijections.{moved, place_of, sign_of}
use Rattle.cnf_core.specs.declared.stop.Stop.{Stop}
use Rattle.cnf_core.specs.declared.stop.Stop.TheVariants.{Spent, Memory}
use Rattle.net_core.specs.Sides.{Graphs}
use Rattle.net_core.specs.declared.matching.Matching.{Matching}
use Rattle.claim_core.specs.declared.claims.Claim.{Claim}
use Rattle.claim_core.specs.declared.query.Query.{Query}
use Rattle.query_core.specs.declared.ledger.Asked.{Asked}
use Rattle.query_core.specs.Ledgers.{Ledgered, learned_in, lines_in, nothing_asked}
use Rattle.account_core.specs.declared.fact.Fact.{Fact}
use Rattle.account_core.specs.Facts.{AreFacts}
use Rattle.account_core.specs.Ports.{HaveAsMany}
use Rattle.account_core.specs.Shown.{AreSame}
use Rattle.oracle_core.specs.declared.oracle.Compared.{Compared}
use Rattle.oracle_core.specs.declared.oracle.Compared.TheVariants.{Same, Differs}
use Rattle.oracle_core.specs.Enough.{enough}
use Rattle.oracle_core.specs.Work.{IsCharged, IsWorkOfClaimsAndMatches}

-- What an oracle knows: its two circuits, the facts of the claims that it decided, in order, and the queries that it
-- answered.
pub record Known : Type 0 where
  pub graphs : Graphs
  pub facts : List Fact
  pub answered : List Query

-- There is a fact of this number, and it is of this claim.
pub record IsNumberOf (facts : List Fact) (claim : Claim) (number : ℕ) : Type 0 where
  pub within : number < length facts
  pub claim_is : (d : Fact) → (slice_index_or facts number d).claim ≡ claim

-- the query was answered
abbrev pub IsAnswered : Known → Query → Type 0
IsAnswered known query = Any (λ other. other ≡ query) known.answered

-- A ledger that an oracle can go on with: it is work on the oracle's circuits, no line was refused, and each query for
-- which lines were learned was answered.
pub record Suits (known : Known) (ledger : Ledgered) : Type 0 where
  pub work : IsWorkOfClaimsAndMatches known.graphs ledger
  pub unspent : ledger.spent ≡ false
  pub answered : All (λ entry. IsCharged entry → IsAnswered known entry.query) ledger.asked

-- The circuits are the same, facts are added at the end alone and are right, and what was answered stays answered.
pub record Grows (old new : Known) : Type 0 where
  pub graphs : new.graphs ≡ old.graphs
  pub added : List Fact
  pub facts : new.facts ≡ old.facts ++ added
  pub lawful : AreFacts new.graphs new.facts
  pub answered : (query : Query) → IsAnswered old query → IsAnswered new query

-- the entry of a number
abbrev pub entry_at : List Asked → ℕ → Asked
entry_at asked k = slice_index_or asked k nothing_asked

-- an entry stands where it stood
abbrev pub IsAsBefore : List Asked → List Asked → ℕ → Type 0
IsAsBefore before after k = (k < length before) × (k < length after) × (entry_at after k ≡ entry_at before k)

-- The budget is the same, and so is each entry for which lines were learned. Each new entry is of a query that was not
-- answered before.
pub record Keeps (old : Known) (before after : Ledgered) : Type 0 where
  pub budget : after.budget ≡ before.budget
  pub charged : (k : ℕ) → k < length before.asked
      → IsCharged (entry_at before.asked k)
      → IsAsBefore before.asked after.asked k
  pub opened : (k : ℕ) → k < length after.asked
      → IsAsBefore before.asked after.asked k ⊎ (IsAnswered old (entry_at after.asked k).query → ⊥)

-- The budget was spent by work, and the last line was refused: the entries have as many learned lines as the budget,
-- and that one. It wasn't enough for all that can be asked of two circuits with as many ports.
pub record IsSpentWork (old : Known) (before after : Ledgered) (learned : ℕ) : Type 0 where
  pub learned_is : learned ≡ before.budget
  pub used : learned_in after ≡ before.budget
  pub made : lines_in after ≡ before.budget + 1
  pub refused : after.spent ≡ true
  pub work : IsWorkOfClaimsAndMatches old.graphs after
  pub keeps : Keeps old before after
  pub below : HaveAsMany old.graphs.first old.graphs.second → before.budget < enough old.graphs

-- no answer: the budget is spent, or memory ran out
abbrev pub IsStopped : Known → Ledgered → Ledgered → Stop → Type 0
IsStopped old before after (Spent learned) = IsSpentWork old before after learned
IsStopped old before after Memory = Unit {0}

-- What a call does to an oracle and a ledger, whatever it answers.
pub record Serves {X : Type 0} (old new : Known) (before after : Ledgered) (result : Result X Stop) : Type 0 where
  pub grows : Grows old new
  pub suits : IfOk result (λ answer. Suits new after)
  pub keeps : IfOk result (λ answer. Keeps old before after)
  pub stopped : IfErr result (IsStopped old before after)

-- What calls that were all answered have done to an oracle and a ledger.
pub record HasServed (old new : Known) (before after : Ledgered) : Type 0 where
  pub grows : Grows old new
  pub suits : Suits new after
  pub keeps : Keeps old before after

-- Deciding a claim: the answer is the number of its fact. Where it was decided earlier nothing changes.
pub record Claims (claim : Claim) (old new : Known) (before after : Ledgered) (result : Result ℕ Stop) : Type 0 where
  pub serves : Serves old new before after result
  pub number : IfOk result (IsNumberOf new.facts claim)
  pub held : (number : ℕ) → IsNumberOf old.facts claim number → (new.facts ≡ old.facts) × (after ≡ before)

-- On the vector, output k of the first circuit hasn't the bit that the matching demands of it.
pub record IsDifference (graphs : Graphs) (matching : Matching) (k : ℕ) (x : List Bool) : Type 0 where
  pub inputs : length x ≡ graphs.first.inputs
  pub unlike : bit (function_of graphs.first x) k
      ≢ differ (bit (function_of graphs.second (moved matching.inputs x)) (place_of matching.outputs k)) (sign_of matching.outputs k)

-- an output and its partner are shown equal by two logs, or differ on a vector
abbrev pub IsCompared : Graphs → Matching → ℕ → Compared → Type 0
IsCompared graphs matching k (Same one other) = AreSame graphs matching k one other
IsCompared graphs matching k (Differs vector) = IsDifference graphs matching k vector

-- Comparing an output with its partner.
pub record Compares (matching : Matching) (k : ℕ) (old new : Known) (before after : Ledgered) (result : Result Compared Stop) : Type 0 where
  pub serves : Serves old new before after result
  pub compared : IfOk result (IsCompared old.graphs matching k)
