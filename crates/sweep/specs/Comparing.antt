-- Two signals compared by two queries: whether they can differ where the first is true, and where it is false.
use Rattle.std.specs.Prelude.{◌≡◌, ◌≢◌, ◌⊎◌, ℕ, ◌+◌, ◌<◌, ◌≤◌, Bool, false, true, not, List, length, All, Option, Some, None, Result, IfOk, IfErr, if◌then◌else◌}
use Rattle.circuits.specs.declared.netlist.Lit.{Lit}
use Rattle.circuits.specs.Literals.{bit, differ, inverse, plain_literal}
use Rattle.circuits.specs.Netlists.{Net, signals_of, valuation_of}
use Rattle.cnf_core.specs.declared.stop.Stop.{Stop}
use Rattle.cnf_core.specs.declared.stop.Stop.TheVariants.{Spent, Memory}
use Rattle.net_core.specs.declared.graphs.Side.TheVariants.{First}
use Rattle.claim_core.specs.declared.query.Query.{Query}
use Rattle.claim_core.specs.Feeds.{straight}
use Rattle.claim_core.specs.Queries.{IsUnmet}
use Rattle.query_core.specs.Ledgers.{Ledgered, learned_in, lines_in}
use Rattle.oracle_core.specs.Work.{IsWork}
use Rattle.ask_core.specs.declared.question.Answer.{Answer}
use Rattle.ask_core.specs.declared.question.Answer.TheVariants.{Vector, Refuted}
use Rattle.ask_core.specs.Answers.{IsVector}
use Rattle.sweep.specs.declared.comparing.Comparison.{Comparison}
use Rattle.sweep.specs.declared.comparing.Comparison.TheVariants.{Same, Differs}
use Rattle.sweep.specs.declared.comparing.SignalPair.{SignalPair}
use Rattle.sweep.specs.Exposed.{both}
use Rattle.sweep.specs.Signals.{Computes}

-- Whether the first signal of a pair can have this value while the second one hasn't the value that belongs to it: the
-- same, or the other one where they may be opposite. Both cones are of the first side, and each input gets its own bit.
abbrev pub pair_query : ℕ → SignalPair → Bool → Query
pair_query n pair value = record {
  left = record { side = First; output = pair.one; feed = straight n };
  left_value = value;
  right = record { side = First; output = pair.other; feed = straight n };
  right_value = differ (not value) pair.opposite;
}

-- the first signal stands before the second one
pub record IsPair (net : Net) (pair : SignalPair) : Type 0 where
  pub order : pair.one < pair.other
  pub there : pair.other < signals_of net

-- a query compares two signals
pub record IsPairQuery (net : Net) (query : Query) : Type 0 where
  pub pair : SignalPair
  pub value : Bool
  pub is : IsPair net pair
  pub query_is : query ≡ pair_query net.inputs pair value

-- A query comes before those that compare `other` with a signal before `one`: signals are compared in order, each with
-- later ones first.
abbrev pub IsEarlier : ℕ → ℕ → Query → Type 0
IsEarlier other one query = (query.right.output < other) ⊎ ((query.right.output ≡ other) × (one ≤ query.left.output))

-- A ledger of comparisons, of which none compares `other` with a signal before `one`.
pub record HasCompared (net : Net) (other one : ℕ) (ledger : Ledgered) : Type 0 where
  pub work : IsWork (both net) ledger
  pub queries : All (λ entry. IsPairQuery net entry.query) ledger.asked
  pub earlier : All (λ entry. IsEarlier other one entry.query) ledger.asked
  pub unspent : ledger.spent ≡ false

-- The budget was spent by comparisons, and the last line was refused.
pub record IsSpentWork (net : Net) (budget : ℕ) (ledger : Ledgered) : Type 0 where
  pub budget_is : ledger.budget ≡ budget
  pub refused : ledger.spent ≡ true
  pub used : learned_in ledger ≡ budget
  pub made : lines_in ledger ≡ budget + 1
  pub work : IsWork (both net) ledger
  pub queries : All (λ entry. IsPairQuery net entry.query) ledger.asked

-- no answer: the budget is spent, or memory ran out
abbrev pub IsStopped : Net → ℕ → Ledgered → Stop → Type 0
IsStopped net budget ledger (Spent learned) = IsSpentWork net budget ledger
IsStopped net budget ledger Memory = Unit {0}

-- a vector on which the signals differ where the first one has a value, or that there is none
abbrev pub IsFound : Net → SignalPair → Bool → Option (List Bool) → Type 0
IsFound net pair value (Some vector) = IsVector (both net) (pair_query net.inputs pair value) vector
IsFound net pair value None = IsUnmet (both net) (pair_query net.inputs pair value)

-- the vector of an answer, if it has one
abbrev pub vector_in : Answer → Option (List Bool)
vector_in (Vector vector) = Some vector
vector_in (Refuted log) = None

-- what a vector on which two signals differ says of them, or that there is none
abbrev pub comparison_by : Option (List Bool) → Comparison
comparison_by (Some vector) = Differs vector
comparison_by None = Same

-- the literal of the first signal that the second one may compute
abbrev pub literal_of : SignalPair → Lit
literal_of pair = if pair.opposite then inverse (plain_literal pair.one) else plain_literal pair.one

-- a vector on which the two signals aren't as they may be
pub record IsDifference (net : Net) (pair : SignalPair) (x : List Bool) : Type 0 where
  pub inputs : length x ≡ net.inputs
  pub unlike : bit (valuation_of net x) pair.other ≢ differ (bit (valuation_of net x) pair.one) pair.opposite

-- what a comparison says
abbrev pub IsComparison : Net → SignalPair → Comparison → Type 0
IsComparison net pair Same = Computes net pair.other (literal_of pair)
IsComparison net pair (Differs vector) = IsDifference net pair vector

-- What comparing two signals comes to.
pub record Compares (net : Net) (pair : SignalPair) (before after : Ledgered) (result : Result Comparison Stop) : Type 0 where
  pub answer : IfOk result (IsComparison net pair)
  pub compared : IfOk result (λ _. HasCompared net pair.other pair.one after)
  pub budget : IfOk result (λ _. after.budget ≡ before.budget)
  pub stopped : IfErr result (IsStopped net before.budget after)
