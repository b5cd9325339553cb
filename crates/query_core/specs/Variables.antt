-- The variables that stand for a circuit's gates, as they are kept, and the clauses by them.
use Rattle.std.specs.Prelude.{◌≡◌, ℕ, ◌+◌, ◌<◌, ◌^◌, Bool, List, length, drop, slice_index_or, if◌then◌else◌}
use Rattle.std.specs.List.{range_with_len}
use Rattle.circuits.specs.Literals.{bit}
use Rattle.circuits.specs.Netlists.{Net}
use Rattle.cnf_core.specs.declared.literal.SatLit.{SatLit}
use Rattle.net_core.specs.Sides.{Graphs}
use Rattle.net_core.specs.Cones.{ReachesGate}
use Rattle.claim_core.specs.declared.query.Feed.{Feed}
use Rattle.claim_core.specs.declared.query.Query.{Query}
use Rattle.query_core.specs.declared.variables.Variables.{Variables}
use Rattle.query_core.specs.declared.variables.Variables.TheVariants.{Own, Shared}
use Rattle.claim_core.specs.Queries.{circuit_of, IsQuery}
use Rattle.claim_core.specs.Formulas.{clauses_by, half_clauses, left_variables, output_literal, right_variables, shared_from, signal_literals}
use Rattle.claim_core.specs.ConeClauses.{AreConeIds, left_gates, right_gates}

-- the variable of gate t
abbrev pub variable_at : Variables → ℕ → ℕ
variable_at (Own first) t = first + t
variable_at (Shared first own marked) t = if bit marked (first + t) then own + t else first + t

-- those of n gates
abbrev pub variables_in : Variables → ℕ → List ℕ
variables_in (Own first) count = range_with_len first count
variables_in (Shared first own marked) count = shared_from first own (drop first marked)

-- Gate t has a mark, and its variables are below 2^63.
pub record HasMark (first own : ℕ) (marked : List Bool) (t : ℕ) : Type 0 where
  pub there : first + t < length marked
  pub first_few : first + t < 2 ^ 63
  pub own_few : own + t < 2 ^ 63

-- gate t has a variable that is below 2^63: its own, or the one that a mark gives
abbrev pub HasGate : Variables → ℕ → Type 0
HasGate (Own first) t = first + t < 2 ^ 63
HasGate (Shared first own marked) t = HasMark first own marked t

-- There is a mark for each of n gates, after those of the other signals.
pub record HaveMarks (count first own : ℕ) (marked : List Bool) : Type 0 where
  pub marks : length marked ≡ first + count
  pub first_few : first + count < 2 ^ 63
  pub own_few : own + count < 2 ^ 63

-- each of n gates has a variable
abbrev pub AreFor : ℕ → Variables → Type 0
AreFor count (Own first) = first + count < 2 ^ 63
AreFor count (Shared first own marked) = HaveMarks count first own marked

-- the literals that stand for a circuit's signals
abbrev pub literals_by : Net → List Feed → Variables → List SatLit
literals_by net feed variables = signal_literals feed (variables_in variables (length net.gates))

-- A circuit with what its inputs get, variables for its gates, and an output that is there.
pub record IsHalf (net : Net) (feed : List Feed) (variables : Variables) (output : ℕ) : Type 0 where
  pub feeds : length feed ≡ net.inputs
  pub gates : AreFor (length net.gates) variables
  pub there : output < length net.outputs

-- a query's clauses, by the variables of its circuits' gates
abbrev pub clauses_over : Graphs → Query → Variables → Variables → List (List SatLit)
clauses_over graphs query left right =
    let one = circuit_of graphs query.left in
    let other = circuit_of graphs query.right in
    let ls = literals_by one query.left.feed left in
    let rs = literals_by other query.right.feed right in
    clauses_by (half_clauses one ls) (half_clauses other rs)
    (output_literal one ls query.left.output query.left_value)
    (output_literal other rs query.right.output query.right_value)

-- What the clauses of a query are given by.
pub record IsAsking (graphs : Graphs) (query : Query) (left right : Variables) : Type 0 where
  pub fits : IsQuery graphs query
  pub left_is : variables_in left (left_gates graphs query) ≡ left_variables graphs query
  pub right_is : variables_in right (right_gates graphs query) ≡ right_variables graphs query
  pub left_fits : AreFor (left_gates graphs query) left
  pub right_fits : AreFor (right_gates graphs query) right

-- What the clauses of a query's cones are given by: variables that are right for the gates of the cones.
pub record IsConing (graphs : Graphs) (query : Query) (left right : Variables) (ids : List ℕ) : Type 0 where
  pub fits : IsQuery graphs query
  pub left_is : variables_in left (left_gates graphs query) ≡ left_variables graphs query
  pub right_is : (t : ℕ) → ReachesGate (circuit_of graphs query.right) query.right.output t
      → variable_at right t ≡ slice_index_or (right_variables graphs query) t 0
  pub left_fits : AreFor (left_gates graphs query) left
  pub right_fits : AreFor (right_gates graphs query) right
  pub are : AreConeIds graphs query ids
