-- A query's clauses (Tseitin's encoding: a variable for each gate, and three clauses that say that it is the AND of its
-- operands).
use Rattle.std.specs.Prelude.{ℕ, ◌+◌, ◌==◌, ◌&&◌, ◌||◌, Bool, true, false, not, List, [], ◌∷◌, ◌++◌, length, map, drop, slice_index_or, if◌then◌else◌}
use Rattle.std.specs.Bool.{beq}
use Rattle.std.specs.List.{range_with_len}
use Rattle.circuits.specs.declared.netlist.Lit.{Lit}
use Rattle.circuits.specs.declared.netlist.Gate.{Gate}
use Rattle.circuits.specs.Literals.{bit, signal_of, is_negated as inverts}
use Rattle.circuits.specs.Netlists.{Net}
use Rattle.cnf_core.specs.declared.literal.SatLit.{SatLit}
use Rattle.cnf_core.specs.declared.log.LogLine.{LogLine}
use Rattle.cnf_core.specs.Derivations.{IsRefutation}
use Rattle.cnf_core.specs.Clauses.{Formula, literal_of, opposite}
use Rattle.net_core.specs.Sides.{Graphs}
use Rattle.net_core.specs.declared.graphs.Side.{Side}
use Rattle.net_core.specs.declared.graphs.Side.TheVariants.{First, Second}
use Rattle.claim_core.specs.declared.query.Feed.{Feed}
use Rattle.claim_core.specs.declared.query.Feed.TheVariants.{Fixed, Wire}
use Rattle.claim_core.specs.declared.query.Query.{Query}
use Rattle.claim_core.specs.Queries.{circuit_of, bits_in, IsQuery}

-- variable 0 is true
abbrev pub true_literal : SatLit
true_literal = literal_of 0 true

-- the complement of variable 0 is false
abbrev pub false_literal : SatLit
false_literal = literal_of 0 false

-- what an input gets: bit i of the vector is variable i + 1
abbrev pub feed_literal : Feed → SatLit
feed_literal (Fixed b) = literal_of 0 b
feed_literal (Wire place flip) = literal_of (1 + place) (not flip)

-- the positive literal of a variable
abbrev pub plain : ℕ → SatLit
plain variable = literal_of variable true

-- the literals that stand for a circuit's signals: the constant, its inputs, and its gates by their variables
abbrev pub signal_literals : List Feed → List ℕ → List SatLit
signal_literals feed variables = false_literal ∷ map feed_literal feed ++ map plain variables

-- the literal that stands for a signal
abbrev pub stand_in : List SatLit → ℕ → SatLit
stand_in literals s = slice_index_or literals s false_literal

-- the literal that stands for a literal of the circuit: its signal's, with its sign
abbrev pub stands_for : List SatLit → Lit → SatLit
stands_for literals l = if inverts l then opposite (stand_in literals (signal_of l)) else stand_in literals (signal_of l)

-- v is the AND of a and b
abbrev pub and_clauses : SatLit → SatLit → SatLit → List (List SatLit)
and_clauses v a b = (opposite v ∷ a ∷ []) ∷ (opposite v ∷ b ∷ []) ∷ (v ∷ opposite a ∷ opposite b ∷ []) ∷ []

-- three clauses for each gate, of which the first is signal `first`
abbrev pub gate_clauses : List SatLit → ℕ → List Gate → List (List SatLit)
gate_clauses literals first [] = []
gate_clauses literals first (gate ∷ gates) =
    and_clauses (stand_in literals first) (stands_for literals gate.a) (stands_for literals gate.b)
    ++ gate_clauses literals (first + 1) gates

-- two feeds of one input are the same
abbrev pub same_feed : Feed → Feed → Bool
same_feed (Fixed b) (Fixed c) = beq b c
same_feed (Fixed b) (Wire place flip) = false
same_feed (Wire place flip) (Fixed b) = false
same_feed (Wire place flip) (Wire other sign) = (place == other) && beq flip sign

-- which inputs get one thing in one cone, and another in the other
abbrev pub feeds_differ : List Feed → List Feed → List Bool
feeds_differ [] right = []
feeds_differ (feed ∷ left) [] = []
feeds_differ (feed ∷ left) (other ∷ right) = not (same_feed feed other) ∷ feeds_differ left right

-- whether each signal reaches an input whose two feeds differ; the gates follow
abbrev pub reaching : List Bool → List Gate → List Bool
reaching so_far [] = so_far
reaching so_far (gate ∷ gates) = reaching (so_far ++ (bit so_far (signal_of gate.a) || bit so_far (signal_of gate.b)) ∷ []) gates

-- which signals may have another value in the right cone than in the left one, where both are of one circuit
abbrev pub reaches : Query → List Gate → List Bool
reaches query gates = reaching (false ∷ feeds_differ query.left.feed query.right.feed) gates

-- both cones are of the first circuit, or both of the second
abbrev pub same_side : Side → Side → Bool
same_side First First = true
same_side First Second = false
same_side Second First = false
same_side Second Second = true

-- gate t of the left circuit has variable n + 1 + t
abbrev pub left_variables : Graphs → Query → List ℕ
left_variables graphs query = range_with_len (bits_in graphs query + 1) (length (circuit_of graphs query.left).gates)

-- variables from `own` on, or where a gate reaches nothing from `first` on
abbrev pub shared_from : ℕ → ℕ → List Bool → List ℕ
shared_from first own [] = []
shared_from first own (reaches ∷ more) = (if reaches then own else first) ∷ shared_from (first + 1) (own + 1) more

-- Gate t of the right circuit has a variable of its own, after the left circuit's gates. Where both cones are of one
-- circuit, and it reaches no input whose feeds differ, it has the left gate's.
abbrev pub right_variables : Graphs → Query → List ℕ
right_variables graphs query =
    let first = bits_in graphs query + 1 in
    let own = first + length (circuit_of graphs query.left).gates in
    let gates = (circuit_of graphs query.right).gates in
    if same_side query.left.side query.right.side then shared_from first own (drop first (reaches query gates))
    else range_with_len own (length gates)

-- what stands for each signal of the left circuit
abbrev pub left_literals : Graphs → Query → List SatLit
left_literals graphs query = signal_literals query.left.feed (left_variables graphs query)

-- what stands for each signal of the right circuit, of which some may be the left one's too
abbrev pub right_literals : Graphs → Query → List SatLit
right_literals graphs query = signal_literals query.right.feed (right_variables graphs query)

-- the literal of a cone's output, negated where it is to be false
abbrev pub output_literal : Net → List SatLit → ℕ → Bool → SatLit
output_literal net literals output value =
    let l = stands_for literals (slice_index_or net.outputs output (record { 0 = 0 })) in
    if value then l else opposite l

-- the clauses of a circuit's gates
abbrev pub half_clauses : Net → List SatLit → List (List SatLit)
half_clauses net literals = gate_clauses literals (net.inputs + 1) net.gates

-- variable 0; the left circuit's gates; the right one's; the two outputs
abbrev pub clauses_by : List (List SatLit) → List (List SatLit) → SatLit → SatLit → List (List SatLit)
clauses_by left right left_output right_output =
    (true_literal ∷ []) ∷ (left ++ (right ++ (left_output ∷ []) ∷ (right_output ∷ []) ∷ []))

-- what an assignment has to meet, so that its vector is what the query asks for
abbrev pub query_clauses : Graphs → Query → List (List SatLit)
query_clauses graphs query =
    let left = circuit_of graphs query.left in
    let right = circuit_of graphs query.right in
    let ls = left_literals graphs query in
    let rs = right_literals graphs query in
    clauses_by (half_clauses left ls) (half_clauses right rs)
    (output_literal left ls query.left.output query.left_value)
    (output_literal right rs query.right.output query.right_value)

-- a query's clauses, over the inputs' variables, those of all gates, and the constant
abbrev pub formula_of : Graphs → Query → Formula
formula_of graphs query = record {
  variables = bits_in graphs query + 1 + length (circuit_of graphs query.left).gates + length (circuit_of graphs query.right).gates;
  clauses = query_clauses graphs query;
}

-- A query that fits two circuits, with a log that refutes its clauses.
pub record IsRefuted (graphs : Graphs) (query : Query) : Type 0 where
  pub fits : IsQuery graphs query
  pub lines : List LogLine
  pub refuted : IsRefutation (formula_of graphs query) lines

-- A query of two circuits.
pub record Asking : Type 0 where
  pub graphs : Graphs
  pub query : Query
