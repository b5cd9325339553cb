-- Netlists of AND gates in order, and what they compute (the AIGER format; "valuation" as in textbooks of logic).
use Rattle.std.specs.Prelude.{ℕ, ◌+◌, ◌<◌, ◌≡◌, ◌&&◌, ◌++◌, Bool, false, List, [], ◌∷◌, length, map, All}
use Rattle.circuits.specs.declared.netlist.Lit.{Lit}
use Rattle.circuits.specs.declared.netlist.Gate.{Gate}
use Rattle.circuits.specs.Literals.{EachAt, bit, signal_of, literal_bit}

-- Signal 0 is false, input i is signal i + 1, gate t is signal inputs + 1 + t.
pub record Net : Type 0 where
  pub inputs : ℕ
  pub gates : List Gate
  pub outputs : List Lit

-- how many signals there are
abbrev pub signals_of : Net → ℕ
signals_of net = 1 + net.inputs + length net.gates

-- each operand of a gate is an earlier signal, and each output is a signal
pub record IsOrdered (net : Net) : Type 0 where
  pub first_operands : EachAt (λ t gate. signal_of gate.a < 1 + net.inputs + t) net.gates
  pub second_operands : EachAt (λ t gate. signal_of gate.b < 1 + net.inputs + t) net.gates
  pub outputs : All (λ output. signal_of output < signals_of net) net.outputs

-- the AND of a gate's two literals
abbrev pub gate_bit : List Bool → Gate → Bool
gate_bit v gate = literal_bit v gate.a && literal_bit v gate.b

-- A valuation gives each signal a bit. It fits the netlist and the vector x where all of these hold at once.
pub record Fits (net : Net) (x v : List Bool) : Type 0 where
  pub signals : length v ≡ signals_of net
  pub constant : bit v 0 ≡ false
  pub inputs : (i : ℕ) → i < net.inputs → bit v (1 + i) ≡ bit x i
  pub gates : EachAt (λ t gate. bit v (1 + net.inputs + t) ≡ gate_bit v gate) net.gates

-- the bits of the outputs under a valuation
abbrev pub output_bits : Net → List Bool → List Bool
output_bits net v = map (literal_bit v) net.outputs

-- the bits so far, continued by one bit for each gate
abbrev pub with_gates : List Bool → List Gate → List Bool
with_gates v [] = v
with_gates v (gate ∷ gates) = with_gates (v ++ gate_bit v gate ∷ []) gates

-- the valuation, computed gate by gate
abbrev pub valuation_of : Net → List Bool → List Bool
valuation_of net x = with_gates (false ∷ x) net.gates

-- the function of a netlist in order
abbrev pub function_of : Net → List Bool → List Bool
function_of net x = output_bits net (valuation_of net x)
