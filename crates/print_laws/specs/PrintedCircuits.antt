-- The netlist that a printed BLIF file is: a cover without rows for the constant, then a cover of one row for each gate
-- and for each output (Berkeley Logic Interchange Format, 1992).
use Rattle.std.specs.Prelude.{ℕ, ◌+◌, ◌==◌, true, List, [], ◌∷◌, ◌++◌, length, map, nat_lt, if◌then◌else◌}
use Rattle.std.specs.List.{range_with_len}
use Rattle.circuits.specs.declared.netlist.Lit.{Lit}
use Rattle.circuits.specs.declared.netlist.Gate.{Gate}
use Rattle.circuits.specs.declared.definition.Trit.{Trit}
use Rattle.circuits.specs.declared.definition.Trit.TheVariants.{Zero, One}
use Rattle.circuits.specs.declared.definition.Def.{Def}
use Rattle.circuits.specs.declared.definition.Def.TheVariants.{Cover}
use Rattle.circuits.specs.Literals.{signal_of, is_negated, plain_literal}
use Rattle.circuits.specs.Netlists.{Net}
use Rattle.circuits.specs.Circuits.{Circuit}
use Rattle.net_print.specs.BlifLines.{input_name, output_name}

-- the signal of the file for a signal of the netlist: the constant stands between the inputs and the gates
abbrev pub printed_signal : ℕ → ℕ → ℕ
printed_signal inputs signal =
    if signal == 0 then 1 + inputs
    else if nat_lt inputs signal then 1 + signal
    else signal

-- what a row requires of a literal's signal
abbrev pub required_of : Lit → Trit
required_of literal = if is_negated literal then Zero else One

-- a gate as a cover of one row, over the signals of its operands
abbrev pub gate_cover : ℕ → Gate → Def
gate_cover inputs gate =
    Cover (printed_signal inputs (signal_of gate.a) ∷ printed_signal inputs (signal_of gate.b) ∷ [])
    ((required_of gate.a ∷ required_of gate.b ∷ []) ∷ []) true

-- an output as a cover of one row, over the signal that it has
abbrev pub output_cover : ℕ → Lit → Def
output_cover inputs output = Cover (printed_signal inputs (signal_of output) ∷ []) ((required_of output ∷ []) ∷ []) true

-- what the printed file describes: the constant, then the gates, and then the outputs, each defined by a cover
abbrev pub printed_circuit : Net → Circuit
printed_circuit net = record {
  inputs = net.inputs;
  defs = Cover [] [] true ∷ (map (gate_cover net.inputs) net.gates ++ map (output_cover net.inputs) net.outputs);
  outputs = map (λ k. plain_literal (2 + net.inputs + length net.gates + k)) (range_with_len 0 (length net.outputs));
}

-- the names of its inputs: a letter and the position
abbrev pub printed_inputs : Net → List (List ℕ)
printed_inputs net = map input_name (range_with_len 0 net.inputs)

-- the names of its outputs: a letter and the position
abbrev pub printed_outputs : Net → List (List ℕ)
printed_outputs net = map output_name (range_with_len 0 (length net.outputs))
