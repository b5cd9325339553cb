-- The lines so far gave the names that the slots have.
use Rattle.std.proofs.Common.{◌≡◌, length}
use Rattle.aiger_reader.proofs.LineSteps.{IsUnderWay}
use Rattle.aiger_reader.proofs.symbols.read_lines.Given as goal

abbrev pub invariant-loop-line : goal.invariant-loop-line
invariant-loop-line l = record {
  inputs : length l.ports.inputs.items ≡ length l.fn.ports.inputs.items;
  outputs : length l.ports.outputs.items ≡ length l.fn.ports.outputs.items;
  way : IsUnderWay (length l.fn.ports.inputs.items) (length l.fn.ports.outputs.items) l.fn.cursor l.cursor l.ports.inputs.items l.ports.outputs.items;
}

abbrev pub decreases-loop-line : goal.decreases-loop-line
decreases-loop-line l = length l.cursor.bytes
