-- The outputs so far have their blocks.
use Rattle.std.proofs.Common.{◌≡◌, length}
use Rattle.circuits.specs.Literals.{EachAt}
use Rattle.sim_signature.specs.Signatures.{IsBlock}
use Rattle.sim_signature.proofs.columns.column.Given as goal

abbrev pub invariant-loop-k : goal.invariant-loop-k
invariant-loop-k l =
    let simulation = l.simulation in
    (length l.column ≡ l.k) × EachAt (IsBlock (record { net = simulation.net; first = l.first; count = l.count; blocks = simulation.blocks }) simulation.change) l.column
