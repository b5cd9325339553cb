-- The columns so far are there, of the same circuit and vectors.
use Rattle.std.proofs.Common.{◌≡◌}
use Rattle.sim_signature.specs.Signatures.{AreColumns}
use Rattle.sim_signature.proofs.columns.add_inverted.Given as goal

abbrev pub invariant-loop-input : goal.invariant-loop-input
invariant-loop-input l =
    (l.simulation.net ≡ l.initial.simulation.net) × (l.simulation.blocks ≡ l.initial.simulation.blocks)
    × AreColumns (record { net = l.simulation.net; first = l.first; count = l.count; blocks = l.simulation.blocks }) l.input l.columns.items
