-- The vectors of the blocks so far have their outputs.
use Rattle.std.proofs.Common.{◌≡◌, ◌*◌, vec_len}
use Rattle.circuits.specs.Netlists.{signals_of}
use Rattle.word_sim.specs.Columns.{AreEvaluated}
use Rattle.word_sim.proofs.simulation.simulate_blocks.Given as goal

abbrev pub invariant-loop-block : goal.invariant-loop-block
invariant-loop-block l = AreEvaluated l.graph l.inputs (8 * l.block) l.outputs × (vec_len l.values ≡ signals_of l.graph)
