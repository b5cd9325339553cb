-- The vectors of the words so far have their outputs.
use Rattle.std.proofs.Common.{◌≡◌, vec_len}
use Rattle.circuits.specs.Netlists.{signals_of}
use Rattle.word_sim.specs.Columns.{AreEvaluated}
use Rattle.word_sim.proofs.simulation.simulate_rest.Given as goal

abbrev pub invariant-loop-word : goal.invariant-loop-word
invariant-loop-word l = AreEvaluated l.graph l.inputs l.word l.outputs × (vec_len l.values ≡ signals_of l.graph)
