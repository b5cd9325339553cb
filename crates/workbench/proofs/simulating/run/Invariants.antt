-- There is a column for each input.
use Rattle.std.proofs.Common.{◌≡◌, length}
use Rattle.word_sim.specs.Columns.{IsTable}
use Rattle.workbench.proofs.simulating.run.Given as goal

abbrev pub invariant-loop : goal.invariant-loop
invariant-loop g l = (length l.inputs.columns ≡ l.graph.inputs) × IsTable l.inputs
