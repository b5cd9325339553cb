-- From the inputs to the outputs.
use Rattle.word_sim.proofs.Fillings.{FillsIn-outputs}
use Rattle.word_sim.proofs.laws.definite_whatever_is_filled_in.Goals as goal

pub returns : goal.returns
returns c = FillsIn-outputs
