-- What reaches a cycle names, at each step, a signal that does so too.
use Rattle.circuits.proofs.LevelLaws.{no_level-cycle}
use Rattle.circuits.proofs.laws.no_level_on_a_cycle.Goals as goal

pub returns : goal.returns
returns c = no_level-cycle
