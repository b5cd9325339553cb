-- A definition is one level above what it names, both ways.
use Rattle.circuits.proofs.LevelLaws.{HasLevel-above, HaveLevel-below}
use Rattle.circuits.proofs.laws.level_of_definition.Goals as goal

pub returns : goal.returns
returns c = record { above = HasLevel-above; named = HaveLevel-below }
