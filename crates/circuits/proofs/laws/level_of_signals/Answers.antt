-- The level of several signals, one signal more at a time.
use Rattle.circuits.proofs.LevelLaws.{HaveLevel-none, HaveLevel-more}
use Rattle.circuits.proofs.laws.level_of_signals.Goals as goal

pub returns : goal.returns
returns c = record { none = HaveLevel-none; more = HaveLevel-more }
