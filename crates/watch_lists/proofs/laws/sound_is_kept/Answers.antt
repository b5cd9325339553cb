-- What was justified stays so.
use Rattle.watch_lists.proofs.GrowLemmas.{sound_implied}
use Rattle.watch_lists.proofs.laws.sound_is_kept.Goals as goal

pub returns : goal.returns
returns c = sound_implied
