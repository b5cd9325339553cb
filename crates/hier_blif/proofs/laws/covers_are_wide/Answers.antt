-- Row by row, from the `.names` line that opens the cover on.
use Rattle.hier_blif.proofs.WideLemmas.{models_wide}
use Rattle.hier_blif.proofs.laws.covers_are_wide.Goals as goal

pub returns : goal.returns
returns c lines sound = models_wide lines sound
