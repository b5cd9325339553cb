use Rattle.std.proofs.Common.{refl}
use Rattle.hier_blif.specs.Frames.{models_in}
use Rattle.hier_blif.proofs.TakeLemmas.{takes_end}
use Rattle.hier_blif.proofs.flattening.Flattening.take_line.Goals as goal

pub returns-in-None : goal.returns-in-None
returns-in-None c = takes_end (models_in c.args.blocks.now) c.args.frame _ _ c.in-None.ensures.none refl
