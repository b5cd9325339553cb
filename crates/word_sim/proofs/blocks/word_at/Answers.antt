-- There are eight words.
use Rattle.std.proofs.Common.{◌∙◌, arith}
use Rattle.std.proofs.lemmas.List.{get_or_default}
use Rattle.word_sim.proofs.blocks.word_at.Goals as goal

pub returns : goal.returns
returns c = c.index.ensures ∙ get_or_default c.args.block c.args.word c.index.result.now 0 (omega (arith, c.requires, c.fits-block.0))
