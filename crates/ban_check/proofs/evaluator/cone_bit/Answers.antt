use Rattle.std.proofs.Common.{◌∙◌}
use Rattle.ban_check.proofs.ConeLemmas.{bit_is}
use Rattle.ban_check.proofs.evaluator.cone_bit.Goals as goal

pub returns : goal.returns
returns c = c.cone_value.ensures ∙ bit_is c.args.graph.now c.args.output c.args.vector.now c.requires.output
