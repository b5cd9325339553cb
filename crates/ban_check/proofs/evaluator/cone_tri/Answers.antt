use Rattle.std.proofs.Common.{◌∙◌}
use Rattle.ban_check.proofs.ConeLemmas.{tri_is}
use Rattle.ban_check.proofs.evaluator.cone_tri.Goals as goal

pub returns : goal.returns
returns c = c.cone_value.ensures ∙ tri_is c.args.graph.now c.args.output c.args.inputs.now c.requires.output
