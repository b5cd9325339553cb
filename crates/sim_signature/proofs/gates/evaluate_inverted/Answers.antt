-- The signals have their bits where the input is inverted.
use Rattle.std.proofs.Common.{◌∙◌}
use Rattle.sim_signature.specs.declared.change.Change.TheVariants.{Inverted}
use Rattle.sim_signature.specs.Changes.{changed}
use Rattle.sim_signature.specs.Blocks.{pattern}
use Rattle.sim_signature.proofs.Evaluating.{length-pattern}
use Rattle.sim_signature.proofs.Inverting.{IsEvaluated-flipped, length-changed}
use Rattle.sim_signature.proofs.gates.evaluate_inverted.Goals as goal

pub returns-clause-inverted : goal.returns-clause-inverted
returns-clause-inverted c w v h l =
    let inputs = c.args.inputs.now in
    let before = c.args.before.now in
    let x = pattern inputs w v in
    let i = c.args.input in
    let long = length-pattern inputs w v ∙ c.requires.inputs in
    let known = c.requires.simulated w v h l in
    let start = IsEvaluated-flipped c.args.graph.now i inputs before c.flip.new.after c.flip.new.marks w v c.inputs.ensures.graph c.requires.inputs c.requires.input h l known c.flip.ensures.flipped in
    c.run_reached.ensures.blocks w v x (changed (Inverted i) x) h l long (length-changed (Inverted i) x ∙ long) known start
