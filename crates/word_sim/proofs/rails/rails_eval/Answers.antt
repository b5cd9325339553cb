-- The outputs' rails are those of the three-valued evaluation.
use Rattle.std.proofs.Common.{◌∷◌, ◌∙◌, ap}
use Rattle.std.proofs.lemmas.Result.{IfOk-weaker}
use Rattle.word_sim.specs.declared.tri.Tri.TheVariants.{Zero}
use Rattle.word_sim.specs.Rails.{rail_of, rails_at}
use Rattle.word_sim.proofs.DualRail.{no-bit, rails-outputs}
use Rattle.word_sim.proofs.rails.rails_eval.Goals as goal
use Rattle.word_sim.specs.ThreeValues.{of_bit}

pub returns-clause-values : goal.returns-clause-values
returns-clause-values c =
    let inputs = c.args.inputs.now in
    IfOk-weaker c.eval_outputs.result _ _ (λ outputs said w v values h k known.
    let constant = c.known-constant.ensures w v h k ∙ ap (λ b. rail_of (of_bit b)) (no-bit w v h) in
    let front = ap (λ rail. rail ∷ rails_at w v inputs) constant ∙ ap (λ rails. rail_of Zero ∷ rails) known in
    ap (rails_at w v) said ∙ rails-outputs w v c.args.graph.now (c.known-constant.result ∷ inputs) (Zero ∷ values) h front) c.eval_outputs.ensures
