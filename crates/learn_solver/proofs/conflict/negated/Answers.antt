-- One literal further: a marked one is added.
use Rattle.std.proofs.Common.{◌<◌, ◌++◌, ◌∷◌, [], length, sym, ap, ◌∙◌, arith}
use Rattle.circuits.specs.Literals.{bit}
use Rattle.cnf_core.specs.declared.literal.SatLit.{SatLit}
use Rattle.cnf_core.specs.Clauses.{opposite, variable_of}
use Rattle.learn_solver.proofs.KeptLemmas.{negated_no, negated_yes}
use Rattle.learn_solver.proofs.conflict.negated.Goals as goal
use Rattle.learn_solver.proofs.conflict.negated.Goals.{then-marked-variable+in_ok-push, else-marked-variable}

pub loop-place-preserved : goal.loop-place-preserved
loop-place-preserved c =
    let es = c.args.trail.now.entries in
    let marked = c.args.marked.now in
    let p = c.loop-place.place in
    let within : p < length es = omega (arith, c.loop-place-test.true, c.requires.within) in
    let variable = c.variable.ensures ∙ ap variable_of c.lit_at-literal.ensures in
    elim c.if-marked-variable.branch [
      | then-marked-variable+in_ok-push w ↦
          let here = ap (bit marked) (sym variable) ∙ w.if-marked-variable.true in
          let pushed = ap (λ (l : SatLit). c.loop-place.clause ++ l ∷ []) (w.opposite.ensures ∙ ap opposite c.lit_at-literal.ensures) in
          w.clause-is ∙ (w.in_ok-push.ensures.ok ∙ (pushed ∙ negated_yes es marked p c.loop-place.clause within here c.loop-place.invariant))
      | else-marked-variable w ↦ w.clause-is ∙ negated_no es marked p c.loop-place.clause within (ap (bit marked) (sym variable) ∙ w.if-marked-variable.false) c.loop-place.invariant
    ]
