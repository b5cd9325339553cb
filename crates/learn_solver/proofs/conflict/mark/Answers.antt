-- A variable is marked already, or now.
use Rattle.std.proofs.Common.{◌+◌, ◌<◌, List, Bool, length, slice_set, true, sym, subst, ap, ◌∙◌, arith}
use Rattle.circuits.specs.Literals.{bit}
use Rattle.learn_solver.proofs.MarkLemmas.{IsMarking, marking_new, marking_old}
use Rattle.learn_solver.proofs.conflict.mark.Goals as goal
use Rattle.learn_solver.proofs.conflict.mark.Goals.{then-not-marked-variable, else-not-marked-variable}
use Rattle.cnf_core.proofs.LiteralLemmas.{no_literal}

pub loop-literal-preserved : goal.loop-literal-preserved
loop-literal-preserved c =
    let t = c.args.trail.now in
    let clause = c.args.clause.now in
    let k = c.loop-literal.literal-index in
    let now = c.loop-literal.marked in
    let v = c.variable-variable.result in
    let at = sym c.variable-variable.ensures in
    let p = c.requires.places k no_literal c.loop-literal-test.true in
    let known : v < length now = omega (arith, c.requires.trail.known p.at p.within, p.there, at, c.loop-literal.invariant.size, c.requires.size) in
    elim c.if-not-marked-variable.branch [
      | then-not-marked-variable w ↦
          let more = marking_new t c.requires.trail c.args.marked.now now clause k c.loop-literal.here w.present-here.result v no_literal c.loop-literal.invariant c.loop-literal-test.true at known w.if-not-marked-variable.true c.requires.places w.present-here.ensures in
          subst (λ (ms : List Bool). IsMarking t c.args.marked.now ms clause (k + 1) c.if-not-marked-variable.here) (sym w.marked-is) (subst (λ h. IsMarking t c.args.marked.now (slice_set now v true) clause (k + 1) h) (sym w.here-is) more)
      | else-not-marked-variable w ↦
          let more = marking_old t c.args.marked.now now clause k c.loop-literal.here no_literal c.loop-literal.invariant c.loop-literal-test.true (ap (bit now) at ∙ w.if-not-marked-variable.false) in
          subst (λ (ms : List Bool). IsMarking t c.args.marked.now ms clause (k + 1) c.if-not-marked-variable.here) (sym w.marked-is) (subst (λ h. IsMarking t c.args.marked.now now clause (k + 1) h) (sym w.here-is) more)
    ]
