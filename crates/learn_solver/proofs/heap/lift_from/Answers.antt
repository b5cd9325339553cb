-- One place forward.
use Rattle.std.proofs.Common.{length, sym, ◌∙◌, arith}
use Rattle.std.proofs.lemmas.Bool.{lt-ltb}
use Rattle.learn_solver.proofs.heap.lift_from.Goals as goal

pub loop-place-preserved : goal.loop-place-preserved
loop-place-preserved c =
    let is = c.loop-place.invariant in
    let less = c.loop-place-test.true in
    record {
      inverse = c.exchange.ensures.inverse (length c.args.keys.now) is.inverse;
      low = omega (arith, is.low, less);
      known = is.known;
      queued = λ queued late. c.exchange.ensures.kept queued (lt-ltb _ queued (omega (arith, is.low, late)) ∙ sym (lt-ltb _ queued (omega (arith, is.low, late, less)))) ∙ is.queued queued late;
    }
