-- One place back.
use Rattle.std.proofs.Common.{length, sym, ◌∙◌, arith}
use Rattle.std.proofs.lemmas.Bool.{lt-ltb}
use Rattle.learn_solver.proofs.heap.sink.Goals as goal

pub loop-place-preserved : goal.loop-place-preserved
loop-place-preserved c =
    let is = c.loop-place.invariant in
    let below = c.first_below-below.ensures in
    record {
      inverse = c.exchange.ensures.inverse (length c.args.keys.now) is.inverse;
      queued_are = c.exchange.ensures.kept c.args.queued (lt-ltb _ c.args.queued (omega (arith, below.later, below.there)) ∙ sym (lt-ltb _ c.args.queued below.there)) ∙ is.queued_are;
    }
