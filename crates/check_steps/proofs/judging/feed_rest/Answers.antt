-- Piece by piece, up to the first bad record.
use Rattle.std.proofs.Common.{[], refl, arith}
use Rattle.std.proofs.lemmas.Result.{err_from_is_err_and}
use Rattle.check_steps.proofs.JudgingLemmas.{fed_all, fed_part, feeding_on}
use Rattle.check_steps.proofs.judging.feed_rest.Goals as goal

pub loop-left-init : goal.loop-left-init
loop-left-init g c = record {
  unread = c.requires.unread;
  files = λ n. refl;
  clean = refl;
  taken = λ graphs has. ([], has, omega arith, λ told. refl);
}

pub feed_next-requires-clause-under_way : goal.feed_next-requires-clause-under_way
feed_next-requires-clause-under_way g c =
    let held = c.loop-left.invariant.taken c.requires.begun.0 c.requires.begun.1 in
    (c.requires.begun.0, held.0, held.1)

pub feed_next-requires-clause-fits : goal.feed_next-requires-clause-fits
feed_next-requires-clause-fits g c =
    let held = c.loop-left.invariant.taken c.requires.begun.0 c.requires.begun.1 in
    omega (arith, held.1.so_far.read.total, held.2, c.loop-left.invariant.unread.left, c.ranges.size.fits)

pub overflow_sub-left : goal.overflow_sub-left
overflow_sub-left g c =
    let held = c.loop-left.invariant.taken c.requires.begun.0 c.requires.begun.1 in
    let more = c.in_ok-left.ensures c.requires.begun.0 held.0 held.1 in
    omega (arith, more.left.1, c.loop-left.invariant.unread.left)

pub loop-left-preserved : goal.loop-left-preserved
loop-left-preserved g c =
    feeding_on _ _ _ _ _ _ _ _ _ _ c.loop-left.invariant c.in_ok-left.ensures c.requires.begun.0 c.requires.begun.1

pub loop-left-smaller : goal.loop-left-smaller
loop-left-smaller g c =
    let held = c.loop-left.invariant.taken c.requires.begun.0 c.requires.begun.1 in
    let more = c.in_ok-left.ensures c.requires.begun.0 held.0 held.1 in
    omega (arith, more.left.0, more.left.1, c.loop-left.invariant.unread.left)

pub returns : goal.returns
returns g c graphs begun = fed_all _ _ _ _ _ _ _ c.loop-left.invariant (omega (arith, c.loop-left-test.false)) graphs begun

pub returns-in_err-left : goal.returns-in_err-left
returns-in_err-left g c graphs begun =
    let p = err_from_is_err_and c.from_residual.result c.from_residual.ensures.1 in
    fed_part _ _ _ _ _ _ _ _ _ c.in_err-left.field-0.0 c.from_residual.result c.loop-left.invariant c.in_err-left.ensures (cc (p.1, p.2)) graphs begun
