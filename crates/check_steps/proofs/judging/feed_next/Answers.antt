-- What came is checked.
use Rattle.std.proofs.Common.{arith, length-take}
use Rattle.std.proofs.lemmas.Result.{err_from_is_err_and}
use Rattle.check_steps.proofs.JudgingLemmas.{fed_badly, fed_next, fed_nothing}
use Rattle.check_steps.proofs.judging.feed_next.Goals as goal

pub returns-in_err-count : goal.returns-in_err-count
returns-in_err-count g c graphs bytes has =
    let p = err_from_is_err_and c.from_residual.result c.from_residual.ensures.1 in
    fed_nothing _ graphs bytes _ _ _ _ _ c.in_err-count.field-0.0 c.from_residual.result c.in_err-count.ensures (cc (p.1, p.2))

pub feed-requires-clause-fits : goal.feed-requires-clause-fits
feed-requires-clause-fits g c =
    omega (arith, c.requires.fits, c.in_ok-count.ensures.left, length-take c.in_ok-count.count c.read.new.buf)

pub returns-in_err-feed : goal.returns-in_err-feed
returns-in_err-feed g c graphs bytes has =
    let p = err_from_is_err_and c.from_residual-in_err-feed.result c.from_residual-in_err-feed.ensures.1 in
    fed_badly _ graphs bytes _ _ _ _ c.in_ok-count.count _ c.in_err-feed.field-0.0 c.from_residual-in_err-feed.result c.in_ok-count.ensures (c.in_err-feed.ensures graphs bytes has) (cc (p.1, p.2))

pub returns : goal.returns
returns g c graphs bytes has =
    fed_next _ graphs bytes _ _ _ _ c.in_ok-count.count _ c.in_ok-count.ensures c.requires.left c.requires.room
    (omega (arith, c.in_ok-count.ensures.within, c.read.auto.buf)) (c.in_ok-feed.ensures graphs bytes has)
