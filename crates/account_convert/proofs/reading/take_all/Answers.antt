-- One record more is taken; where there is none, all are.
use Rattle.std.proofs.Common.{Ok, subst}
use Rattle.account_convert.specs.Reading.{Goes, GoesThrough}
use Rattle.account_convert.proofs.ReadLemmas.{handed}
use Rattle.account_convert.proofs.reading.take_all.Goals as goal

pub loop-preserved : goal.loop-preserved
loop-preserved g c = λ account first so_far.
    subst (λ b. Goes g.T.TakeRecords.leads account first c.take_next.new.reader c.take_next.new.taker (Ok b)) c.if-branch.true (c.in_ok-take_next.ensures.goes account first (c.loop.invariant account first so_far))

pub returns-in_err-take_next : goal.returns-in_err-take_next
returns-in_err-take_next g c account first so_far =
    let goes = c.in_err-take_next.ensures.goes account first (c.loop.invariant account first so_far) in
    handed (GoesThrough g.T.TakeRecords.leads account first c.take_next.new.reader.line c.take_next.new.taker) c.in_err-take_next.field-0.0 c.from_residual.result goes c.from_residual.ensures.1

pub returns : goal.returns
returns g c account first so_far =
    let goes = c.in_ok-take_next.ensures.goes account first (c.loop.invariant account first so_far) in
    subst (λ b. Goes g.T.TakeRecords.leads account first c.take_next.new.reader c.take_next.new.taker (Ok b)) c.if-branch.false goes
