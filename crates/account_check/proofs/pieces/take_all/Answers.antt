-- One record more is taken; where there is none, all are.
use Rattle.std.proofs.Common.{Ok, subst}
use Rattle.account_check.specs.Checking.{Goes, TakesAll}
use Rattle.account_check.proofs.CheckingLemmas.{handed}
use Rattle.account_check.proofs.pieces.take_all.Goals as goal

pub take_next-requires : goal.take_next-requires
take_next-requires c =
    let finished = c.requires.0 in
    let graphs = c.requires.1 in
    let bytes = c.requires.2 in
    (finished, graphs, bytes, c.loop.invariant.stays finished graphs bytes c.requires.3)

pub loop-preserved : goal.loop-preserved
loop-preserved c = record {
  stays = λ finished graphs bytes so_far.
      subst (λ b. Goes finished graphs bytes c.take_next.new.reader c.take_next.new.checker (Ok b)) c.if-branch.true (c.in_ok-take_next.ensures.goes finished graphs bytes (c.loop.invariant.stays finished graphs bytes so_far));
}

pub returns-in_err-take_next : goal.returns-in_err-take_next
returns-in_err-take_next c finished graphs bytes so_far =
    let goes = c.in_err-take_next.ensures.goes finished graphs bytes (c.loop.invariant.stays finished graphs bytes so_far) in
    handed (TakesAll finished graphs bytes c.take_next.new.reader c.take_next.new.checker) c.in_err-take_next.field-0.0 c.from_residual.result goes c.from_residual.ensures.1

pub returns : goal.returns
returns c finished graphs bytes so_far =
    let goes = c.in_ok-take_next.ensures.goes finished graphs bytes (c.loop.invariant.stays finished graphs bytes so_far) in
    subst (λ b. Goes finished graphs bytes c.take_next.new.reader c.take_next.new.checker (Ok b)) c.if-branch.false goes
