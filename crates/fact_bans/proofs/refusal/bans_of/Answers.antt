use Rattle.std.proofs.Common.{refl, subst}
use Rattle.std.proofs.lemmas.List.{take_all}
use Rattle.fact_bans.specs.Referred.{AreReferred}
use Rattle.fact_bans.proofs.AskingLemmas.{same_none, same_then}
use Rattle.fact_bans.proofs.MakingLemmas.{made_one, made_same, made_then, makes_err, makes_ok, makes_stop, may_later}
use Rattle.fact_bans.proofs.ReferLemmas.{found_more, found_none}
use Rattle.fact_bans.proofs.refusal.bans_of.Goals as goal

pub loop-pair-init : goal.loop-pair-init
loop-pair-init g c =
    (same_none, found_none c.args.graphs.now (g.O.Oracle.known c.args.asker.now.oracle.now) c.args.asker.now.ledger.now c.args.book.now c.new-refs.result c.requires.may c.new-refs.ensures)

pub tally-requires-clause-may : goal.tally-requires-clause-may
tally-requires-clause-may g c = may_later _ _ _ _ _ _ _ c.requires.may c.loop-pair.invariant.1.made

pub loop-pair-preserved-in-Some : goal.loop-pair-preserved-in-Some
loop-pair-preserved-in-Some g c =
    (c.loop-pair.invariant.0, found_more _ _ _ _ _ _ _ _ _ _ c.args.ways.now c.loop-pair.pair-index _ c.in-Some.known _ _ c.loop-pair-test.true c.loop-pair.invariant.1 (made_same _ _ _ _ (may_later _ _ _ _ _ _ _ c.requires.may c.loop-pair.invariant.1.made)) (rw c.in-Some.is at c.covering.ensures.found) c.in_ok-push.ensures.ok)

pub loop-pair-preserved : goal.loop-pair-preserved
loop-pair-preserved g c =
    (same_then c.loop-pair.invariant.0 c.in_ok-number.ensures.same, found_more _ _ _ _ _ _ _ _ _ _ c.args.ways.now c.loop-pair.pair-index _ c.in-Some-2.number _ _ c.loop-pair-test.true c.loop-pair.invariant.1 (made_one _ _ _ _ _ _ _ _ c.in_ok-number.ensures.makes) (rw c.in-Some-2.is at c.in_ok-number.ensures.covers) c.in_ok-push-2.ensures.ok)

pub returns-in_err-push-clause-makes : goal.returns-in_err-push-clause-makes
returns-in_err-push-clause-makes g c = makes_stop _ _ _ _ _ _ _ _ c.from_residual.ensures.1 c.loop-pair.invariant.1.made

pub returns-in_err-number-clause-makes : goal.returns-in_err-number-clause-makes
returns-in_err-number-clause-makes g c =
    makes_err _ _ _ _ _ _ _ _ _ _ _ c.in_err-number.field-0.0 c.from_residual-in_err-number.ensures.1 c.loop-pair.invariant.1.made c.in_err-number.ensures.makes

pub returns-in_default-2-clause-makes : goal.returns-in_default-2-clause-makes
returns-in_default-2-clause-makes g c = makes_ok _ _ _ _ _ _ _ _ _ refl (made_then _ _ _ _ _ _ _ _ _ _ c.loop-pair.invariant.1.made (made_one _ _ _ _ _ _ _ _ c.in_ok-number.ensures.makes))

pub returns-in_err-push-2-clause-makes : goal.returns-in_err-push-2-clause-makes
returns-in_err-push-2-clause-makes g c =
    makes_stop _ _ _ _ _ _ _ _ c.from_residual-in_err-push-2.ensures.1 (made_then _ _ _ _ _ _ _ _ _ _ c.loop-pair.invariant.1.made (made_one _ _ _ _ _ _ _ _ c.in_ok-number.ensures.makes))

pub returns-clause-makes : goal.returns-clause-makes
returns-clause-makes g c = makes_ok _ _ _ _ _ _ _ _ _ refl c.loop-pair.invariant.1.made

pub returns-clause-referred : goal.returns-clause-referred
returns-clause-referred g c =
    subst (λ l. AreReferred c.loop-pair.book l c.loop-pair.refs) (take_all c.loop-pair.pair-index c.args.ways.now c.loop-pair-test.false) c.loop-pair.invariant.1.are
