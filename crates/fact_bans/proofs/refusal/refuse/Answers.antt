use Rattle.std.proofs.Common.{refl}
use Rattle.fact_bans.proofs.AskingLemmas.{same_none, same_then}
use Rattle.fact_bans.proofs.MakingLemmas.{made_asked, made_one, made_same, made_then, makes_err, makes_fail, makes_last, makes_ok, may_later}
use Rattle.fact_bans.proofs.refusal.refuse.Goals as goal

pub loop-tried-init : goal.loop-tried-init
loop-tried-init g c =
    (same_none, made_same _ _ _ _ c.requires.may)

pub next_classes-requires : goal.next_classes-requires
next_classes-requires g c =
    let may = may_later _ _ _ _ _ _ _ c.requires.may c.loop-tried.invariant.1 in
    record { may = record { graphs_are = may.graphs_are; suits = may.suits } }

pub refuse_by-requires : goal.refuse_by-requires
refuse_by-requires g c = record { may = may_later _ _ _ _ _ _ _ c.requires.may (made_asked _ _ _ _ _ _ _ _ _ c.requires.may c.loop-tried.invariant.1 c.in_ok-classes.ensures.serves) }

pub loop-tried-preserved : goal.loop-tried-preserved
loop-tried-preserved g c =
    (same_then (same_then c.loop-tried.invariant.0 c.in_ok-classes.ensures.same) c.in_ok-number.ensures.same, made_then _ _ _ _ _ _ _ _ _ _ (made_asked _ _ _ _ _ _ _ _ _ c.requires.may c.loop-tried.invariant.1 c.in_ok-classes.ensures.serves) (made_one _ _ _ _ _ _ _ _ c.in_ok-number.ensures.makes))

pub returns-in_err-classes-clause-makes : goal.returns-in_err-classes-clause-makes
returns-in_err-classes-clause-makes g c =
    makes_last _ _ _ _ _ _ _ _ _ _ _ c.loop-tried.invariant.1 (makes_fail _ _ _ _ _ _ _ c.in_err-classes.field-0.0 c.from_residual.ensures.1 (may_later _ _ _ _ _ _ _ c.requires.may c.loop-tried.invariant.1) c.in_err-classes.ensures.serves)

pub returns-in_default-clause-makes : goal.returns-in_default-clause-makes
returns-in_default-clause-makes g c = makes_ok _ _ _ _ _ _ _ _ _ refl (made_asked _ _ _ _ _ _ _ _ _ c.requires.may c.loop-tried.invariant.1 c.in_ok-classes.ensures.serves)

pub returns-in_err-number-clause-makes : goal.returns-in_err-number-clause-makes
returns-in_err-number-clause-makes g c =
    makes_err _ _ _ _ _ _ _ _ _ _ _ c.in_err-number.field-0.0 c.from_residual-in_err-number.ensures.1 (made_asked _ _ _ _ _ _ _ _ _ c.requires.may c.loop-tried.invariant.1 c.in_ok-classes.ensures.serves) c.in_err-number.ensures.makes

pub returns-in-Some-2-clause-makes : goal.returns-in-Some-2-clause-makes
returns-in-Some-2-clause-makes g c = makes_ok _ _ _ _ _ _ _ _ _ refl (made_then _ _ _ _ _ _ _ _ _ _ (made_asked _ _ _ _ _ _ _ _ _ c.requires.may c.loop-tried.invariant.1 c.in_ok-classes.ensures.serves) (made_one _ _ _ _ _ _ _ _ c.in_ok-number.ensures.makes))

pub returns-clause-makes : goal.returns-clause-makes
returns-clause-makes g c = makes_ok _ _ _ _ _ _ _ _ _ refl c.loop-tried.invariant.1
