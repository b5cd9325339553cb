use Rattle.std.proofs.Common.{refl}
use Rattle.fact_bans.proofs.MakingLemmas.{made_one, made_same, makes_err, makes_ok, makes_stop}
use Rattle.vector_bans.proofs.ShownLemmas.{shown_itself}
use Rattle.vector_bans.proofs.foresight.foresee.Goals as goal
use Rattle.ban_book.proofs.BookLemmas.{covers_wider}

pub returns-in_err-shown-clause-makes : goal.returns-in_err-shown-clause-makes
returns-in_err-shown-clause-makes g c =
    makes_stop _ _ _ _ _ _ _ _ c.from_residual.ensures.1 (made_same _ _ _ _ c.requires.may)

pub returns-in_default-clause-makes : goal.returns-in_default-clause-makes
returns-in_default-clause-makes g c = makes_ok _ _ _ _ _ _ _ _ _ refl (made_same _ _ _ _ c.requires.may)

pub keep_shown-requires-clause-shown : goal.keep_shown-requires-clause-shown
keep_shown-requires-clause-shown g c = shown_itself _ _ _ _ _ (rw c.in-Some.is at c.in_ok-shown.ensures)

pub returns-in_err-number-clause-makes : goal.returns-in_err-number-clause-makes
returns-in_err-number-clause-makes g c =
    makes_err _ _ _ _ _ _ _ _ _ _ _ c.in_err-number.field-0.0 c.from_residual-in_err-number.ensures.1 (made_same _ _ _ _ c.requires.may) c.in_err-number.ensures.makes

pub returns-clause-makes : goal.returns-clause-makes
returns-clause-makes g c = makes_ok _ _ _ _ _ _ _ _ _ refl (made_one _ _ _ _ _ _ _ _ c.in_ok-number.ensures.makes)

pub returns-clause-covers : goal.returns-clause-covers
returns-clause-covers g c =
    covers_wider c.keep_shown.new.book c.in-Some.shown.pairs c.args.assigned.now c.in_ok-number.number (rw c.in-Some.is at c.in_ok-shown.ensures).among c.in_ok-number.ensures.covers
