use Rattle.std.proofs.Common.{refl}
use Rattle.ban_book.proofs.BookLemmas.{covers_last}
use Rattle.fact_bans.proofs.MakingLemmas.{made_ban, made_kept, makes_fail, makes_ok, makes_stop}
use Rattle.fact_bans.proofs.ServeLemmas.{served_one}
use Rattle.vector_bans.proofs.last_resort.keep_shown.Goals as goal

pub returns-in_err-ban-clause-makes : goal.returns-in_err-ban-clause-makes
returns-in_err-ban-clause-makes g c =
    makes_fail _ _ _ _ _ _ _ c.in_err-ban.field-0.0 c.from_residual.ensures.1 c.requires.may c.in_err-ban.ensures.serves

pub returns-in_err-number-clause-makes : goal.returns-in_err-number-clause-makes
returns-in_err-number-clause-makes g c =
    makes_stop _ _ _ _ _ _ _ _ c.from_residual-in_err-number.ensures.1 (made_kept _ _ _ _ _ _ _ c.requires.may.valid (served_one _ _ _ _ _ c.in_ok-ban.ensures.serves) c.in_err-number.ensures.refused)

pub returns-clause-makes : goal.returns-clause-makes
returns-clause-makes g c =
    let by = c.in_ok-ban.ensures.ban in
    makes_ok _ _ _ _ _ _ _ _ _ refl (made_ban _ _ _ _ _ _ _ c.in_ok-ban.ban c.requires.may.valid (served_one _ _ _ _ _ c.in_ok-ban.ensures.serves) c.in_ok-number.ensures.added (by.valid c.args.book.now) by.last_resort)

pub returns-clause-covers : goal.returns-clause-covers
returns-clause-covers g c =
    covers_last c.args.book.now c.hold.new.self c.in_ok-ban.ban c.args.shown.pairs c.in_ok-number.number c.in_ok-number.ensures.added c.in_ok-number.ensures.number c.in_ok-ban.ensures.ban.within
