use Rattle.std.proofs.Common.{map, refl, sym, ap, subst}
use Rattle.account_core.specs.declared.step.Ban.{Ban}
use Rattle.account_core.specs.Given.{decided_by, given_of}
use Rattle.account_core.specs.Steps.{IsValidBan}
use Rattle.net_core.specs.Sides.{Graphs}
use Rattle.ban_book.specs.Mismatched.{mismatch_of}
use Rattle.fact_bans.specs.Carrying.{Carry}
use Rattle.fact_bans.proofs.ServeLemmas.{served_one}
use Rattle.ban_book.specs.Vectors.{IsVector}
use Rattle.ban_book.proofs.BookLemmas.{covers_own}
use Rattle.fact_bans.proofs.MakingLemmas.{made_ban, made_kept, makes_fail, makes_ok, makes_stop}
use Rattle.fact_bans.proofs.mismatched.keep_carried.Goals as goal

pub returns-in_err-unlike-clause-makes : goal.returns-in_err-unlike-clause-makes
returns-in_err-unlike-clause-makes g c =
    makes_fail _ _ _ _ _ _ _ c.in_err-unlike.field-0.0 c.from_residual.ensures.1 c.requires.may c.in_err-unlike.ensures.serves

pub returns-in_default-clause-makes : goal.returns-in_default-clause-makes
returns-in_default-clause-makes g c =
    makes_ok _ _ _ _ _ _ _ _ _ refl (made_kept _ _ _ _ _ _ _ c.requires.may.valid (served_one _ _ _ _ _ c.in_ok-unlike.ensures.serves) refl)

pub returns-in_err-ban-clause-makes : goal.returns-in_err-ban-clause-makes
returns-in_err-ban-clause-makes g c =
    makes_stop _ _ _ _ _ _ _ _ c.from_residual-in_err-ban.ensures.1 (made_kept _ _ _ _ _ _ _ c.requires.may.valid (served_one _ _ _ _ _ c.in_ok-unlike.ensures.serves) refl)

pub returns-in_err-number-clause-makes : goal.returns-in_err-number-clause-makes
returns-in_err-number-clause-makes g c =
    makes_stop _ _ _ _ _ _ _ _ c.from_residual-in_err-number.ensures.1 (made_kept _ _ _ _ _ _ _ c.requires.may.valid (served_one _ _ _ _ _ c.in_ok-unlike.ensures.serves) c.in_err-number.ensures.refused)

pub returns-clause-makes : goal.returns-clause-makes
returns-clause-makes g c =
    let facts = map decided_by (g.O.Oracle.known c.unlike_by.new.asker.oracle.now).facts in
    let carry = subst (λ (gr : Graphs). Carry gr c.args.pairs.now c.args.carried) c.requires.may.graphs_are c.requires.carry in
    let by = rw c.in-Some.is at c.in_ok-unlike.ensures.shown c.args.pairs.now carry in
    let valid = subst (λ (gr : Graphs). IsValidBan gr (given_of facts c.args.book.now) (mismatch_of c.args.pairs.now c.in-Some.unlike)) (sym c.requires.may.graphs_are) (by.valid c.args.book.now) in
    let here = subst (λ (b : Ban). IsValidBan c.args.graphs.now (given_of facts c.args.book.now) b) (sym c.in_ok-ban.ensures) valid in
    makes_ok _ _ _ _ _ _ _ _ _ refl (made_ban _ _ _ _ _ _ _ c.in_ok-ban.ban c.requires.may.valid (served_one _ _ _ _ _ c.in_ok-unlike.ensures.serves) c.in_ok-number.ensures.added here (λ vector. absurd (subst (λ (b : Ban). IsVector b.step) c.in_ok-ban.ensures vector)))

pub returns-clause-covers : goal.returns-clause-covers
returns-clause-covers g c =
    covers_own c.args.book.now c.hold.new.self c.in_ok-ban.ban c.args.pairs.now c.in_ok-number.number (ap (λ (b : Ban). b.pairs) c.in_ok-ban.ensures) c.in_ok-number.ensures.added c.in_ok-number.ensures.number
