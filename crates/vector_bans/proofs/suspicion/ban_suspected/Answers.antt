use Rattle.std.proofs.Common.{All, List, refl, sym, subst}
use Rattle.std.specs.Prelude.{Contains}
use Rattle.circuits.specs.declared.port.Pair.{Pair}
use Rattle.account_core.specs.Ports.{AreOrdered, IsKnown}
use Rattle.ban_book.specs.Rows.{HasOneOutput}
use Rattle.ban_book.proofs.BookLemmas.{covers_last, covers_wider}
use Rattle.ban_book.proofs.KeepLemmas.{part_known}
use Rattle.fact_bans.proofs.MakingLemmas.{made_ban, made_kept, made_same, makes_fail, makes_ok, makes_stop}
use Rattle.fact_bans.proofs.ServeLemmas.{served_one}
use Rattle.vector_bans.proofs.suspicion.ban_suspected.Goals as goal

pub returns-then-ne-clause-makes : goal.returns-then-ne-clause-makes
returns-then-ne-clause-makes g c = makes_ok _ _ _ _ _ _ _ _ _ refl (made_same _ _ _ _ c.requires.may)

pub returns-then-not-contains-clause-makes : goal.returns-then-not-contains-clause-makes
returns-then-not-contains-clause-makes g c = makes_ok _ _ _ _ _ _ _ _ _ refl (made_same _ _ _ _ c.requires.may)

pub returns-in_err-pairs-clause-makes : goal.returns-in_err-pairs-clause-makes
returns-in_err-pairs-clause-makes g c = makes_stop _ _ _ _ _ _ _ _ c.from_residual.ensures.1 (made_same _ _ _ _ c.requires.may)

pub ban_of-requires-clause-known : goal.ban_of-requires-clause-known
ban_of-requires-clause-known g c =
    subst (All (IsKnown c.args.graphs.now)) (sym c.deref.ensures.value) (part_known c.args.graphs.now c.args.assigned.now c.in_ok-pairs.pairs.items c.requires.assigned c.in_ok-pairs.ensures.part)

pub ban_of-requires-clause-ordered : goal.ban_of-requires-clause-ordered
ban_of-requires-clause-ordered g c = subst AreOrdered (sym c.deref.ensures.value) c.in_ok-pairs.ensures.part.ordered

pub ban_of-requires-clause-output : goal.ban_of-requires-clause-output
ban_of-requires-clause-output g c =
    subst (λ (l : List Pair). HasOneOutput l c.args.suspicion.output) (sym c.deref.ensures.value) c.in_ok-pairs.ensures.output

pub returns-in_err-ban-clause-makes : goal.returns-in_err-ban-clause-makes
returns-in_err-ban-clause-makes g c =
    makes_fail _ _ _ _ _ _ _ c.in_err-ban.field-0.0 c.from_residual-in_err-ban.ensures.1 c.requires.may c.in_err-ban.ensures.serves

pub returns-in_default-clause-makes : goal.returns-in_default-clause-makes
returns-in_default-clause-makes g c =
    makes_ok _ _ _ _ _ _ _ _ _ refl (made_kept _ _ _ _ _ _ _ c.requires.may.valid (served_one _ _ _ _ _ c.in_ok-ban.ensures.serves) refl)

pub returns-in_err-number-clause-makes : goal.returns-in_err-number-clause-makes
returns-in_err-number-clause-makes g c =
    makes_stop _ _ _ _ _ _ _ _ c.from_residual-in_err-number.ensures.1 (made_kept _ _ _ _ _ _ _ c.requires.may.valid (served_one _ _ _ _ _ c.in_ok-ban.ensures.serves) c.in_err-number.ensures.refused)

pub returns-clause-makes : goal.returns-clause-makes
returns-clause-makes g c =
    let by = rw c.in-Some.is at c.in_ok-ban.ensures.ban in
    makes_ok _ _ _ _ _ _ _ _ _ refl (made_ban _ _ _ _ _ _ _ c.in-Some.ban c.requires.may.valid (served_one _ _ _ _ _ c.in_ok-ban.ensures.serves) c.in_ok-number.ensures.added (by.valid c.args.book.now) by.last_resort)

pub returns-clause-covers : goal.returns-clause-covers
returns-clause-covers g c =
    let by = rw c.in-Some.is at c.in_ok-ban.ensures.ban in
    let among = subst (All (Contains c.args.assigned.now)) (sym c.deref.ensures.value) c.in_ok-pairs.ensures.part.among in
    covers_wider c.hold.new.self c.deref.result.now c.args.assigned.now c.in_ok-number.number among (covers_last c.args.book.now c.hold.new.self c.in-Some.ban c.deref.result.now c.in_ok-number.number c.in_ok-number.ensures.added c.in_ok-number.ensures.number by.within)
