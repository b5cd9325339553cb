use Rattle.std.proofs.Common.{◌+◌, ◌/◌, ◌<◌, ◌∷◌, [], List, ℕ, length, map, refl, sym, ap, subst, arith}
use Rattle.circuits.specs.Netlists.{Net}
use Rattle.account_core.specs.declared.step.Ban.{Ban}
use Rattle.account_core.specs.Given.{decided_by, given_of}
use Rattle.account_core.specs.Steps.{IsValidBan}
use Rattle.fact_bans.proofs.ServeLemmas.{served_one}
use Rattle.ban_book.specs.Vectors.{IsVector}
use Rattle.ban_book.proofs.BookLemmas.{covers_own}
use Rattle.fact_bans.proofs.MakingLemmas.{made_ban, made_kept, makes_fail, makes_ok, makes_stop, tally_no_vector}
use Rattle.ban_book.proofs.TallyLemmas.{tally_valid}
use Rattle.fact_bans.proofs.tallies.tally_by.Goals as goal

pub returns-in_err-lists-clause-makes : goal.returns-in_err-lists-clause-makes
returns-in_err-lists-clause-makes g c =
    makes_fail _ _ _ _ _ _ _ c.in_err-lists.field-0.0 c.from_residual.ensures.1 c.requires.may c.in_err-lists.ensures.serves

pub returns-in_default-clause-makes : goal.returns-in_default-clause-makes
returns-in_default-clause-makes g c =
    makes_ok _ _ _ _ _ _ _ _ _ refl (made_kept _ _ _ _ _ _ _ c.requires.may.valid (served_one _ _ _ _ _ c.in_ok-lists.ensures.serves) refl)

pub returns-then-not-are_enough-clause-makes : goal.returns-then-not-are_enough-clause-makes
returns-then-not-are_enough-clause-makes g c =
    makes_ok _ _ _ _ _ _ _ _ _ refl (made_kept _ _ _ _ _ _ _ c.requires.may.valid (served_one _ _ _ _ _ c.in_ok-lists.ensures.serves) refl)

pub returns-in_err-ban-clause-makes : goal.returns-in_err-ban-clause-makes
returns-in_err-ban-clause-makes g c =
    makes_stop _ _ _ _ _ _ _ _ c.from_residual-in_err-ban.ensures.1 (made_kept _ _ _ _ _ _ _ c.requires.may.valid (served_one _ _ _ _ _ c.in_ok-lists.ensures.serves) refl)

pub returns-in_err-number-clause-makes : goal.returns-in_err-number-clause-makes
returns-in_err-number-clause-makes g c =
    makes_stop _ _ _ _ _ _ _ _ c.from_residual-in_err-number.ensures.1 (made_kept _ _ _ _ _ _ _ c.requires.may.valid (served_one _ _ _ _ _ c.in_ok-lists.ensures.serves) c.in_err-number.ensures.refused)

pub returns-clause-makes : goal.returns-clause-makes
returns-clause-makes g c =
    let graphs = c.args.graphs.now in
    let new = g.O.Oracle.known c.ask.new.asker.oracle.now in
    let lists = c.in-Some.lists in
    let are = rw c.in-Some.is at c.in_ok-lists.ensures.lists in
    let one = subst (λ (l : List ℕ). 0 < length l) c.deref.ensures.value (c.are_enough.ensures.some_one c.if-not-are_enough.false) in
    let both = subst (λ (l : List ℕ). 1 < length l) c.deref-2.ensures.value (c.are_enough.ensures.some_both c.if-not-are_enough.false) in
    let many : graphs.first.inputs < length lists.one + length lists.both / 2 = omega (arith, c.are_enough.ensures.many c.if-not-are_enough.false, ap length c.deref.ensures.value, ap length c.deref-2.ensures.value, c.inputs.ensures.value, ap (λ (net : Net). net.inputs) c.first.ensures.value) in
    let valid = tally_valid graphs (map decided_by new.facts) c.args.book.now c.args.pair c.args.plan.now.side c.args.plan.now.holds lists c.requires.outputs.kind_is c.requires.outputs.known are one both many in
    let here = subst (λ (b : Ban). IsValidBan graphs (given_of (map decided_by new.facts) c.args.book.now) b) (sym c.in_ok-ban.ensures) valid in
    makes_ok _ _ _ _ _ _ _ _ _ refl (made_ban _ _ _ _ _ _ _ c.in_ok-ban.ban c.requires.may.valid (served_one _ _ _ _ _ c.in_ok-lists.ensures.serves) c.in_ok-number.ensures.added here (λ vector. absurd (tally_no_vector c.args.pair c.args.plan.now.holds lists (subst (λ (b : Ban). IsVector b.step) c.in_ok-ban.ensures vector))))

pub returns-clause-covers : goal.returns-clause-covers
returns-clause-covers g c =
    covers_own c.args.book.now c.hold.new.self c.in_ok-ban.ban (c.args.pair ∷ []) c.in_ok-number.number (ap (λ (b : Ban). b.pairs) c.in_ok-ban.ensures) c.in_ok-number.ensures.added c.in_ok-number.ensures.number
