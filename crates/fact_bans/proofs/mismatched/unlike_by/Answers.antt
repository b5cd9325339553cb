use Rattle.std.proofs.Common.{refl, sym, subst, map}
use Rattle.account_core.specs.Given.{decided_by}
use Rattle.ban_book.specs.declared.mismatched.Unlike.{Unlike}
use Rattle.ban_book.specs.Mismatched.{IsBanBy, mismatch_of}
use Rattle.fact_bans.proofs.ServeLemmas.{served_one, served_then, serves_err, serves_ok}
use Rattle.fact_bans.proofs.FactLemmas.{decided_grows}
use Rattle.ban_book.proofs.MismatchedLemmas.{mismatch_valid, unlike}
use Rattle.fact_bans.proofs.mismatched.unlike_by.Goals as goal

pub returns-in_err-other-clause-serves : goal.returns-in_err-other-clause-serves
returns-in_err-other-clause-serves g c =
    serves_err _ _ _ _ _ _ _ c.in_err-other.field-0.0 c.from_residual-in_err-other.ensures.1 (served_one _ _ _ _ _ c.in_ok-one.ensures.serves) c.in_err-other.ensures.serves

pub returns-then-one-other-clause-serves : goal.returns-then-one-other-clause-serves
returns-then-one-other-clause-serves g c =
    serves_ok _ _ _ _ _ _ refl (served_then _ _ _ _ _ _ (served_one _ _ _ _ _ c.in_ok-one.ensures.serves) (served_one _ _ _ _ _ c.in_ok-other.ensures.serves))

pub returns-clause-serves : goal.returns-clause-serves
returns-clause-serves g c =
    serves_ok _ _ _ _ _ _ refl (served_then _ _ _ _ _ _ (served_one _ _ _ _ _ c.in_ok-one.ensures.serves) (served_one _ _ _ _ _ c.in_ok-other.ensures.serves))

pub returns-clause-shown : goal.returns-clause-shown
returns-clause-shown g c = λ pairs carry.
    let claim = c.args.carried.claim in
    let image = c.args.carried.image in
    let mid = g.O.Oracle.known c.decide.new.asker.oracle.now in
    let new = g.O.Oracle.known c.decide-2.new.asker.oracle.now in
    let graphs = (g.O.Oracle.known c.args.asker.now.oracle.now).graphs in
    let decided = decided_grows mid new claim c.in_ok-one.one.holds c.in_ok-one.one.number c.in_ok-other.ensures.serves.grows c.in_ok-one.ensures.decided in
    subst (λ (unlike : Unlike). IsBanBy graphs (map decided_by new.facts) pairs (mismatch_of pairs unlike)) (sym c.unlike_of.ensures)
    (mismatch_valid graphs (map decided_by new.facts) pairs claim image c.in_ok-one.one.holds c.in_ok-other.other.holds c.in_ok-one.one.number c.in_ok-other.other.number carry.known carry.ordered carry.image decided c.in_ok-other.ensures.decided (unlike c.in_ok-one.one.holds c.in_ok-other.other.holds c.if-one-other.false))
