-- A ban is taken where nothing is wrong with it.
use Rattle.std.proofs.Common.{◌≡◌, None, Some, IsSome, sym, ap, subst, ◌∙◌}
use Rattle.net_core.specs.Sides.{Graphs}
use Rattle.account_core.specs.Given.{Given}
use Rattle.account_file.specs.declared.record.Record.TheVariants as entry
use Rattle.account_file.specs.Order.{next_place}
use Rattle.account_check.specs.Accounts.{Account, HasFault, after}
use Rattle.account_check.specs.Logs.{with_ban}
use Rattle.account_check.proofs.AfterLemmas.{kept}
use Rattle.account_check.proofs.TakingLemmas.{ban_after, none_of, refused_for, taken_on}
use Rattle.account_check.proofs.checker.Checker.ban.Goals as goal

pub returns-in-Some : goal.returns-in-Some
returns-in-Some c =
    let inside = c.self.inside in
    let x = entry.Ban c.args.ban.now in
    let tests = rw c.in-Some.is at c.in_ok-reject.ensures.tests in
    let has = subst (λ (v : Account). HasFault v x (Some c.in-Some.reject)) c.self.view_is tests in
    let same = ap (λ (g : Graphs). kept g inside.given inside.dropped inside.stage) c.test_ban.ensures.same ∙ c.self.view_is in
    refused_for c.args.self.now _ x c.in-Some.reject has same

pub returns : goal.returns
returns c =
    let inside = c.self.inside in
    let ban = c.args.ban.now in
    let x = entry.Ban ban in
    let account = kept inside.evaluator inside.given inside.dropped inside.stage in
    let fine : HasFault account x None = none_of (λ fault. HasFault account x fault) _ c.in_ok-reject.ensures.tests c.in_default.not-Some in
    let may = subst (λ (v : Account). IsSome (next_place v.place x)) (sym c.self.view_is) c.requires in
    let added : c.add_ban.new.self ≡ with_ban inside.given ban.pairs = c.in_ok-add_ban.ensures.added ∙ ap (with_ban inside.given) c.deref.ensures in
    let leads = ap (λ (g : Graphs). kept g c.add_ban.new.self inside.dropped inside.stage) c.test_ban.ensures.same
    ∙ (ap (λ (g : Given). kept inside.evaluator g inside.dropped inside.stage) added ∙ ban_after inside.evaluator inside.given inside.dropped inside.stage ban may) in
    taken_on c.args.self.now _ x (subst (λ (v : Account). HasFault v x None) c.self.view_is fine) (subst (λ (v : Account). kept c.test_ban.new.evaluator c.add_ban.new.self inside.dropped inside.stage ≡ after v x) c.self.view_is leads)
