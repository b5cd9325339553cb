-- A match leads to its logs.
use Rattle.std.proofs.Common.{◌≡◌, IsSome, sym, subst, ap, ◌∙◌, rules}
use Rattle.account_core.specs.declared.conclusion.Conclusion.TheVariants as conclusion
use Rattle.account_file.specs.declared.record.Record.TheVariants as entry
use Rattle.account_file.specs.Order.{next_place}
use Rattle.net_core.specs.Sides.{Graphs}
use Rattle.account_check.specs.Accounts.{Account, after}
use Rattle.account_check.specs.Conclusions.{AreInOrder, matching_of}
use Rattle.account_check.specs.Logs.{unproved}
use Rattle.account_check.proofs.AfterLemmas.{kept, match_after}
use Rattle.account_check.proofs.checker.Checker.conclude_match.Goals as goal

pub returns : goal.returns
returns c =
    let inside = c.self.inside in
    let graphs = inside.evaluator in
    let same : c.graphs-graphs.result.now ≡ graphs = c.graphs-graphs.ensures in
    let pairs = c.args.pairs.now in
    let x = entry.Conclusion (conclusion.Match pairs) in
    let logs = c.in_ok-logs.logs in
    let may = subst (λ (v : Account). IsSome (next_place v.place x)) (sym c.self.view_is) c.requires in
    let made = subst (λ (g : Graphs). logs ≡ record { graphs = g; proof = unproved c.in_ok-matching.matching }) same c.in_ok-logs.ensures in
    let matching = subst (λ (g : Graphs). c.in_ok-matching.matching ≡ matching_of g.first.inputs pairs) same c.in_ok-matching.ensures.matching in
    let order = subst (λ (g : Graphs). AreInOrder g.first pairs) same c.in_ok-matching.ensures.order in
    let leads = match_after graphs inside.given inside.dropped inside.stage logs c.in_ok-matching.matching pairs may made matching order in
    record {
      refused = λ reject is. cc;
      taken = search rules;
      leads = subst (λ (v : Account). kept graphs inside.given inside.dropped c.go_to.new.stage ≡ after v x) c.self.view_is (ap (kept graphs inside.given inside.dropped) c.go_to.ensures ∙ leads);
      unchanged = search rules;
    }
