-- What is wrong with a line, as the open match's logs say.
use Rattle.std.proofs.Common.{◌≡◌, None, Some, OnOk, sym, ap, subst, ◌∙◌, rules}
use Rattle.account_check.specs.Logs.{line_reject, match_reject}
use Rattle.account_check.specs.Accounts.{Account}
use Rattle.account_check.specs.Stages.{IsStage, fact_of, proof_of}
use Rattle.account_check.proofs.checker.Checker.match_line.Goals as goal

pub returns : goal.returns
returns c =
    let graphs = c.self.inside.evaluator in
    let logs = c.in-Proving.logs in
    let line = c.args.line.now in
    let same : logs.graphs ≡ graphs = subst (IsStage graphs) c.in-Proving.is c.self.invariant.stage_is in
    let told_by = ap (λ s. line_reject graphs (fact_of s) (proof_of s) line) (sym c.in-Proving.is) in
    let rule = ap (λ g. match_reject g logs.proof line) same ∙ told_by in
    record {
      refused = λ reject is.
          let told : Some reject ≡ match_reject graphs logs.proof line = c.line.ensures.refused reject is ∙ ap (λ g. match_reject g logs.proof line) same in
          subst (λ (v : Account). Some reject ≡ line_reject v.graphs v.fact v.proof line) c.self.view_is (told ∙ told_by);
      taken = subst (λ (v : Account). OnOk c.line.result (None ≡ line_reject v.graphs v.fact v.proof line)) c.self.view_is (subst (λ f. OnOk c.line.result (None ≡ f)) rule c.line.ensures.taken);
      leads = search rules;
      unchanged = search rules;
    }
