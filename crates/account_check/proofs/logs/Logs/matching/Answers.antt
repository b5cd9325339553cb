-- Where all logs are closed, their match is one.
use Rattle.std.proofs.Common.{◌≡◌, ap, sym, subst, ◌∙◌}
use Rattle.circuits.specs.Matches.{IsMatchOfFunctions}
use Rattle.account_check.specs.Logs.{log_count}
use Rattle.account_check.specs.Proofs.{MatchLogs, AreRefuted}
use Rattle.account_check.proofs.LogLemmas.{proved}
use Rattle.account_check.proofs.logs.Logs.matching.Goals as goal

pub returns-clause-proved : goal.returns-clause-proved
returns-clause-proved c closed_all =
    let inside = c.self.inside in
    let graphs = inside.graphs.now in
    let kept = c.self.invariant in
    let same : graphs ≡ c.args.self.now.graphs = ap (λ (v : MatchLogs). v.graphs) c.self.view_is in
    let closed : inside.closed ≡ c.args.self.now.proof.closed = ap (λ (v : MatchLogs). v.proof.closed) c.self.view_is in
    let all : c.args.self.now.proof.closed ≡ log_count inside.matching = closed_all ∙ ap (λ (v : MatchLogs). log_count v.proof.matching) (sym c.self.view_is) in
    let refuted = subst (AreRefuted graphs inside.matching) (closed ∙ all) kept.refuted in
    subst (λ g. IsMatchOfFunctions g.first g.second inside.matching.inputs inside.matching.outputs) same (proved graphs inside.matching c.first-first.ensures.sound c.second-second.ensures.sound kept.ports refuted)
