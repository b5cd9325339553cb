-- The check says whether the account is accepted.
use Rattle.std.proofs.Common.{refl}
use Rattle.account_check.specs.declared.verdict.Verdict.{Verdict}
use Rattle.account_check.proofs.CheckingLemmas.{handed}
use Rattle.account_check.proofs.VerdictLemmas.{never_both}
use Rattle.account_trim.specs.declared.trimming.Trimmed.{Trimmed}
use Rattle.account_trim.proofs.TrimLemmas.{RefusesExactly, refused_alike}
use Rattle.account_trim.proofs.trimming.trim.Goals as goal

pub trim_accepted-requires : goal.trim_accepted-requires
trim_accepted-requires c =
    let verdict = c.in_ok-verdict.verdict in
    (verdict, (c.in_ok-verdict.ensures.accepted verdict (λ is. cc)).0 refl)

pub returns-in_err-verdict-clause-rejected : goal.returns-in_err-verdict-clause-rejected
returns-in_err-verdict-clause-rejected c =
    let graphs = c.args.graphs.now in
    let bytes = c.args.account.now in
    handed (RefusesExactly Trimmed graphs bytes) c.in_err-verdict.field-0.0 c.from_residual.result
    (refused_alike Verdict Trimmed graphs bytes c.in_err-verdict.field-0.0 c.in_err-verdict.ensures.rejected) c.from_residual.ensures.1

pub returns-clause-rejected : goal.returns-clause-rejected
returns-clause-rejected c line why memory =
    let graphs = c.args.graphs.now in
    let bytes = c.args.account.now in
    let verdict = c.in_ok-verdict.verdict in
    let accepted = (c.in_ok-verdict.ensures.accepted verdict (λ is. cc)).0 refl in
    (λ is. cc, λ rejected. absurd (never_both graphs bytes verdict line why accepted rejected))

pub returns-clause-accepted : goal.returns-clause-accepted
returns-clause-accepted c =
    let verdict = c.in_ok-verdict.verdict in
    (verdict, (c.in_ok-verdict.ensures.accepted verdict (λ is. cc)).0 refl)
