-- A bad line of all bytes is the first; and where there is none, the verdict is that of the bytes.
use Rattle.std.proofs.Common.{[], Err, append-nil, subst}
use Rattle.account_check.specs.Verdicts.{IsVerdict}
use Rattle.account_check.proofs.CheckingLemmas.{handed}
use Rattle.account_check.proofs.whole_account.verdict_by.Goals as goal

pub returns-in_err-feed-clause-verdict : goal.returns-in_err-feed-clause-verdict
returns-in_err-feed-clause-verdict c graphs begun =
    let stop = c.in_err-feed.field-0.0 in
    handed (IsVerdict graphs c.args.account.now) stop c.from_residual.result
    (subst (λ bytes. IsVerdict graphs bytes (Err stop)) (append-nil c.args.account.now) (c.in_err-feed.ensures graphs [] begun [])) c.from_residual.ensures.1

pub finish-requires : goal.finish-requires
finish-requires c = (c.requires.0, c.args.account.now, c.in_ok-feed.ensures c.requires.0 [] c.requires.1)

pub returns-clause-verdict : goal.returns-clause-verdict
returns-clause-verdict c graphs begun = c.finish.ensures.verdict graphs c.args.account.now (c.in_ok-feed.ensures graphs [] begun)

pub returns-clause-proved : goal.returns-clause-proved
returns-clause-proved c graphs matching begun is = c.finish.ensures.proved graphs c.args.account.now matching (c.in_ok-feed.ensures graphs [] begun) is
