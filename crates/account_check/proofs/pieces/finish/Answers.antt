-- Where no more bytes come and all records are taken, the account has ended, and its verdict is that of the bytes.
use Rattle.std.proofs.Common.{true}
use Rattle.account_check.specs.Verdicts.{IsVerdict}
use Rattle.account_check.proofs.CheckingLemmas.{ended_place, handed, match_there, verdict_there, whole}
use Rattle.account_check.proofs.pieces.finish.Goals as goal

pub take_all-requires : goal.take_all-requires
take_all-requires c = (true, c.requires.0, c.requires.1, whole _ _ _ _ _ c.finish.ensures.reads c.finish.ensures.finished c.requires.2)

pub returns-in_err-take_all-clause-verdict : goal.returns-in_err-take_all-clause-verdict
returns-in_err-take_all-clause-verdict c graphs bytes so_far =
    handed (IsVerdict graphs bytes) c.in_err-take_all.field-0.0 c.from_residual.result
    (c.in_err-take_all.ensures true graphs bytes (whole _ _ _ _ _ c.finish.ensures.reads c.finish.ensures.finished so_far)) c.from_residual.ensures.1

pub ended-requires : goal.ended-requires
ended-requires c =
    ended_place c.requires.0 c.requires.1 c.take_all.new.checker (c.in_ok-take_all.ensures true c.requires.0 c.requires.1 (whole _ _ _ _ _ c.finish.ensures.reads c.finish.ensures.finished c.requires.2))

pub returns-clause-verdict : goal.returns-clause-verdict
returns-clause-verdict c graphs bytes so_far =
    verdict_there graphs bytes c.take_all.new.checker c.in_ok-ended.field-0
    (c.in_ok-take_all.ensures true graphs bytes (whole _ _ _ _ _ c.finish.ensures.reads c.finish.ensures.finished so_far)) c.in_ok-ended.ensures.verdict

pub returns-clause-proved : goal.returns-clause-proved
returns-clause-proved c graphs bytes matching so_far is =
    match_there graphs bytes c.take_all.new.checker c.in_ok-ended.field-0 matching
    (c.in_ok-take_all.ensures true graphs bytes (whole _ _ _ _ _ c.finish.ensures.reads c.finish.ensures.finished so_far)) c.in_ok-ended.ensures.verdict is c.in_ok-ended.ensures.proved
