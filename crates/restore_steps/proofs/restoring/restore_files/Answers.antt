-- The netlists were judged, and the second one restored, or the verdict reported.
use Rattle.std.proofs.lemmas.Result.{err_from_is_err_and}
use Rattle.restore_steps.proofs.RestoreLemmas.{judging_ended, restores_decides, verdict_matches, verdict_told}
use Rattle.restore_steps.proofs.restoring.restore_files.Goals as goal

pub returns-in_err-judgement : goal.returns-in_err-judgement
returns-in_err-judgement g c =
    let p = err_from_is_err_and c.from_residual.result c.from_residual.ensures.1 in
    judging_ended _ c.args.asked.now _ _ _ c.in_err-judgement.field-0.0 (cc (p.1, p.2)) c.in_err-judgement.ensures

pub restore_by-requires-clause-matches : goal.restore_by-requires-clause-matches
restore_by-requires-clause-matches g c =
    verdict_matches _ c.args.asked.now _ _ c.in_ok-judgement.judgement c.in_ok-judgement.ensures c.in-AcceptedMatch.matching c.in-AcceptedMatch.is

pub returns-in-AcceptedMatch : goal.returns-in-AcceptedMatch
returns-in-AcceptedMatch g c =
    restores_decides _ c.args.asked.now _ _ c.in_ok-judgement.judgement c.in_ok-judgement.ensures c.in-AcceptedMatch.matching c.in-AcceptedMatch.is _ _ c.restore_by.ensures

pub returns : goal.returns
returns g c =
    verdict_told _ c.args.asked.now _ _ c.in_ok-judgement.judgement c.in_ok-judgement.ensures c.reported.result c.in_default.not-AcceptedMatch c.reported.ensures.same c.reported.ensures.line c.reported.ensures.memory
