-- What the check's verdict says of the graphs.
use Rattle.std.proofs.Common.{refl, rules}
use Rattle.account_check.proofs.VerdictLemmas.{accepted_told, rejected_told}
use Rattle.check_steps.proofs.Soundness.{proved_match}
use Rattle.check_steps.proofs.judging.settle.Goals as goal

pub returns-in-Ok-Match-clause-verdict : goal.returns-in-Ok-Match-clause-verdict
returns-in-Ok-Match-clause-verdict c graphs bytes has = (bytes, refl, accepted_told graphs bytes c.finish.result _ (c.finish.ensures.verdict graphs bytes has) (search rules))

pub returns-in-Ok-Match-clause-matches : goal.returns-in-Ok-Match-clause-matches
returns-in-Ok-Match-clause-matches c graphs bytes has =
    proved_match _ _ c.finish.result _ (search rules) (λ matching. c.finish.ensures.proved graphs bytes matching has)

pub returns-in-Ok-None-clause-verdict : goal.returns-in-Ok-None-clause-verdict
returns-in-Ok-None-clause-verdict c graphs bytes has = (bytes, refl, accepted_told graphs bytes c.finish.result _ (c.finish.ensures.verdict graphs bytes has) (search rules))

pub returns-in-Err-Rejected-clause-verdict : goal.returns-in-Err-Rejected-clause-verdict
returns-in-Err-Rejected-clause-verdict c graphs bytes has = (bytes, refl, rejected_told graphs bytes c.finish.result _ _ (c.finish.ensures.verdict graphs bytes has) (search rules))
