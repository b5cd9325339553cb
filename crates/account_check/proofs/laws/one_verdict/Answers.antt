use Rattle.account_check.proofs.VerdictLemmas.{never_both, one_proved, one_rejection}
use Rattle.account_check.proofs.laws.one_verdict.Goals as goal

pub returns : goal.returns
returns c = record { rejected = one_rejection; accepted = one_proved; never_both = never_both }
