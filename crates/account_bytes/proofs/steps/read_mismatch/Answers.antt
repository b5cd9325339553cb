-- The numbers of facts aren't there.
use Rattle.account_bytes.specs.Bodies.{StepFits, step_fields, step_tag}
use Rattle.account_bytes.proofs.StepLemmas.{MismatchFits, mismatch_bytes, mismatch_none}
use Rattle.account_bytes.specs.Reading.{OfTag}
use Rattle.account_bytes.proofs.ReadLemmas.{passed}
use Rattle.account_bytes.proofs.steps.read_mismatch.Goals as goal

pub returns-in_err-fails : goal.returns-in_err-fails
returns-in_err-fails c =
    passed mismatch_bytes MismatchFits step_fields (OfTag step_tag StepFits 1) c.args.text.now c.read.new.text c.args.text.now c.read.new.text c.read.result c.from_residual.result _ c.in_err-fails.was c.from_residual.ensures.1 c.read.ensures (mismatch_none c.args.text.now)
