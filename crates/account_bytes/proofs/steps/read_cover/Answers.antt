-- A cover's lists aren't there.
use Rattle.account_bytes.specs.Bodies.{StepFits, step_fields, step_tag, cover_tag}
use Rattle.account_bytes.proofs.StepLemmas.{CoverFits, cover_bytes, cover_none}
use Rattle.account_bytes.specs.Reading.{OfTag}
use Rattle.account_bytes.proofs.ReadLemmas.{passed}
use Rattle.account_bytes.proofs.steps.read_cover.Goals as goal

pub returns-in_err-from : goal.returns-in_err-from
returns-in_err-from c =
    passed cover_bytes CoverFits step_fields (OfTag step_tag StepFits (cover_tag c.args.kind)) c.args.text.now c.read.new.text c.args.text.now c.read.new.text c.read.result c.from_residual.result _ c.in_err-from.was c.from_residual.ensures.1 c.read.ensures (cover_none c.args.kind c.args.text.now)
