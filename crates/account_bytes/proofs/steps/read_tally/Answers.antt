-- A tally's lists aren't there.
use Rattle.account_bytes.specs.Bodies.{StepFits, step_fields, step_tag, tally_tag}
use Rattle.account_bytes.proofs.StepLemmas.{TallyFits, tally_bytes, tally_none}
use Rattle.account_bytes.specs.Reading.{OfTag}
use Rattle.account_bytes.proofs.ReadLemmas.{passed}
use Rattle.account_bytes.proofs.steps.read_tally.Goals as goal

pub returns-in_err-have : goal.returns-in_err-have
returns-in_err-have c =
    passed tally_bytes TallyFits step_fields (OfTag step_tag StepFits (tally_tag c.args.kind)) c.args.text.now c.read.new.text c.args.text.now c.read.new.text c.read.result c.from_residual.result _ c.in_err-have.was c.from_residual.ensures.1 c.read.ensures (tally_none c.args.kind c.args.text.now)
