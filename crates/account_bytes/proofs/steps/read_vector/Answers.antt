-- A vector step's fields aren't there.
use Rattle.account_bytes.specs.Bodies.{StepFits, step_fields, step_tag}
use Rattle.account_bytes.proofs.StepLemmas.{VectorFits, vector_bytes, vector_none}
use Rattle.account_bytes.specs.Reading.{OfTag}
use Rattle.account_bytes.proofs.ReadLemmas.{passed}
use Rattle.account_bytes.proofs.steps.read_vector.Goals as goal

pub returns-in_err-output : goal.returns-in_err-output
returns-in_err-output c =
    passed vector_bytes VectorFits step_fields (OfTag step_tag StepFits 0) c.args.text.now c.read.new.text c.args.text.now c.read.new.text c.read.result c.from_residual.result _ c.in_err-output.was c.from_residual.ensures.1 c.read.ensures (vector_none c.args.text.now)
