-- The file was made, filled and closed.
use Rattle.run_steps.proofs.WritingLemmas.{closed, not_created, not_written}
use Rattle.run_steps.proofs.writing.write_with_end.Goals as goal

pub returns-in_err-create-clause-writes : goal.returns-in_err-create-clause-writes
returns-in_err-create-clause-writes g c =
    not_created _ _ _ _ _ c.in_err-create.field-0.0 _ c.from_residual.ensures.1 c.in_err-create.ensures

pub returns-in_err-append_with_end-clause-writes : goal.returns-in_err-append_with_end-clause-writes
returns-in_err-append_with_end-clause-writes g c =
    not_written _ _ _ _ _ _ c.in_err-append_with_end.field-0.0 _ c.from_residual-in_err-append_with_end.ensures.1 c.in_ok-create.ensures c.in_err-append_with_end.ensures

pub returns-clause-writes : goal.returns-clause-writes
returns-clause-writes g c = closed _ _ _ _ _ _ _ _ c.in_ok-create.ensures c.in_ok-append_with_end.ensures c.close.ensures
