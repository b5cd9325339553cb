-- The text was written, and its end after it.
use Rattle.std.proofs.Common.{Ok, []}
use Rattle.std.proofs.lemmas.List.{append-nil}
use Rattle.run_steps.proofs.WritingLemmas.{not_written_on, written_as, written_before, written_one, written_then}
use Rattle.run_steps.proofs.writing.append_with_end.Goals as goal

pub returns-in_err-append_text : goal.returns-in_err-append_text
returns-in_err-append_text g c =
    not_written_on _ _ _ _ _ _ c.in_err-append_text.field-0.0 _ c.from_residual.ensures.1
    (written_before _ _ _ _ _ _ _ c.in_err-append_text.ensures)

pub returns : goal.returns
returns g c =
    written_then _ _ _ _ _ _ _ _ (written_before _ _ _ _ _ _ (Ok tt) c.in_ok-append_text.ensures)
    (written_as _ _ _ _ _ _ _ (append-nil _) (written_one _ _ [] _ _ _ c.append.ensures))
