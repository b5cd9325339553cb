-- The text and its end were written, or a first part of them.
use Rattle.run_steps.proofs.MakingLemmas.{text_refused, text_written}
use Rattle.run_steps.proofs.making.write_named_with_end.Goals as goal

pub returns-in-Ok : goal.returns-in-Ok
returns-in-Ok g c = text_written _ _ _ _ _ c.in-Ok.ensures.closed c.in-Ok.ensures.writes

pub returns-in-Err : goal.returns-in-Err
returns-in-Err g c = text_refused _ _ _ _ _ c.in-Err.stop c.unwritten.result c.unwritten.ensures c.in-Err.ensures.writes
