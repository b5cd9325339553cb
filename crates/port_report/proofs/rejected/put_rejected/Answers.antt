-- The line is the one of these words.
use Rattle.std.proofs.Common.{sym}
use Rattle.port_report.proofs.rejected.put_rejected.Goals as goal

pub returns-clause-ok : goal.returns-clause-ok
returns-clause-ok c = rw (sym c.as_bytes.ensures.value) c.put_line.ensures.ok
