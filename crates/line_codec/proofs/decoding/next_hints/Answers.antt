-- As many hints as were said.
use Rattle.line_codec.proofs.LineLemmas.{hints_read}
use Rattle.line_codec.proofs.decoding.next_hints.Goals as goal

pub returns-clause-reads : goal.returns-clause-reads
returns-clause-reads c =
    hints_read _ c.args.cursor.now.bytes c.next_number-count.new.cursor.bytes c.next_deltas.new.cursor.bytes c.next_number-count.result c.next_deltas.result c.next_number-count.ensures.reads c.next_deltas.ensures.reads
