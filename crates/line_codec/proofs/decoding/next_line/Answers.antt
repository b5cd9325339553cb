-- The literals were read, and then the hints.
use Rattle.line_codec.proofs.LineLemmas.{line_read}
use Rattle.line_codec.proofs.decoding.next_line.Goals as goal

pub returns-clause-reads : goal.returns-clause-reads
returns-clause-reads c =
    line_read c.args.cursor.now.bytes c.next_clause.new.cursor.bytes c.next_hints.new.cursor.bytes c.from_vec.result _ c.from_vec-2.result _ c.from_vec.ensures c.from_vec-2.ensures c.in_ok-clause.ensures.reads c.in_ok-hints.ensures.reads
