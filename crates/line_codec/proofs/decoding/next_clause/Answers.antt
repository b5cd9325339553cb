-- As many literals as were said.
use Rattle.line_codec.proofs.LineLemmas.{clause_read}
use Rattle.line_codec.proofs.decoding.next_clause.Goals as goal

pub returns-clause-reads : goal.returns-clause-reads
returns-clause-reads c =
    clause_read _ c.args.cursor.now.bytes c.next_number-count.new.cursor.bytes c.next_literals.new.cursor.bytes c.next_number-count.result c.next_literals.result c.next_number-count.ensures.reads c.next_literals.ensures.reads
