-- The length and the numbers have 64 bits.
use Rattle.std.proofs.Common.{length, refl}
use Rattle.line_codec.proofs.LineLemmas.{clause_words}
use Rattle.line_codec.proofs.coding.put_clause.Goals as goal

pub returns-clause-words : goal.returns-clause-words
returns-clause-words c =
    clause_words c.put_literals.result c.args.clause.now (length c.args.clause.now) refl c.in_ok-put_number.ensures.word c.put_literals.ensures.words
