-- The length and the numbers have 64 bits.
use Rattle.std.proofs.Common.{length, refl}
use Rattle.line_codec.proofs.LineLemmas.{hints_words}
use Rattle.line_codec.proofs.coding.put_hints.Goals as goal

pub returns-clause-words : goal.returns-clause-words
returns-clause-words c =
    hints_words c.put_deltas.result c.args.hints.now (length c.args.hints.now) refl c.in_ok-put_number.ensures.word c.put_deltas.ensures.words
