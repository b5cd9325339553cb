-- The low bits are all, or others follow.
use Rattle.std.proofs.Common.{refl, sym, ◌∙◌, arith}
use Rattle.line_codec.proofs.ByteLemmas.{magnitude_high, magnitude_low}
use Rattle.line_codec.proofs.decoding.next_magnitude.Goals as goal

pub returns-then-not-more-clause-reads : goal.returns-then-not-more-clause-reads
returns-then-not-more-clause-reads c = λ magnitude rest words is.
    magnitude_low magnitude c.from.result c.args.cursor.now.bytes c.args.cursor.now.bytes rest (c.from.ensures ∙ words.2) (sym words.1 ∙ c.if-not-more.true) refl is

pub returns-clause-reads : goal.returns-clause-reads
returns-clause-reads c = λ magnitude rest words is.
    magnitude_high magnitude c.args.low c.next_number-high.result c.saturating_add.result c.args.cursor.now.bytes c.next_number-high.new.cursor.bytes rest c.next_number-high.ensures.reads (omega (arith, c.saturating_add.ensures, c.saturating_mul.ensures, c.from-2.ensures)) words.0 words.2 (sym words.1 ∙ c.if-not-more.false) is
