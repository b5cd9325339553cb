-- One bit is set.
use Rattle.std.proofs.Common.{ap, sym, ◌∙◌, eqb, w64}
use Rattle.std.proofs.lemmas.Nat.Bits.{bit_at_set_same, bit_at_set_other}
use Rattle.bit_list.proofs.bits.with_bit.Goals as goal

pub returns-then-bit-clause-placed : goal.returns-then-bit-clause-placed
returns-then-bit-clause-placed c =
    ap (λ n. eqb n 1) (bit_at_set_same w64 c.args.word c.args.place c.requires.place) ∙ sym c.if-bit.true

pub returns-then-bit-clause-others : goal.returns-then-bit-clause-others
returns-then-bit-clause-others c v other =
    ap (λ n. eqb n 1) (bit_at_set_other w64 c.args.word c.args.place c.requires.place v other)
