-- The bits so far were pushed.
use Rattle.std.proofs.Common.{◌≡◌, take}
use Rattle.bit_list.proofs.bits.Bits.from_slice.Given as goal

abbrev pub invariant-loop-bit : goal.invariant-loop-bit
invariant-loop-bit l = l.list ≡ take l.bit-index l.bits
