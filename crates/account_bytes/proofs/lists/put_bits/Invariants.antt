use Rattle.std.proofs.Common.{◌≡◌, ◌++◌, drop, length, map}
use Rattle.byte_form.specs.Codes.{number_bytes}
use Rattle.account_bytes.specs.Bodies.{bit_byte}
use Rattle.account_bytes.proofs.lists.put_bits.Given as goal

abbrev pub invariant-loop-k : goal.invariant-loop-k
invariant-loop-k l =
    l.out.items ++ map bit_byte (drop l.k l.bits) ≡ l.fn.out.items ++ (number_bytes 8 (length l.bits) ++ map bit_byte l.bits)
