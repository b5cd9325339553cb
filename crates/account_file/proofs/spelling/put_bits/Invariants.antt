use Rattle.std.proofs.Common.{◌≡◌, ◌∷◌, ◌++◌, map, drop}
use Rattle.account_file.specs.Spelling.{bit_digit, bits_word}
use Rattle.account_file.proofs.spelling.put_bits.Given as goal

abbrev pub invariant-loop-k : goal.invariant-loop-k
invariant-loop-k l = l.out.items ++ map bit_digit (drop l.k l.bits) ≡ l.fn.out.items ++ 32 ∷ bits_word l.bits
