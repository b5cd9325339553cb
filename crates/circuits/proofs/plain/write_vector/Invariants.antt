-- The digits so far are written, and the others are left.
use Rattle.std.proofs.Common.{ℕ, ◌<◌, ◌≡◌, ◌/◌, ◌%◌, ◌^◌, eqb, false, get_or}
use Rattle.circuits.proofs.plain.write_vector.Given as goal

abbrev pub invariant-loop-bit : goal.invariant-loop-bit
invariant-loop-bit l = record {
  digits_left : l.rest ≡ l.code / 2 ^ l.bit-index;
  written : (k : ℕ) → k < l.bit-index → get_or l.out k false ≡ eqb (l.code / 2 ^ k % 2) 1;
}
