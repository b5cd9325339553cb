-- The bits so far stand where the entries send them.
use Rattle.std.proofs.Common.{ℕ, ◌<◌, ◌≡◌, length, vec_len}
use Rattle.circuits.specs.Literals.{bit, differ}
use Rattle.circuits.specs.Bijections.{place_of, sign_of}
use Rattle.circuits.proofs.plain.move_vector.Given as goal

abbrev pub invariant-loop-i : goal.invariant-loop-i
invariant-loop-i l = record {
  same_length : vec_len l.bits ≡ length l.vector;
  sent : (k : ℕ) → k < l.i → bit l.bits.items (place_of l.entries k) ≡ differ (bit l.vector k) (sign_of l.entries k);
}
