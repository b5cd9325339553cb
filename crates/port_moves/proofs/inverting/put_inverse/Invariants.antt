-- The ports so far stand at the places to which they go.
use Rattle.std.proofs.Common.{◌≡◌, ℕ, ◌<◌, length}
use Rattle.circuits.specs.Bijections.{place_of, sign_of}
use Rattle.port_moves.proofs.inverting.put_inverse.Given as goal

abbrev pub invariant-loop-i : goal.invariant-loop-i
invariant-loop-i l =
    (length l.back ≡ length l.ports)
    × ((j : ℕ) → j < l.i → (place_of l.back (place_of l.ports j) ≡ j) × (sign_of l.back (place_of l.ports j) ≡ sign_of l.ports j))
