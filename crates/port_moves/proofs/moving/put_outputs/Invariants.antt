-- The outputs so far stand at their places.
use Rattle.std.proofs.Common.{◌≡◌, ℕ, ◌<◌, length, get_or}
use Rattle.circuits.specs.declared.netlist.Lit.{Lit}
use Rattle.circuits.specs.Bijections.{place_of, sign_of}
use Rattle.port_moves.specs.Moved.{signed, moved_literal}
use Rattle.port_moves.proofs.moving.put_outputs.Given as goal

abbrev pub invariant-loop-k : goal.invariant-loop-k
invariant-loop-k l =
    (length l.moved ≡ length l.outputs)
    × ((j : ℕ) (d : Lit) → j < l.k → get_or l.moved (place_of l.places j) d ≡ signed (sign_of l.places j) (moved_literal l.inputs (get_or l.outputs j d)))
