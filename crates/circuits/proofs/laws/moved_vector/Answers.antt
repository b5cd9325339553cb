-- A signed bijection sends a bit to each place, and one only.
use Rattle.circuits.proofs.Places.{moved-moves, moved-only}
use Rattle.circuits.proofs.laws.moved_vector.Goals as goal

pub returns : goal.returns
returns c = record { moves = moved-moves; only = moved-only }
