-- The inverse of a signed bijection (of a permutation with signs, as in any textbook of algebra).
use Rattle.std.specs.Prelude.{◌≡◌, ℕ, ◌<◌, Bool, List, length}
use Rattle.circuits.specs.Bijections.{place_of, sign_of}

-- where p sends a port to a place, q sends that place back to the port, with the same sign
pub record IsInverse (p q : List (ℕ × Bool)) : Type 0 where
  pub entries : length q ≡ length p
  pub back : (i : ℕ) → i < length p → place_of q (place_of p i) ≡ i
  pub signs : (i : ℕ) → i < length p → sign_of q (place_of p i) ≡ sign_of p i
