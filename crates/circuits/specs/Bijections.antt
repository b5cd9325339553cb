-- Signed bijections, and what they do to a vector (permutations with negations: Katebi and Markov, DATE 2010).
use Rattle.std.specs.Prelude.{ℕ, zero, suc, ◌/◌, ◌%◌, ◌<◌, ◌≡◌, ◌≢◌, ◌==◌, Bool, false, List, [], ◌∷◌, length, map, All, AllPairs, slice_index_or, drop}
use Rattle.std.specs.Prelude.{if◌then◌else◌}
use Rattle.std.specs.List.{range_with_len}
use Rattle.circuits.specs.Literals.{bit, differ}

-- the place that port i goes to, by entry i
abbrev pub place_of : List (ℕ × Bool) → ℕ → ℕ
place_of p i = (slice_index_or p i (0, false)).0

-- whether port i is inverted on its way, by entry i
abbrev pub sign_of : List (ℕ × Bool) → ℕ → Bool
sign_of p i = (slice_index_or p i (0, false)).1

-- a permutation of the n ports, with a sign for each
pub record IsSignedBijection (n : ℕ) (p : List (ℕ × Bool)) : Type 0 where
  pub entries : length p ≡ n
  pub in_range : All (λ entry. entry.0 < n) p
  pub distinct : AllPairs (λ one other. one.0 ≢ other.0) p

-- y is x moved by p: at p's i-th place it has bit i of x, inverted where p's i-th sign says so
pub record Moves (p : List (ℕ × Bool)) (x y : List Bool) : Type 0 where
  pub same_length : length y ≡ length x
  pub bits : (i : ℕ) → i < length p → bit y (place_of p i) ≡ differ (bit x i) (sign_of p i)

-- the bit that p sends to a place
abbrev pub bit_sent : List (ℕ × Bool) → List Bool → ℕ → Bool
bit_sent [] x place = false
bit_sent (entry ∷ p) x place = if entry.0 == place then differ (bit x 0) entry.1 else bit_sent p (drop 1 x) place

-- the vector moved
abbrev pub moved : List (ℕ × Bool) → List Bool → List Bool
moved p x = map (bit_sent p x) (range_with_len 0 (length x))

-- The list of n entries that a number codes: entry i is its digit i in base sixteen, which is twice
-- the place, plus 1 where the entry inverts.
abbrev pub entries_of : ℕ → ℕ → List (ℕ × Bool)
entries_of zero code = []
entries_of (suc n) code = (code % 16 / 2, code % 2 == 1) ∷ entries_of n (code / 16)
