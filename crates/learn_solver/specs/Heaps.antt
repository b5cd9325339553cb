-- A priority queue of numbers in a heap (Williams, 1964): in which order they stand, where each stands, and which are
-- in the queue.
use Rattle.std.specs.Prelude.{◌≡◌, ℕ, ◌<◌, ◌≤◌, ◌==◌, Bool, List, length, map, All, nat_lt, slice_index_or, if◌then◌else◌}

-- All numbers below n, in some order, and the place of each.
pub record AreInverse (count : ℕ) (numbers places : List ℕ) : Type 0 where
  pub as_many : length numbers ≡ count
  pub as_many_places : length places ≡ count
  pub known : All (λ number. number < count) numbers
  pub within : All (λ place. place < count) places
  pub there : (k d e : ℕ) → k < count → slice_index_or places (slice_index_or numbers k d) e ≡ k
  pub back : (v d e : ℕ) → v < count → slice_index_or numbers (slice_index_or places v d) e ≡ v

-- which of two places that are exchanged, or else the place itself
abbrev pub turned : ℕ → ℕ → ℕ → ℕ
turned one other place = if place == one then other else if place == other then one else place

-- where the numbers stand once those at two places are exchanged
abbrev pub exchanged : ℕ → ℕ → List ℕ → List ℕ
exchanged one other places = map (turned one other) places

-- for each number whether it is in the queue: those at the first places are
abbrev pub are_queued : ℕ → List ℕ → List Bool
are_queued queued places = map (λ place. nat_lt place queued) places

-- What each heap keeps: a key for each number, and the order of the numbers, the first of which are in the queue.
pub record IsKept (keys numbers places : List ℕ) (queued : ℕ) : Type 0 where
  pub inverse : AreInverse (length keys) numbers places
  pub most : queued ≤ length keys
