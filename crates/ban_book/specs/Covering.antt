-- Pairs that a ban excludes: all of its own pairs are among them (excluded pairs: Katebi and Markov, DATE 2010).
use Rattle.std.specs.Prelude.{ℕ, ◌<◌, List, length, All, Contains, slice_index_or}
use Rattle.circuits.specs.declared.port.Pair.{Pair}
use Rattle.account_core.specs.declared.step.Ban.{Ban}

-- All pairs of a ban are among the given ones.
pub record IsWithin (pairs : List Pair) (ban : Ban) : Type 0 where
  pub among : All (Contains pairs) ban.pairs

-- The number of a ban, all pairs of which are among the given ones.
pub record Covers (bans : List Ban) (pairs : List Pair) (number : ℕ) : Type 0 where
  pub kept : number < length bans
  pub within : (d : Ban) → IsWithin pairs (slice_index_or bans number d)
