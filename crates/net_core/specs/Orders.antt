-- What stands between the levels of a netlist's definitions and the ordered netlist.
use Rattle.std.specs.Prelude.{ℕ, ◌<◌, ◌≡◌, List, length, map, slice_index_or, IsPermutation, IsSorted}
use Rattle.std.specs.declared.cmp.Ordering.{Ordering}
use Rattle.std.specs.Ordering.{nat_cmp, ordering_then}
use Rattle.circuits.specs.Circuits.{Circuit, signal_at}
use Rattle.circuits.specs.Levels.{HasLevel}
use Rattle.net_core.specs.declared.levels.Placed.{Placed}

-- the first n definitions are listed, each at its own position and with its level
abbrev pub AreListed : Circuit → ℕ → List Placed → Type 0
AreListed circuit count placed = (k : ℕ) (d : Placed)
    → k < count
    → ((slice_index_or placed k d).position ≡ k) × HasLevel circuit (signal_at circuit k) (slice_index_or placed k d).level

-- All definitions are listed, each with its level.
pub record AreLevels (circuit : Circuit) (placed : List Placed) : Type 0 where
  pub entries : length placed ≡ length circuit.defs
  pub listed : AreListed circuit (length circuit.defs) placed

-- definitions are compared by level, then by position
abbrev pub placed_cmp : Placed → Placed → Ordering
placed_cmp one other = ordering_then (nat_cmp one.level other.level) (nat_cmp one.position other.position)

-- the positions, sorted by level and then by position
pub record IsSortedOrder (placed : List Placed) (order : List ℕ) : Type 0 where
  pub sorted : List Placed
  pub permutation : IsPermutation placed sorted
  pub ascending : IsSorted placed_cmp sorted
  pub positions : order ≡ map (λ entry. entry.position) sorted
