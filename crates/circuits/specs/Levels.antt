-- Levels of a netlist's signals, cycles, and the order by levels (levelization, as in textbooks of logic synthesis).
use Rattle.std.specs.Prelude.{ℕ, zero, suc, ◌+◌, ◌<◌, ◌≤◌, ◌≡◌, ◌⊎◌, List, length, All, AllPairs, Contains, IsPermutation}
use Rattle.std.specs.List.{range_with_len}
use Rattle.circuits.specs.Netlists.{Net}
use Rattle.circuits.specs.Circuits.{Circuit, signal_at, names_of}
use Rattle.circuits.specs.Expansion.{expanded}

-- s is the signal of a definition that names only signals with P
pub record NamesOnly (circuit : Circuit) (P : ℕ → Type 0) (s : ℕ) : Type 0 where
  pub place : ℕ
  pub there : place < length circuit.defs
  pub at : s ≡ signal_at circuit place
  pub named : All P (names_of circuit place)

-- The constant and the inputs are within level 0; within level l + 1 is also what names only signals within level l.
abbrev pub IsWithin : Circuit → ℕ → ℕ → Type 0
IsWithin circuit zero s = s < 1 + circuit.inputs
IsWithin circuit (suc l) s = (s < 1 + circuit.inputs) ⊎ NamesOnly circuit (IsWithin circuit l) s

-- the least level that a signal is within
pub record HasLevel (circuit : Circuit) (s level : ℕ) : Type 0 where
  pub within : IsWithin circuit level s
  pub least : (l : ℕ) → IsWithin circuit l s → level ≤ l

-- the least level that all of these signals are within: the greatest of their levels, and 0 where there is none
pub record HaveLevel (circuit : Circuit) (signals : List ℕ) (level : ℕ) : Type 0 where
  pub within : All (IsWithin circuit level) signals
  pub least : (l : ℕ) → All (IsWithin circuit l) signals → level ≤ l

-- a signal on a cycle, or above one
abbrev pub HasNoLevel : Circuit → ℕ → Type 0
HasNoLevel circuit s = (l : ℕ) → IsWithin circuit l s → ⊥

-- each definition has a level: none is on a cycle or above one
abbrev pub IsAcyclic : Circuit → Type 0
IsAcyclic circuit = (d : ℕ) → d < length circuit.defs → (level : ℕ) × HasLevel circuit (signal_at circuit d) level

-- d is the first definition without a level
pub record IsFirstLooped (circuit : Circuit) (d : ℕ) : Type 0 where
  pub there : d < length circuit.defs
  pub looped : HasNoLevel circuit (signal_at circuit d)
  pub first : (e : ℕ) → e < d → (level : ℕ) × HasLevel circuit (signal_at circuit e) level

-- one definition comes before another: its level is lower, or it is the same and it stands first
abbrev pub ComesBefore : Circuit → ℕ → ℕ → Type 0
ComesBefore circuit d e = (l m : ℕ)
    → HasLevel circuit (signal_at circuit d) l
    → HasLevel circuit (signal_at circuit e) m
    → (l < m) ⊎ ((l ≡ m) × (d < e))

-- The list has every definition once, by level and then by position.
pub record IsLevelOrder (circuit : Circuit) (order : List ℕ) : Type 0 where
  pub each_once : IsPermutation (range_with_len 0 (length circuit.defs)) order
  pub ascending : AllPairs (ComesBefore circuit) order

-- The ordered netlist takes the definitions by level, then by position, and expands each.
pub record IsOrderOf (circuit : Circuit) (net : Net) : Type 0 where
  pub order : List ℕ
  pub is_order : IsLevelOrder circuit order
  pub is : net ≡ expanded circuit order

-- u is named by the definition of s
pub record Names (circuit : Circuit) (s u : ℕ) : Type 0 where
  pub place : ℕ
  pub there : place < length circuit.defs
  pub at : s ≡ signal_at circuit place
  pub named : Contains (names_of circuit place) u

-- a way of n steps from s to t, each to a signal that is named
abbrev pub Reaches : Circuit → ℕ → ℕ → ℕ → Type 0
Reaches circuit zero s t = s ≡ t
Reaches circuit (suc steps) s t = (u : ℕ) × Names circuit s u × Reaches circuit steps u t
