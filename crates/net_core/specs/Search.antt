-- What a depth-first search for levels knows while it is under way (depth-first search with a stack, as in textbooks).
use Rattle.std.specs.Prelude.{ℕ, suc, ◌+◌, ◌*◌, ◌<◌, ◌≤◌, ◌≡◌, ◌≢◌, Bool, true, false, List, length, map, take, All, Contains, count_by, slice_index_or}
use Rattle.circuits.specs.Circuits.{Circuit, names_of, signal_at}
use Rattle.circuits.specs.Expansion.{gates_in}
use Rattle.circuits.specs.Levels.{HasLevel, HaveLevel, HasNoLevel, IsAcyclic, IsFirstLooped, Names}
use Rattle.net_core.specs.declared.levels.Frame.{Frame}
use Rattle.net_core.specs.declared.levels.Visit.{Visit}
use Rattle.net_core.specs.declared.levels.Visit.TheVariants.{New, Open, Level}
use Rattle.net_core.specs.declared.levels.Edge.{Edge}
use Rattle.net_core.specs.declared.levels.Edge.TheVariants.{Finished, Tree, Back}
use Rattle.net_core.specs.declared.levels.SearchEvent.{SearchEvent}
use Rattle.net_core.specs.declared.levels.SearchEvent.TheVariants.{Enter, Close, Loop}
use Rattle.net_core.specs.declared.order_fault.OrderFault.{OrderFault}
use Rattle.net_core.specs.declared.order_fault.OrderFault.TheVariants.{Cycle, TooManyGates, Memory}
use Rattle.net_core.specs.Limits.{most_gates}

-- how far the search has come with definition k
abbrev pub visit_of : List Visit → ℕ → Visit
visit_of visits k = slice_index_or visits k New

-- the search hasn't met the definition yet
abbrev pub is_new : Visit → Bool
is_new New = true
is_new Open = false
is_new (Level level) = false

-- the definitions on the stack
abbrev pub positions : List Frame → List ℕ
positions stack = map (λ frame. frame.position) stack

-- how much is left to do: each definition that is new is entered and left, each one on the stack is left
abbrev pub left : List Visit → List ℕ → ℕ
left visits stack = 2 * count_by is_new visits + length stack

-- a level that is found is the definition's, and no more steps were taken than it says
pub record IsFound (circuit : Circuit) (steps d level : ℕ) : Type 0 where
  pub has : HasLevel circuit d level
  pub few : level + steps ≤ 2 * length circuit.defs

-- The names of a definition on the stack before `next` were looked at: `highest` is the greatest of their levels, and
-- no more steps were taken than it says.
pub record IsLooked (circuit : Circuit) (steps : ℕ) (frame : Frame) : Type 0 where
  pub within : frame.next ≤ length (names_of circuit frame.position)
  pub have : HaveLevel circuit (take frame.next (names_of circuit frame.position)) frame.highest
  pub few : frame.highest + steps ≤ 2 * length circuit.defs

-- what is known of the definitions
pub record Knows (circuit : Circuit) (visits : List Visit) (stack : List ℕ) : Type 0 where
  pub entries : length visits ≡ length circuit.defs
  pub room : left visits stack ≤ 2 * length circuit.defs
  pub levels : (k level : ℕ) → visit_of visits k ≡ Level level
      → IsFound circuit (left visits stack) (signal_at circuit k) level
  pub opens : (k : ℕ) → visit_of visits k ≡ Open → Contains stack k

-- the first n definitions were met
abbrev pub AreMet : ℕ → List Visit → Type 0
AreMet count visits = (k : ℕ) → k < count → visit_of visits k ≢ New

-- each definition on the stack names the one above it, and the search's root is at the bottom
pub record IsPath (circuit : Circuit) (root : ℕ) (stack : List ℕ) : Type 0 where
  pub there : All (λ d. d < length circuit.defs) stack
  pub bottom : (d : ℕ) → 0 < length stack → slice_index_or stack 0 d ≡ root
  pub steps : (j d : ℕ) → suc j < length stack
      → Names circuit (signal_at circuit (slice_index_or stack j d)) (signal_at circuit (slice_index_or stack (suc j) d))

-- The search from a root goes on: what is known of all definitions, and of those on the stack.
pub record IsUnderWay (circuit : Circuit) (root : ℕ) (visits : List Visit) (stack : List Frame) : Type 0 where
  pub knows : Knows circuit visits (positions stack)
  pub path : IsPath circuit root (positions stack)
  pub looked : All (IsLooked circuit (left visits (positions stack))) stack
  pub met : AreMet (root + 1) visits

-- no search is under way, and the first n definitions were met
pub record IsReady (circuit : Circuit) (count : ℕ) (visits : List Visit) (stack : List Frame) : Type 0 where
  pub knows : Knows circuit visits (positions stack)
  pub no_stack : length stack ≡ 0
  pub met : AreMet count visits

-- each visit says its definition's level
abbrev pub AreAllFound : Circuit → List Visit → Type 0
AreAllFound circuit visits = (k : ℕ) → k < length circuit.defs
    → (level : ℕ) × (visit_of visits k ≡ Level level) × HasLevel circuit (signal_at circuit k) level

-- the signal is that of definition e, which has this visit
pub record IsAt (circuit : Circuit) (visits : List Visit) (visit : Visit) (s e : ℕ) : Type 0 where
  pub there : e < length circuit.defs
  pub at : s ≡ signal_at circuit e
  pub is : visit_of visits e ≡ visit

-- what kind of edge leads to a signal
abbrev pub IsEdge : Circuit → List Visit → List ℕ → ℕ → Edge → Type 0
IsEdge circuit visits stack s (Tree e) = IsAt circuit visits New s e
IsEdge circuit visits stack s Back = (e : ℕ) × IsAt circuit visits Open s e
IsEdge circuit visits stack s (Finished level) = IsFound circuit (left visits stack) s level

-- what is to be done at a definition on the stack
abbrev pub IsNextEvent : Circuit → List Visit → List ℕ → ℕ → SearchEvent → Type 0
IsNextEvent circuit visits stack d (Enter e looked) = (e < length circuit.defs)
    × (visit_of visits e ≡ New)
    × Names circuit (signal_at circuit d) (signal_at circuit e)
    × IsLooked circuit (left visits stack) looked
    × (looked.position ≡ d)
IsNextEvent circuit visits stack d Loop = (e : ℕ)
    × (visit_of visits e ≡ Open)
    × Names circuit (signal_at circuit d) (signal_at circuit e)
IsNextEvent circuit visits stack d (Close level) = HasLevel circuit (signal_at circuit d) level
    × (level + left visits stack ≤ 2 * length circuit.defs + 1)

-- what each fault says
abbrev pub IsFaultOf : Circuit → OrderFault → Type 0
IsFaultOf circuit (Cycle d) = IsFirstLooped circuit d
IsFaultOf circuit TooManyGates = IsAcyclic circuit × (most_gates < gates_in circuit)
IsFaultOf circuit Memory = Unit {0}

-- what a fault says while the search from a root goes on
abbrev pub IsFaultAt : Circuit → ℕ → OrderFault → Type 0
IsFaultAt circuit root (Cycle d) = (d ≡ root) × HasNoLevel circuit (signal_at circuit root)
IsFaultAt circuit root TooManyGates = ⊥
IsFaultAt circuit root Memory = Unit {0}
