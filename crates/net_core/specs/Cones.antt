-- The cone of an output: the gates that it reaches through operands (the transitive fan-in of textbooks of logic
-- synthesis).
use Rattle.std.specs.Prelude.{◌≡◌, ◌⊎◌, ◌↔◌, ℕ, ◌+◌, ◌-◌, ◌<◌, ◌≤◌, eqb, Bool, true, false, List, [], ◌∷◌, ◌++◌, length, All, Contains, slice_index_or}
use Rattle.std.specs.Prelude.{slice_set}
use Rattle.std.specs.List.{IsDistinct}
use Rattle.circuits.specs.declared.netlist.Gate.{Gate}
use Rattle.circuits.specs.Literals.{EachAt, bit, signal_of}
use Rattle.circuits.specs.Netlists.{Net}

-- the signal of output k
abbrev pub output_signal : Net → ℕ → ℕ
output_signal net k = signal_of (slice_index_or net.outputs k (record { 0 = 0 }))

-- A set of signals, as a bit for each, is closed under operands: with a gate's signal it has the signals of both
-- operands. Gate 0 has the signal `first`.
abbrev pub HasOperands : ℕ → List Gate → List Bool → Type 0
HasOperands first gates set = EachAt (λ t gate. bit set (first + t) ≡ true
    → (bit set (signal_of gate.a) ≡ true) × (bit set (signal_of gate.b) ≡ true)) gates

-- such a set that has the signal of output k
pub record IsFanIn (net : Net) (k : ℕ) (set : List Bool) : Type 0 where
  pub output : bit set (output_signal net k) ≡ true
  pub operands : HasOperands (1 + net.inputs) net.gates set

-- output k reaches a signal: each such set has it, so it is in the least one
abbrev pub Reaches : Net → ℕ → ℕ → Type 0
Reaches net k s = (set : List Bool) → IsFanIn net k set → bit set s ≡ true

-- output k reaches gate t
abbrev pub ReachesGate : Net → ℕ → ℕ → Type 0
ReachesGate net k t = Reaches net k (1 + net.inputs + t)

-- the gate of a signal is marked, where the signal is that of a gate
abbrev pub IsMarked : ℕ → List Bool → ℕ → Type 0
IsMarked first marks s = first ≤ s → bit marks (s - first) ≡ true

-- A signal whose gate is marked, or that is no gate's: nothing changes.
pub record IsOld (first s : ℕ) (marks : List Bool) (found : List ℕ) (new_marks : List Bool) (new_found : List ℕ) : Type 0 where
  pub marked : IsMarked first marks s
  pub marks_are : new_marks ≡ marks
  pub found_are : new_found ≡ found

-- A signal whose gate isn't marked: it is marked, and listed last.
pub record IsNew (first s : ℕ) (marks : List Bool) (found : List ℕ) (new_marks : List Bool) (new_found : List ℕ) : Type 0 where
  pub from : first ≤ s
  pub unmarked : bit marks (s - first) ≡ false
  pub marks_are : new_marks ≡ slice_set marks (s - first) true
  pub found_are : new_found ≡ found ++ (s - first) ∷ []

-- what looking at a signal changes: nothing, or its gate is marked now, and listed
abbrev pub IsFoundBy : ℕ → ℕ → List Bool → List ℕ → List Bool → List ℕ → Type 0
IsFoundBy first s marks found new_marks new_found =
    IsOld first s marks found new_marks new_found ⊎ IsNew first s marks found new_marks new_found

-- each set of signals that is closed under operands and has one signal has this one
abbrev pub Leads : ℕ → List Gate → ℕ → ℕ → Type 0
Leads first gates from to = (set : List Bool) → HasOperands first gates set → bit set from ≡ true → bit set to ≡ true

-- Marked gates, each listed once.
pub record AreFound (count : ℕ) (marks : List Bool) (found : List ℕ) : Type 0 where
  pub size : length marks ≡ count
  pub listed : (t : ℕ) → bit marks t ≡ true → Contains found t
  pub marked : All (λ t. bit marks t ≡ true) found
  pub distinct : IsDistinct eqb found

-- Gates to which a signal leads, its own one if it has one; the operands of the first n were found.
pub record IsSearched (first : ℕ) (gates : List Gate) (signal count : ℕ) (marks : List Bool) (found : List ℕ) : Type 0 where
  pub are : AreFound (length gates) marks found
  pub start : IsMarked first marks signal
  pub done : count ≤ length found
  pub operands : (k : ℕ) (d : Gate) → k < count
      → IsMarked first marks (signal_of (slice_index_or gates (slice_index_or found k 0) d).a)
      × IsMarked first marks (signal_of (slice_index_or gates (slice_index_or found k 0) d).b)
  pub least : All (λ t. Leads first gates signal (first + t)) found

-- The gates to which a signal leads, each once.
pub record AreReachedFrom (first : ℕ) (gates : List Gate) (signal : ℕ) (found : List ℕ) : Type 0 where
  pub there : All (λ t. t < length gates) found
  pub distinct : IsDistinct eqb found
  pub each : (t : ℕ) → (Contains found t ↔ Leads first gates signal (first + t))
