-- A netlist without the gates that no output reaches.
use Rattle.std.specs.Prelude.{◌≡◌, ◌↔◌, ◌⊎◌, ℕ, ◌+◌, ◌-◌, ◌<◌, ◌≤◌, Bool, true, List, [], ◌∷◌, ◌++◌, length, map, All, AllPairs, Contains, slice_index_or, if◌then◌else◌}
use Rattle.circuits.specs.declared.netlist.Lit.{Lit}
use Rattle.circuits.specs.declared.netlist.Gate.{Gate}
use Rattle.circuits.specs.Literals.{EachAt, bit, false_literal, plain_literal, signal_of, signed_as}
use Rattle.circuits.specs.Netlists.{Net, signals_of}
use Rattle.net_core.specs.Cones.{HasOperands}

-- A set of signals, as a bit for each, that has those of all outputs and, with a gate, those of its operands.
pub record IsFanInOfAll (net : Net) (set : List Bool) : Type 0 where
  pub outputs : All (λ output. bit set (signal_of output) ≡ true) net.outputs
  pub operands : HasOperands (1 + net.inputs) net.gates set

-- some output reaches a signal: each such set has it, so it is in the least one
abbrev pub IsUsed : Net → ℕ → Type 0
IsUsed net s = (set : List Bool) → IsFanInOfAll net set → bit set s ≡ true

-- a signal that stays: the constant, an input, or a gate that some output reaches
abbrev pub IsKept : Net → ℕ → Type 0
IsKept net s = (s < 1 + net.inputs) ⊎ IsUsed net s

-- what a literal was before, where each signal was that of `origins`
abbrev pub origin : List ℕ → Lit → Lit
origin origins literal = signed_as literal (plain_literal (slice_index_or origins (signal_of literal) 0))

-- what a gate was before
abbrev pub gate_origin : List ℕ → Gate → Gate
gate_origin origins gate = record { a = origin origins gate.a; b = origin origins gate.b }

-- gate t
abbrev pub gate_at : Net → ℕ → Gate
gate_at net t = slice_index_or net.gates t (record { a = false_literal; b = false_literal })

-- The signals that stay, in order, are those of the new netlist; each gate and each output is what it was.
pub record IsPruned (net pruned : Net) : Type 0 where
  pub origins : List ℕ
  pub inputs : pruned.inputs ≡ net.inputs
  pub count : length origins ≡ signals_of pruned
  pub ascending : AllPairs (λ s t. s < t) origins
  pub ports : (s : ℕ) → s < 1 + net.inputs → slice_index_or origins s 0 ≡ s
  pub there : All (λ s. s < signals_of net) origins
  pub kept : (s : ℕ) → s < signals_of net → (Contains origins s ↔ IsKept net s)
  pub gates : EachAt (λ k gate. gate_origin origins gate ≡ gate_at net (slice_index_or origins (1 + net.inputs + k) 0 - (1 + net.inputs))) pruned.gates
  pub outputs : map (origin origins) pruned.outputs ≡ net.outputs

-- The signals of the first n literals are marked now, beside those that were.
pub record AreMarked (literals : List Lit) (n : ℕ) (old new : List Bool) : Type 0 where
  pub room : length new ≡ length old
  pub now : (k : ℕ) → k < n → bit new (signal_of (slice_index_or literals k false_literal)) ≡ true
  pub only : (s : ℕ) → bit new s ≡ true
      → (bit old s ≡ true) ⊎ ((k : ℕ) × (k < n) × (signal_of (slice_index_or literals k false_literal) ≡ s))

-- Exactly the signals that some output reaches are marked.
pub record AreUsed (net : Net) (used : List Bool) : Type 0 where
  pub count : length used ≡ signals_of net
  pub all : IsFanInOfAll net used
  pub only : (s : ℕ) → bit used s ≡ true → IsUsed net s

-- Signals that some output reaches are marked: those of all outputs, and those of the operands of marked gates from
-- gate `left` on.
pub record AreMarkedFrom (net : Net) (left : ℕ) (used : List Bool) : Type 0 where
  pub count : length used ≡ signals_of net
  pub outputs : All (λ output. bit used (signal_of output) ≡ true) net.outputs
  pub operands : EachAt (λ t gate. left ≤ t
      → bit used (1 + net.inputs + t) ≡ true
      → (bit used (signal_of gate.a) ≡ true) × (bit used (signal_of gate.b) ≡ true)) net.gates
  pub only : (s : ℕ) → bit used s ≡ true → IsUsed net s

-- One signal more was numbered, and added to those that stay where it does.
pub record IsNumbered (signal : ℕ) (stays : Bool) (old_origins old_numbers new_origins new_numbers : List ℕ) : Type 0 where
  pub numbers : new_numbers ≡ old_numbers ++ length old_origins ∷ []
  pub origins : new_origins ≡ (if stays then old_origins ++ signal ∷ [] else old_origins)

-- The first signals are numbered: those that stay stand in order, each under its number.
pub record AreNumbered (net : Net) (n : ℕ) (origins numbers : List ℕ) : Type 0 where
  pub count : length numbers ≡ n
  pub ascending : AllPairs (λ s t. s < t) origins
  pub there : All (λ s. s < n) origins
  pub ports : (s : ℕ) → s < 1 + net.inputs → s < n → (s < length origins) × (slice_index_or origins s 0 ≡ s)
  pub all_ports : n ≤ 1 + net.inputs → length origins ≡ n
  pub kept : All (IsKept net) origins
  pub each : (s : ℕ) → s < n → IsKept net s
      → (slice_index_or numbers s 0 < length origins) × (slice_index_or origins (slice_index_or numbers s 0) 0 ≡ s)

-- all signals are numbered
abbrev pub IsNumbering : Net → List ℕ → List ℕ → Type 0
IsNumbering net origins numbers = AreNumbered net (signals_of net) origins numbers

-- A literal of a signal that stays.
pub record IsNumberedLiteral (origins numbers : List ℕ) (literal : Lit) : Type 0 where
  pub there : signal_of literal < length numbers
  pub number : slice_index_or numbers (signal_of literal) 0 < length origins
  pub was : slice_index_or origins (slice_index_or numbers (signal_of literal) 0) 0 ≡ signal_of literal

-- The first n gates that stay: each is what it was, and reads earlier signals.
pub record AreGatesOf (net : Net) (origins : List ℕ) (n : ℕ) (gates : List Gate) : Type 0 where
  pub count : length gates ≡ n
  pub each : EachAt (λ k gate. gate_origin origins gate ≡ gate_at net (slice_index_or origins (1 + net.inputs + k) 0 - (1 + net.inputs))) gates
  pub first_operands : EachAt (λ k gate. signal_of gate.a < 1 + net.inputs + k) gates
  pub second_operands : EachAt (λ k gate. signal_of gate.b < 1 + net.inputs + k) gates

-- all gates that stay
abbrev pub AreAllGatesOf : Net → List ℕ → List Gate → Type 0
AreAllGatesOf net origins gates = AreGatesOf net origins (length origins - (1 + net.inputs)) gates
