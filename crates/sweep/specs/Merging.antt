-- Signals replaced by literals that compute the same.
use Rattle.std.specs.Prelude.{◌≡◌, ℕ, ◌<◌, ◌≤◌, List, length, map, slice_index_or}
use Rattle.circuits.specs.declared.netlist.Lit.{Lit}
use Rattle.circuits.specs.declared.netlist.Gate.{Gate}
use Rattle.circuits.specs.Literals.{EachAt, false_literal, signal_of, signed_as}
use Rattle.circuits.specs.Netlists.{Net, signals_of}
use Rattle.sweep.specs.Signals.{AreUnlike, Computes}

-- A literal of a signal that doesn't come later, and computes the same.
pub record IsReplacement (net : Net) (s : ℕ) (literal : Lit) : Type 0 where
  pub within : signal_of literal ≤ s
  pub computes : Computes net s literal

-- The literal of the first such signal, also of those that compute the complement.
pub record IsRepresentative (net : Net) (s : ℕ) (literal : Lit) : Type 0 where
  pub replaces : IsReplacement net s literal
  pub first : (t : ℕ) → t < signal_of literal → AreUnlike net s t

-- a replacement for each signal
pub record AreReplacements (net : Net) (replacements : List Lit) : Type 0 where
  pub count : length replacements ≡ signals_of net
  pub each : EachAt (IsReplacement net) replacements

-- the representative of each signal
pub record AreRepresentatives (net : Net) (representatives : List Lit) : Type 0 where
  pub count : length representatives ≡ signals_of net
  pub each : EachAt (IsRepresentative net) representatives

-- what replaces a literal: its signal's replacement, with its sign
abbrev pub replaced : List Lit → Lit → Lit
replaced replacements literal = signed_as literal (slice_index_or replacements (signal_of literal) false_literal)

-- a gate with its operands replaced, in their order
abbrev pub replaced_gate : List Lit → Gate → Gate
replaced_gate replacements gate = record { a = replaced replacements gate.a; b = replaced replacements gate.b }

-- the netlist with all operands and outputs replaced: no gate that is replaced is read any more
abbrev pub merged : List Lit → Net → Net
merged replacements net = record {
  inputs = net.inputs;
  gates = map (replaced_gate replacements) net.gates;
  outputs = map (replaced replacements) net.outputs;
}

-- both operands of a gate are of the first n signals
abbrev pub IsRead : ℕ → Gate → Type 0
IsRead n gate = (signal_of gate.a < n) × (signal_of gate.b < n)
