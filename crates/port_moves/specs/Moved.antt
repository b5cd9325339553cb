-- A netlist under other places and signs of its ports (this project's generated pairs).
use Rattle.std.specs.Prelude.{◌≡◌, ℕ, ◌+◌, ◌-◌, ◌*◌, ◌<◌, ◌==◌, ◌||◌, Bool, List, length, nat_lt, slice_index_or, if◌then◌else◌}
use Rattle.circuits.specs.declared.netlist.Lit.{Lit}
use Rattle.circuits.specs.declared.netlist.Gate.{Gate}
use Rattle.circuits.specs.Literals.{signal_of, is_negated, differ, inverse}
use Rattle.circuits.specs.Bijections.{place_of, sign_of}

-- a literal, inverted or not
abbrev pub signed : Bool → Lit → Lit
signed inverted literal = if inverted then inverse literal else literal

-- the literal of an input that goes to a place, with a sign
abbrev pub input_literal : ℕ → Bool → Lit
input_literal place negated = record { 0 = 2 * (place + 1) + (if negated then 1 else 0) }

-- the literal of an input becomes that of the input it goes to, inverted where the matching says so; others stay
abbrev pub moved_literal : List (ℕ × Bool) → Lit → Lit
moved_literal inputs literal =
    if signal_of literal == 0 || nat_lt (length inputs) (signal_of literal) then literal
    else input_literal (place_of inputs (signal_of literal - 1)) (differ (is_negated literal) (sign_of inputs (signal_of literal - 1)))

-- a gate with its operands moved, and exchanged
abbrev pub moved_gate : List (ℕ × Bool) → Gate → Gate
moved_gate inputs gate = record { a = moved_literal inputs gate.b; b = moved_literal inputs gate.a }

-- Each output stands at the place to which it goes, inverted where the matching says so.
pub record AreMovedOutputs (inputs outputs : List (ℕ × Bool)) (old new : List Lit) : Type 0 where
  pub count : length new ≡ length old
  pub each : (k : ℕ) (d : Lit) → k < length outputs
      → slice_index_or new (place_of outputs k) d ≡ signed (sign_of outputs k) (moved_literal inputs (slice_index_or old k d))
