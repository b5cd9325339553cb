-- The first netlist of a pair: for each output a window of inputs, mixed by multiplexers, and the AND of a few of its
-- literals. All that is drawn comes from one generator, in order.
use Rattle.std.specs.Prelude.{ℕ, zero, suc, ◌+◌, ◌-◌, ◌*◌, ◌%◌, List, [], ◌∷◌, ◌++◌, length, map, nat_lt, slice_set, if◌then◌else◌}
use Rattle.std.specs.List.{range_with_len}
use Rattle.circuits.specs.declared.netlist.Lit.{Lit}
use Rattle.circuits.specs.declared.netlist.Gate.{Gate}
use Rattle.circuits.specs.Literals.{inverse, plain_literal}
use Rattle.rand_pcg.specs.Lcg.{Lcg}
use Rattle.gen_pair.specs.Drawing.{drawn, drawn_bit}
use Rattle.port_moves.specs.Moved.{signed}
use Rattle.circuits.specs.Expansion.{stand_in}

-- the AND of two literals as the next gate, and its literal
unfoldable pub with_and : Lit → Lit → List Gate → List Gate × Lit
with_and a b gates = (gates ++ record { a = a; b = b } ∷ [], plain_literal (65 + length gates))

-- three gates, and a literal that is `low` where `select` is true, and `high` where it is false
unfoldable pub with_multiplexer : Lit → Lit → Lit → List Gate → List Gate × Lit
with_multiplexer select low high gates =
    let chosen = with_and select low gates in
    let rest = with_and (inverse select) high chosen.0 in
    let neither = with_and (inverse chosen.1) (inverse rest.1) rest.0 in
    (neither.0, inverse neither.1)

-- a window of literals, the gates so far, and the generator that is left
pub record Mixing : Type 0 where
  pub window : List Lit
  pub gates : List Gate
  pub random : Lcg

-- these literals side by side, with the gates that make them
abbrev pub mixing : List Lit → List Gate → Lcg → Mixing
mixing window gates random = record { window = window; gates = gates; random = random }

-- one place of a window becomes a multiplexer of itself and two others; the three places and a sign are drawn
unfoldable pub mixed_once : Mixing → Mixing
mixed_once s =
    let width = length s.window in
    let place = drawn width s.random in
    let second = drawn (width - 1) place.1 in
    let third = drawn (width - 1) second.1 in
    let sign = drawn_bit third.1 in
    let select = (place.0 + 1 + second.0) % width in
    let other = (select + 1 + third.0) % width in
    let made = with_multiplexer (stand_in s.window select) (stand_in s.window place.0) (signed sign.0 (stand_in s.window other)) s.gates in
    mixing (slice_set s.window place.0 made.1) made.0 sign.1

-- this many times
unfoldable pub mixed : ℕ → Mixing → Mixing
mixed zero s = s
mixed (suc n) s = mixed_once (mixed n s)

-- a literal, the gates so far, and the generator that is left
pub record Joining : Type 0 where
  pub literal : Lit
  pub gates : List Gate
  pub random : Lcg

-- this literal, with the gates that make it
abbrev pub joining : Lit → List Gate → Lcg → Joining
joining literal gates random = record { literal = literal; gates = gates; random = random }

-- the AND of the first literal of a window with the next n, each with a sign that is drawn
unfoldable pub joined : List Lit → ℕ → List Gate → Lcg → Joining
joined window zero gates random = joining (stand_in window 0) gates random
joined window (suc n) gates random =
    let before = joined window n gates random in
    let sign = drawn_bit before.random in
    let made = with_and before.literal (signed sign.0 (stand_in window (n + 1))) before.gates in
    joining made.1 made.0 sign.1

-- the window of output k: inputs side by side, round the end
unfoldable pub window_of : ℕ → ℕ → List Lit
window_of k width = map (λ t. plain_literal ((2 * k + t) % 64 + 1)) (range_with_len 0 width)

-- the gates and outputs so far, and the generator that is left
pub record Making : Type 0 where
  pub gates : List Gate
  pub outputs : List Lit
  pub random : Lcg

-- these outputs, with the gates that make them
abbrev pub making : List Gate → List Lit → Lcg → Making
making gates outputs random = record { gates = gates; outputs = outputs; random = random }

-- output k is made: of a window of 6 to 12 inputs that is mixed twenty times, three or four literals are joined
unfoldable pub with_output : ℕ → Making → Making
with_output k s =
    let width = drawn 7 s.random in
    let mix = mixed 20 (mixing (window_of k (6 + width.0)) s.gates width.1) in
    let join = joined mix.window (if nat_lt k 16 then 3 else 2) mix.gates mix.random in
    let sign = drawn_bit join.random in
    making join.gates (s.outputs ++ signed sign.0 join.literal ∷ []) sign.1

-- the first n outputs are made
unfoldable pub made : ℕ → Lcg → Making
made zero random = making [] [] random
made (suc n) random = with_output n (made n random)
