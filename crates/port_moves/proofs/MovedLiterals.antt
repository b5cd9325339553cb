-- A literal of one netlist, and the one that it becomes, have the same bit.
use Rattle.std.proofs.Common.{◌≡◌, ◌≢◌, ℕ, suc, ◌+◌, ◌-◌, ◌*◌, ◌%◌, ◌<◌, ◌≤◌, ◌&&◌, Bool, true, false, List, [], ◌∷◌, ◌++◌, length, All, refl, sym, ap, ◌∙◌, inl, inr, arith}
use Rattle.std.proofs.lemmas.Bool.{cases_lt, ne_eqb, eq-eqb, le-ltb, lt-ltb}
use Rattle.std.proofs.lemmas.List.{length_push, get_or_append_left, get_or_push}
use Rattle.circuits.specs.declared.netlist.Lit.{Lit}
use Rattle.circuits.specs.declared.netlist.Gate.{Gate}
use Rattle.circuits.specs.Literals.{bit, differ, signal_of, is_negated, literal_bit}
use Rattle.circuits.specs.Netlists.{gate_bit}
use Rattle.circuits.specs.Bijections.{Moves, place_of, sign_of}
use Rattle.port_moves.specs.Moved.{input_literal, moved_literal, moved_gate}
use Rattle.std.proofs.Math.Bool.{and_comm}
use Rattle.circuits.proofs.Expansions.{differ_both}

pub moved_constant : (p : List (ℕ × Bool)) (lit : Lit) → signal_of lit ≡ 0 → moved_literal p lit ≡ lit
moved_constant p lit h = rw (eq-eqb (signal_of lit) 0 h) refl

pub moved_later : (p : List (ℕ × Bool)) (lit : Lit) → length p < signal_of lit → moved_literal p lit ≡ lit
moved_later p lit h = rw (ne_eqb (signal_of lit) 0 (λ none. omega (arith, none, h)), lt-ltb (length p) (signal_of lit) h) refl

pub moved_input : (p : List (ℕ × Bool)) (lit : Lit) → signal_of lit ≢ 0 → signal_of lit ≤ length p → moved_literal p lit ≡ input_literal (place_of p (signal_of lit - 1)) (differ (is_negated lit) (sign_of p (signal_of lit - 1)))
moved_input p lit some few = rw (ne_eqb (signal_of lit) 0 some, le-ltb (length p) (signal_of lit) few) refl

pub input_signal : (place : ℕ) (negated : Bool) → signal_of (input_literal place negated) ≡ place + 1
input_signal place true = omega arith
input_signal place false = omega arith

pub input_negated : (place : ℕ) (negated : Bool) → is_negated (input_literal place negated) ≡ negated
input_negated place true = eq-eqb ((2 * (place + 1) + 1) % 2) 1 (omega arith)
input_negated place false = ne_eqb ((2 * (place + 1) + 0) % 2) 1 (λ clash. omega (arith, clash))

input_bit : (w : List Bool) (place : ℕ) (negated : Bool) → literal_bit w (input_literal place negated) ≡ differ (bit w (place + 1)) negated
input_bit w place negated =
    ap (λ s. differ (bit w s) (is_negated (input_literal place negated))) (input_signal place negated)
    ∙ ap (differ (bit w (place + 1))) (input_negated place negated)

-- Under these bits each literal has the bit of the one that it becomes.
pub record AreAlike (p : List (ℕ × Bool)) (v w : List Bool) : Type 0 where
  pub same : length w ≡ length v
  pub room : length p < length v
  pub places : All (λ entry. entry.0 < length p) p
  pub each : (lit : Lit) → signal_of lit < length v → literal_bit w (moved_literal p lit) ≡ literal_bit v lit

-- the literal that it becomes is of a signal that has a bit
moved_signal : (p : List (ℕ × Bool)) (v w : List Bool) (lit : Lit) → AreAlike p v w → signal_of lit < length v → signal_of (moved_literal p lit) < length w
moved_signal p v w lit alike h =
    elim (cases_lt (length p) (signal_of lit)) [
      | inl later ↦ omega (arith, alike.same, h, ap signal_of (moved_later p lit later))
      | inr few ↦ elim (cases_lt 0 (signal_of lit)) [
        | inl some ↦
            let i = signal_of lit - 1 in
            let place = alike.places i (0, false) (omega (arith, some, few)) in
            omega (arith, alike.same, alike.room, place, ap signal_of (moved_input p lit (λ none. omega (arith, none, some)) few), input_signal (place_of p i) (differ (is_negated lit) (sign_of p i)))
        | inr none ↦ omega (arith, alike.same, h, ap signal_of (moved_constant p lit (omega (arith, none))))
      ]
    ]

-- at first the bits are those of the inputs, and those that they become
pub alike_inputs : (p : List (ℕ × Bool)) (x y : List Bool) → length p ≡ length x → All (λ entry. entry.0 < length p) p → Moves p x y → AreAlike p (false ∷ x) (false ∷ y)
alike_inputs p x y entries places moves = record {
  same = ap suc moves.same_length;
  room = omega (arith, entries);
  places = places;
  each = λ lit h.
      elim (cases_lt 0 (signal_of lit)) [
        | inl some ↦
            let i = signal_of lit - 1 in
            let few : signal_of lit ≤ length p = omega (arith, h, entries) in
            let neg = is_negated lit in
            let sign = sign_of p i in
            let place = place_of p i in
            let at : signal_of lit ≡ suc i = omega (arith, some) in
            let after : place + 1 ≡ suc place = omega arith in
            ap (literal_bit (false ∷ y)) (moved_input p lit (λ none. omega (arith, none, some)) few)
            ∙ input_bit (false ∷ y) place (differ neg sign)
            ∙ ap (λ s. differ (bit (false ∷ y) s) (differ neg sign)) after
            ∙ ap (λ b. differ b (differ neg sign)) (moves.bits i (omega (arith, some, few)))
            ∙ differ_both (bit x i) neg sign
            ∙ sym (ap (λ s. differ (bit (false ∷ x) s) neg) at)
        | inr none ↦
            let constant : signal_of lit ≡ 0 = omega (arith, none) in
            ap (literal_bit (false ∷ y)) (moved_constant p lit constant)
            ∙ ap (λ s. differ (bit (false ∷ y) s) (is_negated lit)) constant
            ∙ sym (ap (λ s. differ (bit (false ∷ x) s) (is_negated lit)) constant)
      ];
}

-- then a gate has the bit of the one that it becomes
pub alike_gate : (p : List (ℕ × Bool)) (v w : List Bool) (gate : Gate) → AreAlike p v w → signal_of gate.a < length v → signal_of gate.b < length v → gate_bit w (moved_gate p gate) ≡ gate_bit v gate
alike_gate p v w gate alike a b =
    ap (λ one. one && literal_bit w (moved_literal p gate.a)) (alike.each gate.b b)
    ∙ ap (λ other. literal_bit v gate.b && other) (alike.each gate.a a)
    ∙ and_comm (literal_bit v gate.b) (literal_bit v gate.a)

before : (v : List Bool) (value : Bool) (lit : Lit) → signal_of lit < length v → literal_bit (v ++ value ∷ []) lit ≡ literal_bit v lit
before v value lit h = ap (λ b. differ b (is_negated lit)) (get_or_append_left v (value ∷ []) false (signal_of lit) h)

last : (v : List Bool) (value : Bool) (lit : Lit) → signal_of lit ≡ length v → literal_bit (v ++ value ∷ []) lit ≡ differ value (is_negated lit)
last v value lit h = ap (λ b. differ b (is_negated lit)) (get_or_push v value false (signal_of lit) (sym h))

-- and with one bit more they are still alike
pub alike_more : (p : List (ℕ × Bool)) (v w : List Bool) (value : Bool) → AreAlike p v w → AreAlike p (v ++ value ∷ []) (w ++ value ∷ [])
alike_more p v w value alike = record {
  same = omega (arith, alike.same, length_push v value, length_push w value);
  room = omega (arith, alike.room, length_push v value);
  places = alike.places;
  each = λ lit h.
      elim (cases_lt (signal_of lit) (length v)) [
        | inl low ↦
            before w value (moved_literal p lit) (moved_signal p v w lit alike low)
            ∙ alike.each lit low
            ∙ sym (before v value lit low)
        | inr high ↦
            let here : signal_of lit ≡ length v = omega (arith, h, high, length_push v value) in
            ap (literal_bit (w ++ value ∷ [])) (moved_later p lit (omega (arith, here, alike.room)))
            ∙ last w value lit (omega (arith, here, alike.same))
            ∙ sym (last v value lit here)
      ];
}
