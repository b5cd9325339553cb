-- A netlist computes what its printed BLIF file means, and the file's covers have no cycle.
use Rattle.std.proofs.Common.{◌≡◌, ℕ, zero, suc, ◌+◌, ◌-◌, ◌<◌, ◌≤◌, ◌&&◌, ◌||◌, Bool, true, false, List, [], ◌∷◌, ◌++◌, length, map, get_or, All, if◌then◌else◌, refl, sym, ap, subst, ◌∙◌, inl, inr, arith, ext_get_or, length-append}
use Rattle.std.proofs.lemmas.Bool.{cases_lt, ne_eqb, le-ltb, lt-ltb}
use Rattle.std.proofs.lemmas.List.{length-map, get_or-map, get_or_append_left, get_or-append-add}
use Rattle.std.proofs.lemmas.List.Elements.{All-nil, All-cons}
use Rattle.std.proofs.lemmas.List.FromFn.{length-map-range_with_len, get_or-map-range_with_len}
use Rattle.circuits.specs.declared.netlist.Lit.{Lit}
use Rattle.circuits.specs.declared.netlist.Gate.{Gate}
use Rattle.circuits.specs.declared.definition.Trit.TheVariants.{Zero, One}
use Rattle.circuits.specs.declared.definition.Def.{Def}
use Rattle.circuits.specs.declared.definition.Def.TheVariants.{Cover}
use Rattle.circuits.specs.Literals.{bit, differ, signal_of, is_negated, literal_bit, plain_literal}
use Rattle.circuits.specs.Netlists.{Net, IsOrdered, gate_bit, valuation_of, function_of}
use Rattle.circuits.specs.Circuits.{FitsCircuit, circuit_outputs, def_bit, trit_fits, signal_at, names_of, named_by}
use Rattle.circuits.specs.Functions.{Computes}
use Rattle.circuits.specs.Levels.{IsWithin, IsAcyclic}
use Rattle.circuits.proofs.Valuations.{valuation_of-fits}
use Rattle.circuits.proofs.LevelLaws.{least_level}
use Rattle.circuits.proofs.Expansions.{literal_bit-plain}
use Rattle.print_laws.specs.PrintedCircuits.{printed_signal, required_of, gate_cover, output_cover, printed_circuit}

pub constant_signal : (inputs : ℕ) → printed_signal inputs 0 ≡ 1 + inputs
constant_signal inputs = refl

pub input_signal : (inputs s : ℕ) → 0 < s → s ≤ inputs → printed_signal inputs s ≡ s
input_signal inputs s some few = rw (ne_eqb s 0 (λ none. omega (arith, none, some)), le-ltb inputs s few) refl

pub gate_signal : (inputs s : ℕ) → inputs < s → printed_signal inputs s ≡ 1 + s
gate_signal inputs s many = rw (ne_eqb s 0 (λ none. omega (arith, none, many)), lt-ltb inputs s many) refl

-- a row's position fits where the literal is true
fits_literal : (b negated : Bool) → trit_fits b (if negated then Zero else One) ≡ differ b negated
fits_literal true true = refl
fits_literal true false = refl
fits_literal false true = refl
fits_literal false false = refl

one_row : (a b : Bool) → (a && (b && true) || false) ≡ (a && b)
one_row true true = refl
one_row true false = refl
one_row false true = refl
one_row false false = refl

one_literal : (a : Bool) → (a && true || false) ≡ a
one_literal true = refl
one_literal false = refl

gate_meaning : (inputs : ℕ) (v w : List Bool) (gate : Gate) → bit v (printed_signal inputs (signal_of gate.a)) ≡ bit w (signal_of gate.a) → bit v (printed_signal inputs (signal_of gate.b)) ≡ bit w (signal_of gate.b) → def_bit v (gate_cover inputs gate) ≡ gate_bit w gate
gate_meaning inputs v w gate a b =
    let fits : Bool → Bool → Bool = λ x y. trit_fits x (required_of gate.a) && (trit_fits y (required_of gate.b) && true) || false in
    ap (λ x. fits x (bit v (printed_signal inputs (signal_of gate.b)))) a
    ∙ ap (fits (bit w (signal_of gate.a))) b
    ∙ one_row (trit_fits (bit w (signal_of gate.a)) (required_of gate.a)) (trit_fits (bit w (signal_of gate.b)) (required_of gate.b))
    ∙ ap (λ x. x && trit_fits (bit w (signal_of gate.b)) (required_of gate.b)) (fits_literal (bit w (signal_of gate.a)) (is_negated gate.a))
    ∙ ap (λ y. literal_bit w gate.a && y) (fits_literal (bit w (signal_of gate.b)) (is_negated gate.b))

output_meaning : (inputs : ℕ) (v w : List Bool) (output : Lit) → bit v (printed_signal inputs (signal_of output)) ≡ bit w (signal_of output) → def_bit v (output_cover inputs output) ≡ literal_bit w output
output_meaning inputs v w output same =
    ap (λ x. trit_fits x (required_of output) && true || false) same
    ∙ one_literal (trit_fits (bit w (signal_of output)) (required_of output))
    ∙ fits_literal (bit w (signal_of output)) (is_negated output)

no_gate : Gate
no_gate = record { a = record { 0 = 0 }; b = record { 0 = 0 } }

no_def : Def
no_def = Cover [] [] true

pub length-printed : (net : Net) → length (printed_circuit net).defs ≡ 1 + length net.gates + length net.outputs
length-printed net =
    let covers = map (gate_cover net.inputs) net.gates in
    let others = map (output_cover net.inputs) net.outputs in
    omega (arith, length-append covers others, length-map net.gates (gate_cover net.inputs), length-map net.outputs (output_cover net.inputs))

gate_at : (net : Net) (t : ℕ) (d : Def) → t < length net.gates → get_or (printed_circuit net).defs (suc t) d ≡ gate_cover net.inputs (get_or net.gates t no_gate)
gate_at net t d h =
    let covers = map (gate_cover net.inputs) net.gates in
    get_or_append_left covers (map (output_cover net.inputs) net.outputs) d t (omega (arith, h, length-map net.gates (gate_cover net.inputs)))
    ∙ get_or-map (gate_cover net.inputs) net.gates t no_gate d h

output_at : (net : Net) (k : ℕ) (d : Def) (none : Lit) → k < length net.outputs → get_or (printed_circuit net).defs (suc (length net.gates + k)) d ≡ output_cover net.inputs (get_or net.outputs k none)
output_at net k d none h =
    let covers = map (gate_cover net.inputs) net.gates in
    let others = map (output_cover net.inputs) net.outputs in
    ap (λ n. get_or (covers ++ others) (n + k) d) (sym (length-map net.gates (gate_cover net.inputs)))
    ∙ get_or-append-add covers others k d
    ∙ get_or-map (output_cover net.inputs) net.outputs k none d h

-- the signals below gate t have the bits that they have in the netlist
same_below : (net : Net) (x v : List Bool) (t : ℕ) → IsOrdered net → length x ≡ net.inputs → FitsCircuit (printed_circuit net) x v → t ≤ length net.gates → (s : ℕ) → s < 1 + net.inputs + t → bit v (printed_signal net.inputs s) ≡ bit (valuation_of net x) s
same_below net x v zero ordered long fits few s h =
    let own = valuation_of-fits net x ordered long in
    elim (cases_lt 0 s) [
      | inl some ↦
          let i = s - 1 in
          let place : s ≡ 1 + i = omega (arith, some) in
          ap (bit v) (input_signal net.inputs s some (omega (arith, h)) ∙ place)
          ∙ fits.inputs i (omega (arith, h, some))
          ∙ sym (ap (bit (valuation_of net x)) place ∙ own.inputs i (omega (arith, h, some)))
      | inr none ↦
          let constant : s ≡ 0 = omega (arith, none) in
          ap (λ n. bit v (printed_signal net.inputs n)) constant
          ∙ ap (bit v) (let e : 1 + net.inputs ≡ 1 + net.inputs + 0 = omega arith in e)
          ∙ fits.defs 0 no_def (omega (arith, length-printed net))
          ∙ sym (ap (bit (valuation_of net x)) constant ∙ own.constant)
    ]
same_below net x v (suc t) ordered long fits few s h =
    let own = valuation_of-fits net x ordered long in
    let w = valuation_of net x in
    let below = same_below net x v t ordered long fits (omega (arith, few)) in
    elim (cases_lt s (1 + net.inputs + t)) [
      | inl low ↦ below s low
      | inr high ↦
          let here : s ≡ 1 + net.inputs + t = omega (arith, h, high) in
          let there : t < length net.gates = omega (arith, few) in
          let gate = get_or net.gates t no_gate in
          let at : printed_signal net.inputs s ≡ 1 + net.inputs + suc t = gate_signal net.inputs s (omega (arith, here)) ∙ omega (arith, here) in
          ap (bit v) at
          ∙ fits.defs (suc t) no_def (omega (arith, there, length-printed net))
          ∙ ap (def_bit v) (gate_at net t no_def there)
          ∙ gate_meaning net.inputs v w gate (below (signal_of gate.a) (ordered.first_operands t no_gate there)) (below (signal_of gate.b) (ordered.second_operands t no_gate there))
          ∙ sym (ap (bit w) here ∙ own.gates t no_gate there)
    ]

-- the literal of output k
abbrev number : Net → ℕ → Lit
number net k = plain_literal (2 + net.inputs + length net.gates + k)

counts : (net : Net) (x v : List Bool) → length (function_of net x) ≡ length (circuit_outputs (printed_circuit net) v)
counts net x v = omega (arith, length-map net.outputs (literal_bit (valuation_of net x)), length-map (printed_circuit net).outputs (literal_bit v), length-map-range_with_len (number net) 0 (length net.outputs))

same_output : (net : Net) (x v : List Bool) (k : ℕ) → IsOrdered net → length x ≡ net.inputs → FitsCircuit (printed_circuit net) x v → k < length net.outputs → get_or (function_of net x) k false ≡ get_or (circuit_outputs (printed_circuit net) v) k false
same_output net x v k ordered long fits h =
    let none : Lit = record { 0 = 0 } in
    let w = valuation_of net x in
    let output = get_or net.outputs k none in
    let g = length net.gates in
    let wide : k < length (printed_circuit net).outputs = omega (arith, h, length-map-range_with_len (number net) 0 (length net.outputs)) in
    let below = same_below net x v g ordered long fits (omega arith) (signal_of output) (ordered.outputs k none h) in
    let at : 2 + net.inputs + g + k ≡ 1 + net.inputs + suc (g + k) = omega arith in
    get_or-map (literal_bit w) net.outputs k none false h
    ∙ sym (get_or-map (literal_bit v) (printed_circuit net).outputs k none false wide
    ∙ ap (literal_bit v) (get_or-map-range_with_len (number net) 0 (length net.outputs) k k none h (omega arith))
    ∙ literal_bit-plain v (2 + net.inputs + g + k)
    ∙ ap (bit v) at
    ∙ fits.defs (suc (g + k)) no_def (omega (arith, h, length-printed net))
    ∙ ap (def_bit v) (output_at net k no_def none h)
    ∙ output_meaning net.inputs v w output below)

pub printed_computes : (net : Net) → IsOrdered net → Computes net (printed_circuit net)
printed_computes net ordered = record {
  inputs = refl;
  outputs = sym (length-map-range_with_len (number net) 0 (length net.outputs));
  function = λ x v long fits. ext_get_or false (function_of net x) (circuit_outputs (printed_circuit net) v) (counts net x v) (λ k h. same_output net x v k ordered long fits (omega (arith, h, length-map net.outputs (literal_bit (valuation_of net x)))));
}

-- a cover names earlier signals
pub signal_below : (inputs s bound : ℕ) → s < bound → 1 + inputs ≤ bound → printed_signal inputs s < 1 + bound
signal_below inputs s bound low wide =
    elim (cases_lt inputs s) [
      | inl many ↦ omega (arith, gate_signal inputs s many, low)
      | inr few ↦ elim (cases_lt 0 s) [
        | inl some ↦ omega (arith, input_signal inputs s some few, low)
        | inr none ↦
            let constant : s ≡ 0 = omega (arith, none) in
            omega (arith, ap (printed_signal inputs) constant, constant_signal inputs, wide)
      ]
    ]

names_earlier : (net : Net) (d : ℕ) (def : Def) → IsOrdered net → d < length (printed_circuit net).defs → All (λ s. s < 1 + net.inputs + d) (named_by (get_or (printed_circuit net).defs d def))
names_earlier net zero def ordered h = All-nil (λ s. s < 1 + net.inputs + 0)
names_earlier net (suc t) def ordered h =
    let P : ℕ → Type 0 = λ s. s < 1 + net.inputs + suc t in
    let none : Lit = record { 0 = 0 } in
    elim (cases_lt t (length net.gates)) [
      | inl there ↦
          let gate = get_or net.gates t no_gate in
          let first : P (printed_signal net.inputs (signal_of gate.a)) = omega (arith, signal_below net.inputs (signal_of gate.a) (1 + net.inputs + t) (ordered.first_operands t no_gate there) (omega arith)) in
          let second : P (printed_signal net.inputs (signal_of gate.b)) = omega (arith, signal_below net.inputs (signal_of gate.b) (1 + net.inputs + t) (ordered.second_operands t no_gate there) (omega arith)) in
          subst (λ (x : Def). All P (named_by x)) (sym (gate_at net t def there))
          (All-cons P (printed_signal net.inputs (signal_of gate.a)) (printed_signal net.inputs (signal_of gate.b) ∷ []) first (All-cons P (printed_signal net.inputs (signal_of gate.b)) [] second (All-nil P)))
      | inr above ↦
          let k = t - length net.gates in
          let here : k < length net.outputs = omega (arith, h, above, length-printed net) in
          let output = get_or net.outputs k none in
          let low : P (printed_signal net.inputs (signal_of output)) = omega (arith, above, signal_below net.inputs (signal_of output) (1 + net.inputs + length net.gates) (ordered.outputs k none here) (omega arith)) in
          let at : length net.gates + k ≡ t = omega (arith, above) in
          subst (λ (x : Def). All P (named_by x)) (sym (ap (λ n. get_or (printed_circuit net).defs (suc n) def) (sym at) ∙ output_at net k def none here))
          (All-cons P (printed_signal net.inputs (signal_of output)) [] low (All-nil P))
    ]

within : (net : Net) (n s : ℕ) → IsOrdered net → s < 1 + net.inputs + n → s < 1 + net.inputs + length (printed_circuit net).defs → IsWithin (printed_circuit net) n s
within net zero s ordered low there = omega (arith, low)
within net (suc n) s ordered low there =
    elim (cases_lt s (1 + net.inputs)) [
      | inl input ↦ inl input
      | inr above ↦
          let d : ℕ = s - (1 + net.inputs) in
          let here : d < length (printed_circuit net).defs = omega (arith, above, there) in
          inr (record {
            place = d;
            there = here;
            at = omega (arith, above);
            named = λ k e h.
                let earlier = names_earlier net d (Cover [] [] true) ordered here k e h in
                within net n (get_or (names_of (printed_circuit net) d) k e) ordered (omega (arith, earlier, low, above)) (omega (arith, earlier, there, above));
          })
    ]

pub printed_acyclic : (net : Net) → IsOrdered net → IsAcyclic (printed_circuit net)
printed_acyclic net ordered d h =
    least_level (printed_circuit net) (suc d) (signal_at (printed_circuit net) d) (within net (suc d) (signal_at (printed_circuit net) d) ordered (omega arith) (omega (arith, h)))
