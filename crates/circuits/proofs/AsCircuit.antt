-- That a netlist in order, read as one in any order, has no cycle, is closed, and means what it computes.
use Rattle.std.proofs.Common.{ℕ, zero, suc, ◌+◌, ◌-◌, ◌<◌, ◌≡◌, Bool, true, List, [], ◌∷◌, length, get_or, All, refl, sym, ap, subst, ◌∙◌, inl, inr, arith}
use Rattle.std.proofs.lemmas.Bool.{cases_lt}
use Rattle.std.proofs.lemmas.List.{length-map, get_or-map}
use Rattle.std.proofs.lemmas.List.Elements.{All-nil, All-cons}
use Rattle.circuits.specs.declared.netlist.Gate.{Gate}
use Rattle.circuits.specs.declared.definition.Def.{Def}
use Rattle.circuits.specs.declared.definition.Def.TheVariants.{Cover}
use Rattle.circuits.specs.Literals.{signal_of}
use Rattle.circuits.specs.Netlists.{Net, IsOrdered, Fits, signals_of, output_bits}
use Rattle.circuits.specs.Circuits.{FitsCircuit, IsClosed, HasWideRows, signal_at, named_by, names_of, def_bit}
use Rattle.circuits.specs.Levels.{IsWithin, IsAcyclic}
use Rattle.circuits.specs.Functions.{Computes, as_circuit, gate_def}
use Rattle.circuits.proofs.Valuations.{valuation_of-only}
use Rattle.circuits.proofs.LevelLaws.{least_level}

pub length-defs : (net : Net) → length (as_circuit net).defs ≡ length net.gates
length-defs net = length-map net.gates gate_def

-- definition d is gate d, whatever stands for a definition or a gate that is not there
pub def-gate : (net : Net) (d : ℕ) (gate : Gate) (def : Def) → d < length net.gates → get_or (as_circuit net).defs d def ≡ gate_def (get_or net.gates d gate)
def-gate net d gate def h = get_or-map gate_def net.gates d gate def h

no_gate : Gate
no_gate = record { a = record { 0 = 0 }; b = record { 0 = 0 } }

-- a gate names earlier signals
pub names_earlier : (net : Net) (d : ℕ) (def : Def) → IsOrdered net → d < length net.gates → All (λ s. s < 1 + net.inputs + d) (named_by (get_or (as_circuit net).defs d def))
names_earlier net d def ordered h =
    let P : ℕ → Type 0 = λ s. s < 1 + net.inputs + d in
    let gate = get_or net.gates d no_gate in
    let one = All-cons P (signal_of gate.b) [] (ordered.second_operands d no_gate h) (All-nil P) in
    let both = All-cons P (signal_of gate.a) (signal_of gate.b ∷ []) (ordered.first_operands d no_gate h) one in
    subst (λ (x : Def). All P (named_by x)) (sym (def-gate net d no_gate def h)) both

-- so gate d is within level d + 1
pub IsWithin-gates : (net : Net) (n s : ℕ) → IsOrdered net → s < 1 + net.inputs + n → s < signals_of net → IsWithin (as_circuit net) n s
IsWithin-gates net zero s ordered low there = omega arith
IsWithin-gates net (suc n) s ordered low there =
    elim (cases_lt s (1 + net.inputs)) [
      | inl input ↦ inl input
      | inr above ↦
          let d : ℕ = s - (1 + net.inputs) in
          let here : d < length net.gates = omega arith in
          inr (record {
            place = d;
            there = omega (arith, here, length-defs net);
            at = omega arith;
            named = λ k e h.
                let earlier = names_earlier net d (Cover [] [] true) ordered here k e h in
                IsWithin-gates net n (get_or (names_of (as_circuit net) d) k e) ordered (omega arith) (omega arith);
          })
    ]

pub as_circuit-acyclic : (net : Net) → IsOrdered net → IsAcyclic (as_circuit net)
as_circuit-acyclic net ordered d h =
    let here : d < length net.gates = omega (arith, length-defs net) in
    least_level (as_circuit net) (suc d) (signal_at (as_circuit net) d) (IsWithin-gates net (suc d) (signal_at (as_circuit net) d) ordered (omega arith) (omega arith))

pub as_circuit-closed : (net : Net) → IsOrdered net → IsClosed (as_circuit net)
as_circuit-closed net ordered = record {
  defs = λ d def h k e l.
      let here : d < length net.gates = omega (arith, length-defs net) in
      omega (arith, names_earlier net d def ordered here k e l, length-defs net);
  rows = λ d def h. subst HasWideRows (sym (def-gate net d no_gate def (omega (arith, length-defs net)))) tt;
  outputs = λ k l h. omega (arith, ordered.outputs k l h, length-defs net);
}

-- a valuation that fits one way fits the other
pub Fits-from_circuit : (net : Net) (x v : List Bool) → FitsCircuit (as_circuit net) x v → Fits net x v
Fits-from_circuit net x v fits = record {
  signals = omega (arith, fits.signals, length-defs net);
  constant = fits.constant;
  inputs = fits.inputs;
  gates = λ t gate h. fits.defs t (gate_def gate) (omega (arith, h, length-defs net)) ∙ ap (def_bit v) (def-gate net t gate (gate_def gate) h);
}

pub as_circuit-computed : (net : Net) → IsOrdered net → Computes net (as_circuit net)
as_circuit-computed net ordered = record {
  inputs = refl;
  outputs = refl;
  function = λ x v len fits. ap (output_bits net) (sym (valuation_of-only net x v ordered len (Fits-from_circuit net x v fits)));
}
