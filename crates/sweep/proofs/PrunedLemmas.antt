-- What is replaced by an equal signal, or left out, changes no output.
use Rattle.std.proofs.Common.{◌≡◌, ℕ, zero, suc, ◌+◌, ◌-◌, ◌<◌, ◌≤◌, ◌&&◌, Bool, false, List, length, map, sym, ap, ◌∙◌, arith, slice_index_or}
use Rattle.std.proofs.lemmas.List.{length-map, get_or-map}
use Rattle.std.proofs.lemmas.Simd.{map-map}
use Rattle.circuits.specs.declared.netlist.Lit.{Lit}
use Rattle.circuits.specs.declared.netlist.Gate.{Gate}
use Rattle.circuits.specs.Literals.{bit, differ, false_literal, is_negated, literal_bit, plain_literal, signal_of}
use Rattle.circuits.specs.Netlists.{Net, IsOrdered, function_of, gate_bit, signals_of, valuation_of}
use Rattle.circuits.proofs.Expansions.{literal_bit-plain, literal_bit-signed, map-agree, signal_of-signed}
use Rattle.circuits.proofs.Valuations.{valuation_of-fits, valuation_of-only}
use Rattle.port_moves.specs.Restored.{AreEqual}
use Rattle.sweep.specs.Merging.{AreReplacements, merged, replaced, replaced_gate}
use Rattle.sweep.specs.Pruning.{IsPruned, gate_origin, origin}

abbrev no_gate : Gate
no_gate = record { a = false_literal; b = false_literal }

-- a gate has the same bit under bits that give its literals the same
same_gate : (v w : List Bool) (one other : Gate) → literal_bit v one.a ≡ literal_bit w other.a → literal_bit v one.b ≡ literal_bit w other.b → gate_bit v one ≡ gate_bit w other
same_gate v w one other a b =
    ap (λ x. x && literal_bit v one.b) a ∙ ap (λ x. literal_bit w other.a && x) b

-- Replaced literals.
module _ (net : Net) (replacements : List Lit) (are : AreReplacements net replacements) where
  pub replaced_bit : (x : List Bool) (l : Lit) → length x ≡ net.inputs → signal_of l < signals_of net → literal_bit (valuation_of net x) (replaced replacements l) ≡ literal_bit (valuation_of net x) l
  replaced_bit x l long there =
      let v = valuation_of net x in
      let r = slice_index_or replacements (signal_of l) false_literal in
      literal_bit-signed v l r
      ∙ ap (λ b. differ b (is_negated l)) (sym ((are.each (signal_of l) false_literal (omega (arith, there, are.count))).computes x long))

  replaced_signal : (l : Lit) → signal_of l < signals_of net → signal_of (replaced replacements l) ≤ signal_of l
  replaced_signal l there =
      let r = slice_index_or replacements (signal_of l) false_literal in
      omega (arith, signal_of-signed l r, (are.each (signal_of l) false_literal (omega (arith, there, are.count))).within)

  -- gate t of the merged netlist
  merged_gate : (t : ℕ) (d : Gate) → t < length (merged replacements net).gates → (t < length net.gates) × (slice_index_or (merged replacements net).gates t d ≡ replaced_gate replacements (slice_index_or net.gates t no_gate))
  merged_gate t d below =
      let there : t < length net.gates = omega (arith, below, length-map net.gates (replaced_gate replacements)) in
      (there, get_or-map (replaced_gate replacements) net.gates t no_gate d there)

  pub merged_ordered : IsOrdered net → IsOrdered (merged replacements net)
  merged_ordered ordered = record {
    first_operands = λ t d below.
        let at = merged_gate t d below in
        let a = ordered.first_operands t no_gate at.0 in
        omega (arith, a, ap (λ (g : Gate). signal_of g.a) at.1, replaced_signal (slice_index_or net.gates t no_gate).a (omega (arith, a, at.0)));
    second_operands = λ t d below.
        let at = merged_gate t d below in
        let b = ordered.second_operands t no_gate at.0 in
        omega (arith, b, ap (λ (g : Gate). signal_of g.b) at.1, replaced_signal (slice_index_or net.gates t no_gate).b (omega (arith, b, at.0)));
    outputs = λ k d below.
        let there : k < length net.outputs = omega (arith, below, length-map net.outputs (replaced replacements)) in
        let output = slice_index_or net.outputs k false_literal in
        let is = ordered.outputs k false_literal there in
        omega (arith, is, ap signal_of (get_or-map (replaced replacements) net.outputs k false_literal d there), replaced_signal output is, length-map net.gates (replaced_gate replacements));
  }

  -- the signals' bits are the same
  pub merged_valuation : (x : List Bool) → IsOrdered net → length x ≡ net.inputs → valuation_of net x ≡ valuation_of (merged replacements net) x
  merged_valuation x ordered long =
      let v = valuation_of net x in
      let fits = valuation_of-fits net x ordered long in
      valuation_of-only (merged replacements net) x v (merged_ordered ordered) long (record {
        signals = omega (arith, fits.signals, length-map net.gates (replaced_gate replacements));
        constant = fits.constant;
        inputs = fits.inputs;
        gates = λ t d below.
            let at = merged_gate t d below in
            let gate = slice_index_or net.gates t no_gate in
            let a = replaced_bit x gate.a long (omega (arith, ordered.first_operands t no_gate at.0, at.0)) in
            let b = replaced_bit x gate.b long (omega (arith, ordered.second_operands t no_gate at.0, at.0)) in
            fits.gates t no_gate at.0 ∙ (same_gate v v gate (replaced_gate replacements gate) (sym a) (sym b) ∙ sym (ap (gate_bit v) at.1));
      })

  -- and so are the outputs
  pub merged_function : (x : List Bool) → IsOrdered net → length x ≡ net.inputs → function_of (merged replacements net) x ≡ function_of net x
  merged_function x ordered long =
      let v = valuation_of net x in
      ap (λ (w : List Bool). map (literal_bit w) (map (replaced replacements) net.outputs)) (sym (merged_valuation x ordered long))
      ∙ (map-map (literal_bit v) (replaced replacements) net.outputs
      ∙ map-agree (λ l. literal_bit v (replaced replacements l)) (literal_bit v) net.outputs (λ k d below. replaced_bit x (slice_index_or net.outputs k d) long (ordered.outputs k d below)))

-- a literal has the bit of what it was, where each signal has that of its origin
pub origin_bit : (v : List Bool) (origins : List ℕ) (literal : Lit) → signal_of literal < length origins → literal_bit v (origin origins literal) ≡ literal_bit (map (bit v) origins) literal
origin_bit v origins literal there =
    let s = slice_index_or origins (signal_of literal) 0 in
    literal_bit-signed v literal (plain_literal s)
    ∙ ap (λ b. differ b (is_negated literal)) (literal_bit-plain v s ∙ sym (get_or-map (bit v) origins (signal_of literal) 0 false there))

-- A netlist without the gates that no output reaches.
module _ (net pruned : Net) (ordered : IsOrdered net) (now_ordered : IsOrdered pruned) (is : IsPruned net pruned) where
  -- the signal of a gate that stays is a gate's
  gate_before : (k : ℕ) → k < length pruned.gates → net.inputs < slice_index_or is.origins (1 + net.inputs + k) 0
  gate_before k below =
      let size : 1 + net.inputs + k < length is.origins = omega (arith, below, is.count, is.inputs) in
      omega (arith, is.ports net.inputs (omega arith), is.ascending net.inputs (1 + net.inputs + k) 0 (omega arith) size)

  pub pruned_valuation : (x : List Bool) → length x ≡ net.inputs → map (bit (valuation_of net x)) is.origins ≡ valuation_of pruned x
  pruned_valuation x long =
      let v = valuation_of net x in
      let w = map (bit v) is.origins in
      let fits = valuation_of-fits net x ordered long in
      valuation_of-only pruned x w now_ordered (long ∙ sym is.inputs) (record {
        signals = length-map is.origins (bit v) ∙ is.count;
        constant = get_or-map (bit v) is.origins 0 0 false (omega (arith, is.count)) ∙ (ap (bit v) (is.ports 0 (omega arith)) ∙ fits.constant);
        inputs = λ i below.
            let there : i < net.inputs = omega (arith, below, is.inputs) in
            get_or-map (bit v) is.origins (1 + i) 0 false (omega (arith, there, is.count, is.inputs))
            ∙ (ap (bit v) (is.ports (1 + i) (omega (arith, there))) ∙ fits.inputs i there);
        gates = λ k d below.
            let at = 1 + net.inputs + k in
            let size : at < length is.origins = omega (arith, below, is.count, is.inputs) in
            let s = slice_index_or is.origins at 0 in
            let t = s - (1 + net.inputs) in
            let gate = slice_index_or pruned.gates k d in
            let s_is : 1 + net.inputs + t ≡ s = omega (arith, gate_before k below) in
            let there : t < length net.gates = omega (arith, s_is, is.there at 0 size) in
            let a = origin_bit v is.origins gate.a (omega (arith, now_ordered.first_operands k d below, below, is.count)) in
            let b = origin_bit v is.origins gate.b (omega (arith, now_ordered.second_operands k d below, below, is.count)) in
            let place : 1 + pruned.inputs + k ≡ at = omega (arith, is.inputs) in
            ap (bit w) place
            ∙ get_or-map (bit v) is.origins at 0 false size
            ∙ ap (bit v) (sym s_is)
            ∙ fits.gates t no_gate there
            ∙ sym (ap (gate_bit v) (is.gates k d below))
            ∙ same_gate v w (gate_origin is.origins gate) gate a b;
      })

  pub pruned_function : (x : List Bool) → length x ≡ net.inputs → function_of pruned x ≡ function_of net x
  pruned_function x long =
      let v = valuation_of net x in
      let w = map (bit v) is.origins in
      ap (λ (u : List Bool). map (literal_bit u) pruned.outputs) (sym (pruned_valuation x long))
      ∙ (sym (map-agree (λ l. literal_bit v (origin is.origins l)) (literal_bit w) pruned.outputs (λ k d below. origin_bit v is.origins (slice_index_or pruned.outputs k d) (omega (arith, now_ordered.outputs k d below, is.count))))
      ∙ (sym (map-map (literal_bit v) (origin is.origins) pruned.outputs)
      ∙ ap (map (literal_bit v)) is.outputs))

  -- ascending numbers are at least their places
  ascending_at : (k : ℕ) → k < length is.origins → k ≤ slice_index_or is.origins k 0
  ascending_at zero below = omega arith
  ascending_at (suc k) below =
      omega (arith, ascending_at k (omega (arith, below)), is.ascending k (suc k) 0 (omega arith) below)

  pub pruned_size : length pruned.gates ≤ length net.gates
  pruned_size =
      let last = net.inputs + length pruned.gates in
      let size : last < length is.origins = omega (arith, is.count, is.inputs) in
      omega (arith, ascending_at last size, is.there last 0 size)

-- a netlist reduced is equal to what it was
pub reduced_equal : (net pruned : Net) (replacements : List Lit) → AreReplacements net replacements → IsOrdered net → IsOrdered pruned → IsPruned (merged replacements net) pruned → AreEqual net pruned
reduced_equal net pruned replacements are ordered now_ordered is =
    let middle = merged_ordered net replacements are ordered in
    record {
      inputs = is.inputs;
      outputs = sym (length-map pruned.outputs (origin is.origins)) ∙ (ap length is.outputs ∙ length-map net.outputs (replaced replacements));
      functions = λ x long. pruned_function (merged replacements net) pruned middle now_ordered is x long ∙ merged_function net replacements are x ordered long;
    }

pub reduced_size : (net pruned : Net) (replacements : List Lit) → AreReplacements net replacements → IsOrdered net → IsOrdered pruned → IsPruned (merged replacements net) pruned → length pruned.gates ≤ length net.gates
reduced_size net pruned replacements are ordered now_ordered is =
    omega (arith, pruned_size (merged replacements net) pruned (merged_ordered net replacements are ordered) now_ordered is, length-map net.gates (replaced_gate replacements))
