-- The bits of signals on a vector, gate by gate.
use Rattle.std.proofs.Common.{ℕ, ◌+◌, ◌<◌, ◌≡◌, ◌&&◌, Bool, false, List, [], ◌∷◌, length, get_or, replicate, take, sym, ap, subst, ◌∙◌, inl, inr, arith}
use Rattle.std.proofs.lemmas.Bool.{cases_eq}
use Rattle.std.proofs.Math.ListN.{get_or-map as get_or_map_default}
use Rattle.std.proofs.lemmas.List.{length-map, get_or-map, take-map}
use Rattle.circuits.specs.declared.netlist.Gate.{Gate}
use Rattle.circuits.specs.declared.netlist.Lit.{Lit}
use Rattle.circuits.specs.Literals.{bit, differ, is_negated, literal_bit, signal_of}
use Rattle.circuits.specs.Netlists.{Net, valuation_of, with_gates}
use Rattle.circuits.proofs.Valuations.{valuation_of-fits}
use Rattle.net_core.specs.Graph.{IsGraph}
use Rattle.claim_core.specs.Claims.{output_bit}
use Rattle.word_sim.specs.Columns.{lane, row_of, with_gate_words, word_bit, word_of}
use Rattle.word_sim.proofs.DualRail.{no-bit}
use Rattle.word_sim.proofs.Lanes.{lane-bit, lane-gates}
use Rattle.sim_signature.specs.Blocks.{IsEvaluated, IsRunOrKept, IsValuation, bit_of_gate, bit_of_literal, block_after, block_bit, pattern}

-- the gate's bit, from bits of its operands
pub gate-bit : (net : Net) (x : List Bool) (t : ℕ) (bits : ℕ → Bool) (d : Gate) → IsGraph net → length x ≡ net.inputs → t < length net.gates → IsEvaluated net x (1 + net.inputs + t) bits → bit_of_gate bits (get_or net.gates t d) ≡ bit (valuation_of net x) (1 + net.inputs + t)
gate-bit net x t bits d is len here evaluated =
    let gate = get_or net.gates t d in
    let value = valuation_of net x in
    let fits = valuation_of-fits net x is.ordered len in
    let one = evaluated (signal_of gate.a) (is.ordered.first_operands t d here) in
    let other = evaluated (signal_of gate.b) (is.ordered.second_operands t d here) in
    ap (λ b. differ b (is_negated gate.a) && bit_of_literal bits gate.b) one ∙ (ap (λ b. literal_bit value gate.a && differ b (is_negated gate.b)) other ∙ sym (fits.gates t d here))

-- one signal more
pub IsEvaluated-more : (net : Net) (x : List Bool) (end : ℕ) (bits next : ℕ → Bool) → ((s : ℕ) → (s ≡ end → ⊥) → next s ≡ bits s) → next end ≡ bit (valuation_of net x) end → IsEvaluated net x end bits → IsEvaluated net x (end + 1) next
IsEvaluated-more net x end bits next others here evaluated s less =
    elim (cases_eq s end) [
      | inl e ↦ subst (λ s. next s ≡ bit (valuation_of net x) s) (sym e) here
      | inr apart ↦ let before : s < end = grind (arith, less, apart) in others s apart ∙ evaluated s before
    ]

-- a signal's bit, on the vectors of blocks
pub pattern-bit : (blocks : List (List ℕ)) (w v s : ℕ) → block_bit w v (get_or blocks s []) ≡ bit (pattern blocks w v) s
pattern-bit blocks w v s = ap (word_bit v) (sym (get_or_map_default (word_of w) blocks s [])) ∙ lane-bit v (row_of blocks w) s

pub length-pattern : (blocks : List (List ℕ)) (w v : ℕ) → length (pattern blocks w v) ≡ length blocks
length-pattern blocks w v = length-map (row_of blocks w) (word_bit v) ∙ length-map blocks (word_of w)

-- the blocks that come first, continued by the gates' words, have the bits of all signals
pub IsValuation-run : (net : Net) (inputs front blocks : List (List ℕ)) (w v : ℕ) → w < 8 → v < 64
    → take (length inputs + 1) front ≡ replicate 8 0 ∷ inputs
    → row_of blocks w ≡ with_gate_words (take (length inputs + 1) (row_of front w)) net.gates
    → IsValuation net (pattern inputs w v) (λ s. block_bit w v (get_or blocks s []))
IsValuation-run net inputs front blocks w v h l first row s less =
    let begins = take-map (word_of w) (length inputs + 1) front ∙ ap (λ (blocks : List (List ℕ)). row_of blocks w) first in
    let bits = lane-gates v (row_of (replicate 8 0 ∷ inputs) w) net.gates l ∙ ap (λ b. with_gates (b ∷ pattern inputs w v) net.gates) (no-bit w v h) in
    pattern-bit blocks w v s ∙ ap (λ value. bit value s) (ap (lane v) (row ∙ ap (λ words. with_gate_words words net.gates) begins) ∙ bits)

-- the bit of a gate that was evaluated again, or kept since both operands kept theirs
pub bit-after : (net : Net) (x y : List Bool) (t w v : ℕ) (d : Gate) (before old_after after : List (List ℕ)) (old_marks marks : List Bool) → w < 8 → v < 64 → IsGraph net → length x ≡ net.inputs → length y ≡ net.inputs → t < length net.gates
    → IsValuation net x (λ s. block_bit w v (get_or before s []))
    → IsEvaluated net y (1 + net.inputs + t) (λ s. block_bit w v (block_after before old_after old_marks s))
    → IsRunOrKept (get_or net.gates t d) (1 + net.inputs + t) before old_after after old_marks marks
    → block_bit w v (block_after before after marks (1 + net.inputs + t)) ≡ bit (valuation_of net y) (1 + net.inputs + t)
bit-after net x y t w v d before old_after after old_marks marks h k is len same_len here known evaluated (inl run) =
    run w v h k ∙ gate-bit net y t (λ s. block_bit w v (block_after before old_after old_marks s)) d is same_len here evaluated
bit-after net x y t w v d before old_after after old_marks marks h k is len same_len here known evaluated (inr (same, first, second)) =
    let place = 1 + net.inputs + t in
    let gate = get_or net.gates t d in
    let was : ℕ → Bool = λ s. block_bit w v (get_or before s []) in
    let now : ℕ → Bool = λ s. block_bit w v (block_after before old_after old_marks s) in
    let unchanged : bit_of_gate was gate ≡ bit (valuation_of net x) place = gate-bit net x t was d is len here (λ s less. known s (omega (arith, less, here))) in
    let one = ap (λ block. differ (block_bit w v block) (is_negated gate.a) && bit_of_literal was gate.b) (sym first) in
    let other = ap (λ block. bit_of_literal now gate.a && differ (block_bit w v block) (is_negated gate.b)) (sym second) in
    ap (block_bit w v) same ∙ (known place (omega (arith, here)) ∙ (sym unchanged ∙ (one ∙ (other ∙ gate-bit net y t now d is same_len here evaluated))))

-- an output's bit
pub output-bit : (net : Net) (x : List Bool) (k : ℕ) (bits : ℕ → Bool) → IsGraph net → k < length net.outputs → IsValuation net x bits → bit_of_literal bits (get_or net.outputs k (record { 0 = 0 })) ≡ output_bit net k x
output-bit net x k bits is there known =
    let literal : Lit = get_or net.outputs k (record { 0 = 0 }) in
    ap (λ b. differ b (is_negated literal)) (known (signal_of literal) (is.ordered.outputs k (record { 0 = 0 }) there)) ∙ sym (get_or-map (literal_bit (valuation_of net x)) net.outputs k (record { 0 = 0 }) false there)
