-- That exactly one valuation fits a netlist in order and a vector.
use Rattle.std.proofs.Common.{ℕ, zero, suc, ◌+◌, ◌<◌, ◌≤◌, ◌≡◌, ◌⊎◌, Bool, false, ◌&&◌, List, [], ◌∷◌, ◌++◌, length, refl, sym, ap, ◌∙◌, inl, inr, arith, ext_get_or}
use Rattle.std.proofs.lemmas.Bool.{cases_lt}
use Rattle.std.proofs.lemmas.List.{length_push, get_or_append_left, get_or_push}
use Rattle.circuits.specs.declared.netlist.Gate.{Gate}
use Rattle.circuits.specs.Literals.{EachAt, bit, differ, signal_of, is_negated, literal_bit}
use Rattle.circuits.specs.Netlists.{Net, IsOrdered, Fits, gate_bit, with_gates, valuation_of}

-- each gate's operand is below the number of bits before it
abbrev pub ReadsBelow : ℕ → (Gate → ℕ) → List Gate → Type 0
ReadsBelow n operand gates = EachAt (λ t gate. operand gate < n + t) gates

abbrev pub first_operand : Gate → ℕ
first_operand gate = signal_of gate.a

abbrev pub second_operand : Gate → ℕ
second_operand gate = signal_of gate.b

pub ReadsBelow-tail : (v : List Bool) (value : Bool) (operand : Gate → ℕ) (gate : Gate) (gates : List Gate) → ReadsBelow (length v) operand (gate ∷ gates) → ReadsBelow (length (v ++ value ∷ [])) operand gates
ReadsBelow-tail v value operand gate gates reads t d h =
    let more : suc t < length (gate ∷ gates) = omega arith in
    omega (arith, reads (suc t) d more, length_push v value)

-- a gate has one value under bits that agree below both its operands
pub gate_bit-agree : (v w : List Bool) (gate : Gate) (n : ℕ) → ((k : ℕ) → k < n → bit v k ≡ bit w k) → first_operand gate < n → second_operand gate < n → gate_bit v gate ≡ gate_bit w gate
gate_bit-agree v w gate n same a b =
    ap (λ x. differ x (is_negated gate.a) && literal_bit v gate.b) (same (signal_of gate.a) a) ∙ ap (λ x. literal_bit w gate.a && differ x (is_negated gate.b)) (same (signal_of gate.b) b)

pub length-with_gates : (v : List Bool) (gates : List Gate) → length (with_gates v gates) ≡ length v + length gates
length-with_gates v [] = omega arith
length-with_gates v (gate ∷ gates) =
    omega (arith, length-with_gates (v ++ gate_bit v gate ∷ []) gates, length_push v (gate_bit v gate))

-- what stands before the gates stays
pub with_gates-before : (v : List Bool) (gates : List Gate) (k : ℕ) → k < length v → bit (with_gates v gates) k ≡ bit v k
with_gates-before v [] k h = refl
with_gates-before v (gate ∷ gates) k h =
    with_gates-before (v ++ gate_bit v gate ∷ []) gates k (omega (arith, length_push v (gate_bit v gate))) ∙ get_or_append_left v (gate_bit v gate ∷ []) false k h

-- each gate's bit is the AND of its operands' bits
pub with_gates-gates : (v : List Bool) (gates : List Gate) → ReadsBelow (length v) first_operand gates → ReadsBelow (length v) second_operand gates → EachAt (λ t gate. bit (with_gates v gates) (length v + t) ≡ gate_bit (with_gates v gates) gate) gates
with_gates-gates v [] a b t d h = absurd (omega arith)
with_gates-gates v (gate ∷ gates) a b zero d h =
    let next = v ++ gate_bit v gate ∷ [] in
    let at : length v + 0 ≡ length v = omega arith in
    let here : bit (with_gates next gates) (length v) ≡ gate_bit v gate = with_gates-before next gates (length v) (omega (arith, length_push v (gate_bit v gate))) ∙ get_or_push v (gate_bit v gate) false (length v) refl in
    let same = gate_bit-agree (with_gates next gates) v gate (length v) (λ k l. with_gates-before v (gate ∷ gates) k l) (omega (arith, a 0 d h)) (omega (arith, b 0 d h)) in
    rw at (here ∙ sym same)
with_gates-gates v (gate ∷ gates) a b (suc t) d h =
    let value = gate_bit v gate in
    let at : length v + suc t ≡ length (v ++ value ∷ []) + t = omega (arith, length_push v value) in
    let more : t < length gates = omega arith in
    ap (λ k. bit (with_gates (v ++ value ∷ []) gates) k) at ∙ with_gates-gates (v ++ value ∷ []) gates (ReadsBelow-tail v value first_operand gate gates a) (ReadsBelow-tail v value second_operand gate gates b) t d more

-- and no other bits have that
pub with_gates-only : (v w : List Bool) (gates : List Gate) → length w ≡ length v + length gates → ((k : ℕ) → k < length v → bit w k ≡ bit v k) → ReadsBelow (length v) first_operand gates → ReadsBelow (length v) second_operand gates → EachAt (λ t gate. bit w (length v + t) ≡ gate_bit w gate) gates → w ≡ with_gates v gates
with_gates-only v w [] len before a b meets =
    let len' : length w ≡ length v = omega (arith, len) in
    ext_get_or false w v len' (λ k l. before k (omega (arith, len')))
with_gates-only v w (gate ∷ gates) len before a b meets =
    let value = gate_bit v gate in
    let push = length_push v value in
    let at : length v + 0 ≡ length v = omega arith in
    let first : 0 < length (gate ∷ gates) = omega arith in
    let same = gate_bit-agree w v gate (length v) before (omega (arith, a 0 gate first)) (omega (arith, b 0 gate first)) in
    let here : bit w (length v) ≡ value = ap (λ k. bit w k) (sym at) ∙ (meets 0 gate first ∙ same) in
    with_gates-only (v ++ value ∷ []) w gates (omega (arith, len, push)) (λ k l. agrees k (cases_lt k (length v)) l here before) (ReadsBelow-tail v value first_operand gate gates a) (ReadsBelow-tail v value second_operand gate gates b) (λ t d l. ap (λ k. bit w k) (later t) ∙ meets (suc t) d (omega (arith, l)))
  where
    agrees : (k : ℕ) → (k < length v) ⊎ (length v ≤ k) → k < length (v ++ gate_bit v gate ∷ []) → bit w (length v) ≡ gate_bit v gate → ((k : ℕ) → k < length v → bit w k ≡ bit v k) → bit w k ≡ bit (v ++ gate_bit v gate ∷ []) k
    agrees k (inl l) h here before = before k l ∙ sym (get_or_append_left v (gate_bit v gate ∷ []) false k l)
    agrees k (inr l) h here before =
        let e : k ≡ length v = omega (arith, length_push v (gate_bit v gate)) in
        ap (λ j. bit w j) e ∙ (here ∙ sym (get_or_push v (gate_bit v gate) false k (sym e)))

    later : (t : ℕ) → length (v ++ gate_bit v gate ∷ []) + t ≡ length v + suc t
    later t = omega (arith, length_push v (gate_bit v gate))

-- the operands, counted from the constant and the vector
pub ReadsBelow-start : (n : ℕ) (x : List Bool) (operand : Gate → ℕ) (gates : List Gate) → length x ≡ n → EachAt (λ t gate. operand gate < 1 + n + t) gates → ReadsBelow (length (false ∷ x)) operand gates
ReadsBelow-start n x operand gates len reads t d h = omega (arith, reads t d h, len)

pub valuation_of-fits : (net : Net) (x : List Bool) → IsOrdered net → length x ≡ net.inputs → Fits net x (valuation_of net x)
valuation_of-fits net x ordered len = record {
  signals = omega (arith, length-with_gates (false ∷ x) net.gates, len);
  constant = with_gates-before (false ∷ x) net.gates 0 (omega arith);
  inputs = λ i l. ap (λ k. bit (valuation_of net x) k) (one_more i) ∙ with_gates-before (false ∷ x) net.gates (suc i) (omega (arith, len));
  gates = λ t d l. ap (λ k. bit (valuation_of net x) k) (counted t) ∙ with_gates-gates (false ∷ x) net.gates (ReadsBelow-start net.inputs x first_operand net.gates len ordered.first_operands) (ReadsBelow-start net.inputs x second_operand net.gates len ordered.second_operands) t d l;
}
  where
    one_more : (i : ℕ) → 1 + i ≡ suc i
    one_more i = omega arith

    counted : (t : ℕ) → 1 + net.inputs + t ≡ length (false ∷ x) + t
    counted t = omega (arith, len)

pub valuation_of-only : (net : Net) (x v : List Bool) → IsOrdered net → length x ≡ net.inputs → Fits net x v → v ≡ valuation_of net x
valuation_of-only net x v ordered len fits =
    with_gates-only (false ∷ x) v net.gates (omega (arith, fits.signals, len)) start (ReadsBelow-start net.inputs x first_operand net.gates len ordered.first_operands) (ReadsBelow-start net.inputs x second_operand net.gates len ordered.second_operands) (λ t d l. ap (λ k. bit v k) (counted t) ∙ fits.gates t d l)
  where
    start : (k : ℕ) → k < length (false ∷ x) → bit v k ≡ bit (false ∷ x) k
    start zero l = fits.constant
    start (suc i) l =
        let e : suc i ≡ 1 + i = omega arith in
        ap (λ k. bit v k) e ∙ fits.inputs i (omega (arith, len))

    counted : (t : ℕ) → length (false ∷ x) + t ≡ 1 + net.inputs + t
    counted t = omega (arith, len)
