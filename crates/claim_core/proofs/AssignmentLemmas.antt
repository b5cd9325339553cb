-- A vector that is asked for is that of an assignment that meets the clauses: the vector itself, and the bits of all gates.
use Rattle.std.proofs.Common.{[], ◌≡◌, ℕ, zero, suc, ◌+◌, ◌-◌, ◌<◌, ◌&&◌, ◌||◌, not, cond, Bool, true, false, List, ◌∷◌, ◌++◌, length, map, drop, All, slice_index_or, inl, inr, refl, sym, ◌∙◌, ap, subst, arith, ext_get_or}
use Rattle.std.specs.List.{range_with_len}
use Rattle.std.proofs.lemmas.Bool.{cases_lt, cases_Bool, or_parts}
use Rattle.std.proofs.lemmas.List.{get_or-map, get_or_append_left, get_or-append-add, get_or_push, length_push, get_or-drop, length-map, length-drop}
use Rattle.std.proofs.lemmas.List.Elements.{All-from_recursion}
use Rattle.std.proofs.lemmas.List.FromFn.{length-range_with_len, get_or-range_with_len, get_or-map-range_with_len, length-map-range_with_len}
use Rattle.circuits.specs.declared.netlist.Lit.{Lit}
use Rattle.circuits.specs.declared.netlist.Gate.{Gate}
use Rattle.circuits.specs.Literals.{bit, differ, signal_of, is_negated as inverts, literal_bit as signal_bit}
use Rattle.circuits.specs.Netlists.{Net, IsOrdered, Fits, gate_bit, with_gates, valuation_of, function_of}
use Rattle.circuits.proofs.Valuations.{ReadsBelow, ReadsBelow-tail, ReadsBelow-start, first_operand, second_operand, length-with_gates, valuation_of-fits}
use Rattle.cnf_core.specs.declared.literal.SatLit.{SatLit}
use Rattle.cnf_core.specs.Clauses.{Meets, is_met, literal_bit, opposite}
use Rattle.cnf_core.proofs.DerivationLaws.{opposite_bit}
use Rattle.net_core.specs.Sides.{Graphs}
use Rattle.net_core.specs.declared.graphs.Side.{Side}
use Rattle.net_core.specs.declared.graphs.Side.TheVariants.{First, Second}
use Rattle.net_core.specs.Graph.{IsGraph}
use Rattle.net_core.specs.Sides.{graph_of}
use Rattle.claim_core.specs.declared.query.Feed.{Feed}
use Rattle.claim_core.specs.declared.query.Query.{Query}
use Rattle.claim_core.specs.Queries.{feed_bit, fed, circuit_of, bits_in, vector_in, IsWired, IsQuery, MeetsQuery}
use Rattle.claim_core.specs.Formulas.{signal_literals, stand_in, stands_for, and_clauses, gate_clauses, half_clauses, same_feed, feeds_differ, reaching, reaches, shared_from, same_side, left_variables, right_variables, left_literals, right_literals, output_literal, query_clauses}
use Rattle.claim_core.proofs.EqualLemmas.{same_feeds}
use Rattle.claim_core.proofs.FormulaLemmas.{signal_count, right_variable_count, reached_count, recursion-append, stand_in_gate, length-feeds_differ}
use Rattle.claim_core.proofs.LawLemmas.{AreMet, input_bit, literal_of_bit, is_itself, false_there, signal_there, literal_there, ordered_side}
use borrow.Author.Tests.{not-false}

-- v is the AND of a and b: its three clauses are met
gate_holds : (a : List Bool) (v l m : SatLit) → literal_bit a v ≡ (literal_bit a l && literal_bit a m) → AreMet a (and_clauses v l m)
gate_holds a v l m e =
    let p = literal_bit a v in
    let q = literal_bit a l in
    let r = literal_bit a m in
    let three = by_bits p q r e in
    (ap (λ t. t || (q || false)) (opposite_bit a v) ∙ three.0, (ap (λ t. t || (r || false)) (opposite_bit a v) ∙ three.1, (ap (λ t. p || (t || (literal_bit a (opposite m) || false))) (opposite_bit a l) ∙ (ap (λ t. p || (not q || (t || false))) (opposite_bit a m) ∙ three.2), tt)))
  where
    by_bits : (p q r : Bool) → p ≡ (q && r) → ((not p || (q || false)) ≡ true) × ((not p || (r || false)) ≡ true) × ((p || (not q || (not r || false))) ≡ true)
    by_bits true true true e = (refl, refl, refl)
    by_bits true true false e = cc
    by_bits true false r e = cc
    by_bits false true true e = cc
    by_bits false true false e = (refl, refl, refl)
    by_bits false false r e = (refl, refl, refl)

gates_hold : (a : List Bool) (literals : List SatLit) (first : ℕ) (gates : List Gate) → ((t : ℕ) (d : Gate) → t < length gates → literal_bit a (stand_in literals (first + t)) ≡ (literal_bit a (stands_for literals (slice_index_or gates t d).a) && literal_bit a (stands_for literals (slice_index_or gates t d).b))) → AreMet a (gate_clauses literals first gates)
gates_hold a literals first [] each = tt
gates_hold a literals first (gate ∷ gates) each =
    let at : first ≡ first + 0 = omega arith in
    let here : literal_bit a (stand_in literals first) ≡ (literal_bit a (stands_for literals gate.a) && literal_bit a (stands_for literals gate.b)) = ap (λ s. literal_bit a (stand_in literals s)) at ∙ each 0 gate (omega arith) in
    let three = gate_holds a (stand_in literals first) (stands_for literals gate.a) (stands_for literals gate.b) here in
    let rest = gates_hold a literals (first + 1) gates (λ t d within.
    let next : first + 1 + t ≡ first + suc t = omega arith in
    ap (λ s. literal_bit a (stand_in literals s)) next ∙ each (suc t) d (omega (arith, within))) in
    (three.0, (three.1.0, (three.1.1.0, rest)))

-- the literal that stands for a signal has the signal's bit
abbrev HasBit : List Bool → List SatLit → List Bool → ℕ → Type 0
HasBit a literals v s = bit (map (literal_bit a) literals) s ≡ bit v s

-- the literals of a circuit's signals have the bits of a valuation that fits what its inputs get
literals_hold : (a : List Bool) (n : ℕ) (net : Net) (feed : List Feed) (variables : List ℕ) (v : List Bool) → Fits net (map (feed_bit (vector_in n a)) feed) v → bit a 0 ≡ true → net.inputs ≡ n → length feed ≡ n → length variables ≡ length net.gates → All (IsWired n) feed → ((t : ℕ) → t < length net.gates → bit a (slice_index_or variables t 0) ≡ bit v (1 + net.inputs + t)) → map (literal_bit a) (signal_literals feed variables) ≡ v
literals_hold a n net feed variables v is first inputs feeds gates wired own =
    let literals = signal_literals feed variables in
    let count = signal_count feed variables in
    ext_get_or false (map (literal_bit a) literals) v (omega (arith, length-map literals (literal_bit a), count, is.signals, inputs, feeds, gates)) (λ s below. at s (omega (arith, below, length-map literals (literal_bit a), count, feeds, gates)))
  where
    at_input : (i : ℕ) → i < n → HasBit a (signal_literals feed variables) v (suc i)
    at_input i within =
        let next : 1 + i ≡ suc i = omega arith in
        signal_there a (signal_literals feed variables) (suc i) first
        ∙ (input_bit a n feed variables i first wired (omega (arith, within, feeds)) ∙ (sym (is.inputs i (omega (arith, within, inputs))) ∙ ap (bit v) next))

    at_gate : (t : ℕ) → t < length net.gates → HasBit a (signal_literals feed variables) v (suc (length feed + t))
    at_gate t within =
        let next : 1 + net.inputs + t ≡ suc (length feed + t) = omega (arith, inputs, feeds) in
        signal_there a (signal_literals feed variables) (suc (length feed + t)) first
        ∙ (ap (literal_bit a) (stand_in_gate feed variables t (omega (arith, within, gates)))
        ∙ (literal_of_bit a (slice_index_or variables t 0) true ∙ (sym (is_itself (bit a (slice_index_or variables t 0))) ∙ (own t within ∙ ap (bit v) next))))

    at : (s : ℕ) → s < 1 + n + length net.gates → HasBit a (signal_literals feed variables) v s
    at zero below = signal_there a (signal_literals feed variables) 0 first ∙ (false_there a first ∙ sym is.constant)
    at (suc i) below =
        elim (cases_lt i n) [
          | inl input ↦ at_input i input
          | inr gate ↦
              let e : suc (length feed + (i - n)) ≡ suc i = omega (arith, gate, feeds) in
              subst (HasBit a (signal_literals feed variables) v) e (at_gate (i - n) (omega (arith, gate, below)))
        ]

-- the clauses of such a circuit's gates are met, and that of its output where it has its value
half_holds : (a : List Bool) (net : Net) (literals : List SatLit) (x v : List Bool) → Fits net x v → bit a 0 ≡ true → map (literal_bit a) literals ≡ v → AreMet a (half_clauses net literals)
half_holds a net literals x v is first same =
    gates_hold a literals (net.inputs + 1) net.gates (λ t d within.
    let gate = slice_index_or net.gates t d in
    let at : net.inputs + 1 + t ≡ 1 + net.inputs + t = omega arith in
    sym (signal_there a literals (net.inputs + 1 + t) first)
    ∙ (ap (bit (map (literal_bit a) literals)) at
    ∙ (ap (λ w. bit w (1 + net.inputs + t)) same
    ∙ (is.gates t d within
    ∙ (ap (λ w. gate_bit w gate) (sym same)
    ∙ (ap (λ b. b && signal_bit (map (literal_bit a) literals) gate.b) (literal_there a literals gate.a first) ∙ ap (λ b. literal_bit a (stands_for literals gate.a) && b) (literal_there a literals gate.b first)))))))

output_holds : (a : List Bool) (net : Net) (literals : List SatLit) (x : List Bool) (output : ℕ) (value : Bool) → bit a 0 ≡ true → map (literal_bit a) literals ≡ valuation_of net x → output < length net.outputs → bit (function_of net x) output ≡ value → is_met a (output_literal net literals output value ∷ []) ≡ true
output_holds a net literals x output value first same there given =
    let none : Lit = record { 0 = 0 } in
    let last = slice_index_or net.outputs output none in
    let bit_is : literal_bit a (stands_for literals last) ≡ value =
    sym (literal_there a literals last first) ∙ (ap (λ v. signal_bit v last) same ∙ (sym (get_or-map (signal_bit (valuation_of net x)) net.outputs output none false there) ∙ given)) in
    by_value value (stands_for literals last) bit_is
  where
    by_value : (b : Bool) (l : SatLit) → literal_bit a l ≡ b → is_met a (cond b l (opposite l) ∷ []) ≡ true
    by_value true l e = ap (λ t. t || false) e
    by_value false l e = ap (λ t. t || false) (opposite_bit a l ∙ ap not e)

pub gate_agrees : (v w : List Bool) (gate : Gate) → bit v (signal_of gate.a) ≡ bit w (signal_of gate.a) → bit v (signal_of gate.b) ≡ bit w (signal_of gate.b) → gate_bit v gate ≡ gate_bit w gate
gate_agrees v w gate one other =
    ap (λ y. differ y (inverts gate.a) && signal_bit v gate.b) one ∙ ap (λ y. signal_bit w gate.a && differ y (inverts gate.b)) other

-- bits agree wherever a flag is false
abbrev Agree : List Bool → List Bool → List Bool → Type 0
Agree flags v w = (s : ℕ) → s < length v → bit flags s ≡ false → bit v s ≡ bit w s

agree_more : (flags v w : List Bool) (gate : Gate) → length flags ≡ length v → length w ≡ length v → first_operand gate < length v → second_operand gate < length v → Agree flags v w → Agree (flags ++ (bit flags (signal_of gate.a) || bit flags (signal_of gate.b)) ∷ []) (v ++ gate_bit v gate ∷ []) (w ++ gate_bit w gate ∷ [])
agree_more flags v w gate lf lw a b same s below free =
    let flag = bit flags (signal_of gate.a) || bit flags (signal_of gate.b) in
    elim (cases_lt s (length v)) [
      | inl before ↦
          get_or_append_left v (gate_bit v gate ∷ []) false s before
          ∙ (same s before (sym (get_or_append_left flags (flag ∷ []) false s (omega (arith, before, lf))) ∙ free) ∙ sym (get_or_append_left w (gate_bit w gate ∷ []) false s (omega (arith, before, lw))))
      | inr last ↦
          let here : s ≡ length v = omega (arith, last, below, length_push v (gate_bit v gate)) in
          let here_w : s ≡ length w = omega (arith, here, lw) in
          let here_f : s ≡ length flags = omega (arith, here, lf) in
          let neither = or_parts (bit flags (signal_of gate.a)) (bit flags (signal_of gate.b)) (sym (get_or_push flags flag false s (sym here_f)) ∙ free) in
          get_or_push v (gate_bit v gate) false s (sym here)
          ∙ (gate_agrees v w gate (same (signal_of gate.a) a neither.0) (same (signal_of gate.b) b neither.1) ∙ sym (get_or_push w (gate_bit w gate) false s (sym here_w)))
    ]

agree_through : (flags v w : List Bool) (gates : List Gate) → length flags ≡ length v → length w ≡ length v → ReadsBelow (length v) first_operand gates → ReadsBelow (length v) second_operand gates → Agree flags v w → Agree (reaching flags gates) (with_gates v gates) (with_gates w gates)
agree_through flags v w [] lf lw a b same = same
agree_through flags v w (gate ∷ gates) lf lw a b same =
    let flag = bit flags (signal_of gate.a) || bit flags (signal_of gate.b) in
    let one : first_operand gate < length v = omega (arith, a 0 gate (omega arith)) in
    let other : second_operand gate < length v = omega (arith, b 0 gate (omega arith)) in
    agree_through (flags ++ flag ∷ []) (v ++ gate_bit v gate ∷ []) (w ++ gate_bit w gate ∷ []) gates (omega (arith, lf, length_push flags flag, length_push v (gate_bit v gate))) (omega (arith, lw, length_push w (gate_bit w gate), length_push v (gate_bit v gate))) (ReadsBelow-tail v (gate_bit v gate) first_operand gate gates a) (ReadsBelow-tail v (gate_bit v gate) second_operand gate gates b) (agree_more flags v w gate lf lw one other same)

-- feeds that are the same give the same bit
feeds_agree : (x : List Bool) (left right : List Feed) (i : ℕ) → length left ≡ length right → i < length left → bit (feeds_differ left right) i ≡ false → bit (map (feed_bit x) left) i ≡ bit (map (feed_bit x) right) i
feeds_agree x [] right i same below free = absurd (omega (arith, below))
feeds_agree x (feed ∷ left) [] i same below free = absurd (omega (arith, same))
feeds_agree x (feed ∷ left) (other ∷ right) zero same below free = ap (feed_bit x) (same_feeds feed other (not-false (same_feed feed other) free))
feeds_agree x (feed ∷ left) (other ∷ right) (suc i) same below free = feeds_agree x left right i (omega (arith, same)) (omega (arith, below)) free

start_agrees : (x : List Bool) (left right : List Feed) → length left ≡ length right → Agree (false ∷ feeds_differ left right) (false ∷ map (feed_bit x) left) (false ∷ map (feed_bit x) right)
start_agrees x left right same zero below free = refl
start_agrees x left right same (suc i) below free = feeds_agree x left right i same (omega (arith, below, length-map left (feed_bit x))) free

valuations_agree : (net : Net) (x : List Bool) (left right : List Feed) → IsOrdered net → length left ≡ net.inputs → length right ≡ net.inputs → Agree (reaching (false ∷ feeds_differ left right) net.gates) (valuation_of net (map (feed_bit x) left)) (valuation_of net (map (feed_bit x) right))
valuations_agree net x left right ordered l r =
    let same : length left ≡ length right = l ∙ sym r in
    let y = map (feed_bit x) left in
    let z = map (feed_bit x) right in
    let inputs : length y ≡ net.inputs = length-map left (feed_bit x) ∙ l in
    agree_through (false ∷ feeds_differ left right) (false ∷ y) (false ∷ z) net.gates (omega (arith, length-feeds_differ left right same, length-map left (feed_bit x))) (omega (arith, length-map left (feed_bit x), length-map right (feed_bit x), same)) (ReadsBelow-start net.inputs y first_operand net.gates inputs ordered.first_operands) (ReadsBelow-start net.inputs y second_operand net.gates inputs ordered.second_operands) (start_agrees x left right same)

-- the variable of a gate that may be shared
pub shared_at : (first own : ℕ) (flags : List Bool) (t : ℕ) → t < length flags → slice_index_or (shared_from first own flags) t 0 ≡ cond (bit flags t) (own + t) (first + t)
shared_at first own [] t below = absurd (omega (arith, below))
shared_at first own (true ∷ flags) zero below = omega arith
shared_at first own (false ∷ flags) zero below = omega arith
shared_at first own (flag ∷ flags) (suc t) below =
    shared_at (first + 1) (own + 1) flags t (omega (arith, below)) ∙ moved (bit flags t)
  where
    moved : (b : Bool) → cond b (own + 1 + t) (first + 1 + t) ≡ cond b (own + suc t) (first + suc t)
    moved true = omega arith
    moved false = omega arith

-- the vector, and the bits of the gates of both circuits
abbrev assigned : ℕ → List Bool → List Bool → List Bool → List Bool
assigned n x v w = true ∷ (x ++ (drop (1 + n) v ++ drop (1 + n) w))

assigned_input : (n : ℕ) (x v w : List Bool) (i : ℕ) → length x ≡ n → i < n → bit (assigned n x v w) (1 + i) ≡ bit x i
assigned_input n x v w i same below =
    let next : 1 + i ≡ suc i = omega arith in
    ap (bit (assigned n x v w)) next ∙ get_or_append_left x (drop (1 + n) v ++ drop (1 + n) w) false i (omega (arith, same, below))

assigned_left : (n : ℕ) (x v w : List Bool) (t : ℕ) → length x ≡ n → 1 + n + t < length v → bit (assigned n x v w) (n + 1 + t) ≡ bit v (1 + n + t)
assigned_left n x v w t same below =
    let next : n + 1 + t ≡ suc (length x + t) = omega (arith, same) in
    ap (bit (assigned n x v w)) next
    ∙ (get_or-append-add x (drop (1 + n) v ++ drop (1 + n) w) t false
    ∙ (get_or_append_left (drop (1 + n) v) (drop (1 + n) w) false t (omega (arith, length-drop (1 + n) v, below)) ∙ get_or-drop (1 + n) v t false))

assigned_right : (n gates : ℕ) (x v w : List Bool) (t : ℕ) → length x ≡ n → length v ≡ 1 + n + gates → bit (assigned n x v w) (n + 1 + gates + t) ≡ bit w (1 + n + t)
assigned_right n gates x v w t same count =
    let next : n + 1 + gates + t ≡ suc (length x + (length (drop (1 + n) v) + t)) = omega (arith, same, length-drop (1 + n) v, count) in
    ap (bit (assigned n x v w)) next
    ∙ (get_or-append-add x (drop (1 + n) v ++ drop (1 + n) w) (length (drop (1 + n) v) + t) false
    ∙ (get_or-append-add (drop (1 + n) v) (drop (1 + n) w) t false ∙ get_or-drop (1 + n) w t false))

assigned_vector : (n : ℕ) (x v w : List Bool) → length x ≡ n → vector_in n (assigned n x v w) ≡ x
assigned_vector n x v w same =
    let a = assigned n x v w in
    ext_get_or false (vector_in n a) x (length-map-range_with_len (λ i. bit a (1 + i)) 0 n ∙ sym same) (λ i below.
    let here : i < n = omega (arith, below, length-map-range_with_len (λ i. bit a (1 + i)) 0 n) in
    get_or-map-range_with_len (λ i. bit a (1 + i)) 0 n i i false here (omega arith) ∙ assigned_input n x v w i same here)

-- the variable of each right gate has its bit
chosen_bit : (s : Bool) (a flags w : List Bool) (n own count : ℕ) → length flags ≡ n + 1 + count → ((t : ℕ) → t < count → bit a (own + t) ≡ bit w (1 + n + t)) → ((t : ℕ) → s ≡ true → t < count → bit flags (n + 1 + t) ≡ false → bit a (n + 1 + t) ≡ bit w (1 + n + t)) → (t : ℕ) → t < count → bit a (slice_index_or (cond s (shared_from (n + 1) own (drop (n + 1) flags)) (range_with_len own count)) t 0) ≡ bit w (1 + n + t)
chosen_bit false a flags w n own count whole of_own of_shared t below =
    ap (bit a) (get_or-range_with_len own count t 0 below) ∙ of_own t below
chosen_bit true a flags w n own count whole of_own of_shared t below =
    ap (bit a) (shared_at (n + 1) own (drop (n + 1) flags) t (omega (arith, length-drop (n + 1) flags, whole, below)))
    ∙ elim (cases_Bool (bit (drop (n + 1) flags) t)) [
      | inl set ↦ ap (λ b. bit a (cond b (own + t) (n + 1 + t))) set ∙ of_own t below
      | inr free ↦ ap (λ b. bit a (cond b (own + t) (n + 1 + t))) free ∙ of_shared t refl below (sym (get_or-drop (n + 1) flags t false) ∙ free)
    ]

pub one_side : (left right : Side) → same_side left right ≡ true → left ≡ right
one_side First First same = refl
one_side First Second same = cc
one_side Second First same = cc
one_side Second Second same = refl

-- a vector that is asked for is that of an assignment that meets the clauses
pub assignment_there : (graphs : Graphs) (query : Query) (x : List Bool) → IsGraph graphs.first → IsGraph graphs.second → IsQuery graphs query → length x ≡ bits_in graphs query → MeetsQuery graphs query x → (a : List Bool) × Meets a (query_clauses graphs query) × (vector_in (bits_in graphs query) a ≡ x)
assignment_there graphs query x first second fits same meets =
    let n = bits_in graphs query in
    let left = circuit_of graphs query.left in
    let right = circuit_of graphs query.right in
    let ls = left_literals graphs query in
    let rs = right_literals graphs query in
    let y = fed x query.left in
    let z = fed x query.right in
    let v = valuation_of left y in
    let w = valuation_of right z in
    let a = assigned n x v w in
    let ly : length y ≡ left.inputs = length-map query.left.feed (feed_bit x) ∙ fits.left.feed in
    let lz : length z ≡ right.inputs = length-map query.right.feed (feed_bit x) ∙ (fits.right.feed ∙ sym fits.right.inputs) in
    let lo = ordered_side graphs query.left.side first second in
    let ro = ordered_side graphs query.right.side first second in
    let vector = assigned_vector n x v w same in
    let fv = valuation_of-fits left y lo ly in
    let fw = valuation_of-fits right z ro lz in
    let fv' = subst (λ u. Fits left (map (feed_bit u) query.left.feed) v) (sym vector) fv in
    let fw' = subst (λ u. Fits right (map (feed_bit u) query.right.feed) w) (sym vector) fw in
    let count : length v ≡ 1 + n + length left.gates = fv.signals in
    let left_bits : (t : ℕ) → t < length left.gates → bit a (n + 1 + t) ≡ bit v (1 + n + t) = λ t below. assigned_left n x v w t same (omega (arith, count, below)) in
    let right_own : (t : ℕ) → t < length right.gates → bit a (n + 1 + length left.gates + t) ≡ bit w (1 + n + t) = λ t below. assigned_right n (length left.gates) x v w t same count in
    let flags = reaches query right.gates in
    let feeds : length query.left.feed ≡ length query.right.feed = fits.left.feed ∙ sym fits.right.feed in
    let whole : length flags ≡ n + 1 + length right.gates = omega (arith, reached_count query right.gates feeds, fits.left.feed) in
    let shared : (t : ℕ) → same_side query.left.side query.right.side ≡ true → t < length right.gates → bit flags (n + 1 + t) ≡ false → bit a (n + 1 + t) ≡ bit w (1 + n + t) = λ t one below free.
    let sides = one_side query.left.side query.right.side one in
    let net : left ≡ right = ap (graph_of graphs) sides in
    let at : n + 1 + t ≡ 1 + n + t = omega arith in
    let within : t < length left.gates = omega (arith, below, ap (λ (m : Net). length m.gates) net) in
    let agree : bit (valuation_of right y) (1 + n + t) ≡ bit w (1 + n + t) = valuations_agree right x query.left.feed query.right.feed ro (omega (arith, fits.left.feed, fits.right.inputs)) (omega (arith, fits.right.feed, fits.right.inputs)) (1 + n + t) (omega (arith, length-with_gates (false ∷ y) right.gates, length-map query.left.feed (feed_bit x), fits.left.feed, below)) (sym (ap (bit flags) at) ∙ free) in
    left_bits t within ∙ (ap (λ (m : Net). bit (valuation_of m y) (1 + n + t)) net ∙ agree) in
    let left_own : (t : ℕ) → t < length left.gates → bit a (slice_index_or (left_variables graphs query) t 0) ≡ bit v (1 + left.inputs + t) = λ t below. ap (bit a) (get_or-range_with_len (n + 1) (length left.gates) t 0 below) ∙ left_bits t below in
    let right_all : (t : ℕ) → t < length right.gates → bit a (slice_index_or (right_variables graphs query) t 0) ≡ bit w (1 + right.inputs + t) = λ t below.
    let at : 1 + n + t ≡ 1 + right.inputs + t = omega (arith, fits.right.inputs) in
    chosen_bit (same_side query.left.side query.right.side) a flags w n (n + 1 + length left.gates) (length right.gates) whole right_own shared t below ∙ ap (bit w) at in
    let lv = literals_hold a n left query.left.feed (left_variables graphs query) v fv' refl refl fits.left.feed (length-range_with_len (n + 1) (length left.gates)) fits.left.wires left_own in
    let rv = literals_hold a n right query.right.feed (right_variables graphs query) w fw' refl fits.right.inputs fits.right.feed (right_variable_count graphs query fits) fits.right.wires right_all in
    let outputs : AreMet a ((output_literal left ls query.left.output query.left_value ∷ []) ∷ (output_literal right rs query.right.output query.right_value ∷ []) ∷ []) =
    (output_holds a left ls y query.left.output query.left_value refl lv fits.left.output meets.left, (output_holds a right rs z query.right.output query.right_value refl rv fits.right.output meets.right, tt)) in
    let all : AreMet a (query_clauses graphs query) =
    (ap (λ t. t || false) (literal_of_bit a 0 true), recursion-append (λ clause. is_met a clause ≡ true) (half_clauses left ls) _ (half_holds a left ls y v fv refl lv) (recursion-append (λ clause. is_met a clause ≡ true) (half_clauses right rs) _ (half_holds a right rs z w fw refl rv) outputs)) in
    (a, All-from_recursion (λ clause. is_met a clause ≡ true) (query_clauses graphs query) all, vector)
