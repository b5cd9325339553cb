-- A cone's gates are enough for its output.
use Rattle.std.proofs.Common.{Result, Ok, Err, None, ◌≡◌, ◌↔◌, ◌==◌, cond, Bool, false, Option, Some, ℕ, zero, suc, ◌+◌, ◌-◌, ◌<◌, ◌≤◌, true, List, [], ◌∷◌, ◌++◌, length, set, All, AllPairs, Contains, slice_index_or, inl, inr, refl, sym, ap, subst, ◌∙◌, arith}
use Rattle.std.specs.Borrow.{Bor}
use Rattle.std.specs.Option.{IfSome, option_copied}
use Rattle.std.specs.Result.{OnErr, OnOk}
use Rattle.std.specs.declared.alloc.AllocError.{AllocError}
use Rattle.std.proofs.lemmas.Bool.{cases_lt}
use Rattle.std.proofs.lemmas.Bool.Decides.{Decides-eqb}
use Rattle.std.proofs.lemmas.List.{length-set, length_push, get_or_append_left, get_or_push, get_or-set_same, get_or-set_other, get_or-map, get_or_default}
use Rattle.circuits.specs.declared.netlist.Gate.{Gate}
use Rattle.circuits.specs.declared.netlist.Lit.{Lit}
use Rattle.circuits.specs.Literals.{EachAt, bit, is_negated, literal_bit, signal_of}
use Rattle.circuits.specs.Netlists.{Net, with_gates}
use Rattle.net_core.specs.Graph.{AreInOrder}
use Rattle.net_core.specs.Cones.{HasOperands, ReachesGate, output_signal}
use Rattle.net_core.specs.Values.{Operations, bits, gate_value, literal_value, with_values}
use Rattle.net_core.proofs.ValueLemmas.{with_bits}
use Rattle.claim_core.specs.Claims.{output_bit}
use Rattle.word_sim.specs.declared.tri.Tri.{Tri}
use Rattle.word_sim.specs.declared.tri.Tri.TheVariants.{X, Zero}
use Rattle.word_sim.specs.ThreeValues.{tri_literal, tri_outputs, tris, with_tri_gates}
use Rattle.ban_check.specs.Cones.{AreConeValues, AreCones, IsClosed, IsConeOf, IsWithin, cone_kept, gate_at, output_at}

-- the gates that an output reaches are such a cone
pub cone_of : (net : Net) (output : ℕ) (cone : List ℕ) → AllPairs (λ one other. one < other) cone → All (λ t. t < length net.gates) cone → ((t : ℕ) → (Contains cone t ↔ ReachesGate net output t)) → IsConeOf net output cone
cone_of net output cone ascending there reached = record {
  closed = record {
    ascending = ascending;
    there = there;
    first_operands = λ k d below late. operand (slice_index_or cone k d) (signal_of (gate_at net.gates (slice_index_or cone k d)).a) late (listed k d below) (λ set closed has. (closed (slice_index_or cone k d) _ (there k d below) has).0);
    second_operands = λ k d below late. operand (slice_index_or cone k d) (signal_of (gate_at net.gates (slice_index_or cone k d)).b) late (listed k d below) (λ set closed has. (closed (slice_index_or cone k d) _ (there k d below) has).1);
  };
  has_output = λ late. (reached (output_signal net output - (1 + net.inputs))).1 (λ set fan_in. subst (λ s. bit set s ≡ true) (at (output_signal net output) late) fan_in.output);
}
  where
    at : (s : ℕ) → 1 + net.inputs ≤ s → s ≡ 1 + net.inputs + (s - (1 + net.inputs))
    at s late = omega (arith, late)

    listed : (k : ℕ) (d : ℕ) → k < length cone → Contains cone (slice_index_or cone k d)
    listed k d below = (k, below, get_or_default cone k (slice_index_or cone k d) d below)

    operand : (t s : ℕ) → 1 + net.inputs ≤ s → Contains cone t → ((set : List Bool) → HasOperands (1 + net.inputs) net.gates set → bit set (1 + net.inputs + t) ≡ true → bit set s ≡ true) → Contains cone (s - (1 + net.inputs))
    operand t s late in_cone leads = (reached (s - (1 + net.inputs))).1 (λ set fan_in. subst (λ u. bit set u ≡ true) (at s late) (leads set fan_in.operands ((reached t).0 in_cone set fan_in)))

module _ {V : Type 0} (on : Operations V) where
  abbrev at_place : List V → ℕ → V
  at_place v s = slice_index_or v s on.absent

  pub gate_agree : (v w : List V) (gate : Gate) → at_place v (signal_of gate.a) ≡ at_place w (signal_of gate.a) → at_place v (signal_of gate.b) ≡ at_place w (signal_of gate.b) → gate_value on v gate ≡ gate_value on w gate
  gate_agree v w gate a b =
      ap (λ x. on.and (on.signed x (is_negated gate.a)) (literal_value on v gate.b)) a ∙ ap (λ x. on.and (literal_value on w gate.a) (on.signed x (is_negated gate.b))) b

  abbrev ReadsBelow : ℕ → (Gate → ℕ) → List Gate → Type 0
  ReadsBelow n operand gates = EachAt (λ t gate. operand gate < n + t) gates

  reads_tail : (v : List V) (value : V) (operand : Gate → ℕ) (gate : Gate) (gates : List Gate) → ReadsBelow (length v) operand (gate ∷ gates) → ReadsBelow (length (v ++ value ∷ [])) operand gates
  reads_tail v value operand gate gates reads t d h =
      let more : suc t < length (gate ∷ gates) = omega arith in
      omega (arith, reads (suc t) d more, length_push v value)

  -- what stands before the gates stays
  pub before_gates : (v : List V) (gates : List Gate) (k : ℕ) → k < length v → at_place (with_values on v gates) k ≡ at_place v k
  before_gates v [] k h = refl
  before_gates v (gate ∷ gates) k h =
      let value = gate_value on v gate in
      before_gates (v ++ value ∷ []) gates k (omega (arith, h, length_push v value)) ∙ get_or_append_left v (value ∷ []) on.absent k h

  -- each gate's value is given by its operands'
  pub each_gate : (v : List V) (gates : List Gate) → ReadsBelow (length v) (λ gate. signal_of gate.a) gates → ReadsBelow (length v) (λ gate. signal_of gate.b) gates → (t : ℕ) (d : Gate) → t < length gates → at_place (with_values on v gates) (length v + t) ≡ gate_value on (with_values on v gates) (slice_index_or gates t d)
  each_gate v [] a b t d h = absurd (omega arith)
  each_gate v (gate ∷ gates) a b zero d h =
      let value = gate_value on v gate in
      let next = v ++ value ∷ [] in
      let at : length v + 0 ≡ length v = omega arith in
      let here : at_place (with_values on next gates) (length v) ≡ value = before_gates next gates (length v) (omega (arith, length_push v value)) ∙ get_or_push v value on.absent (length v) refl in
      let same = gate_agree (with_values on next gates) v gate (before_gates v (gate ∷ gates) (signal_of gate.a) (omega (arith, a 0 d h))) (before_gates v (gate ∷ gates) (signal_of gate.b) (omega (arith, b 0 d h))) in
      rw at (here ∙ sym same)
  each_gate v (gate ∷ gates) a b (suc t) d h =
      let value = gate_value on v gate in
      let at : length v + suc t ≡ length (v ++ value ∷ []) + t = omega (arith, length_push v value) in
      let more : t < length gates = omega arith in
      ap (λ k. at_place (with_values on (v ++ value ∷ []) gates) k) at ∙ each_gate (v ++ value ∷ []) gates (reads_tail v value (λ g. signal_of g.a) gate gates a) (reads_tail v value (λ g. signal_of g.b) gate gates b) t d more

  module _ (first : ℕ) (gates : List Gate) (cone : List ℕ) (before : List V) (order : AreInOrder first gates) (closed : IsClosed first gates cone) (size : length before ≡ first) where
    abbrev whole : List V
    whole = with_values on before gates

    -- one of the cone's first gates has its value
    among : (values : List V) (k s : ℕ) → AreConeValues on first gates cone k before values → first ≤ s → (listed : Contains cone (s - first)) → listed.0 < k → at_place values s ≡ at_place whole s
    among values k s are late listed early =
        let at : slice_index_or cone listed.0 0 ≡ s - first = get_or_default cone listed.0 0 (s - first) listed.1 ∙ listed.2 in
        let place : first + slice_index_or cone listed.0 0 ≡ s = omega (arith, at, late) in
        subst (λ u. at_place values u ≡ at_place whole u) place (are.gates_are listed.0 early)

    -- a gate's operand
    operand : (values : List V) (k s : ℕ) → k < length cone → AreConeValues on first gates cone k before values → s < first + slice_index_or cone k 0 → IsWithin first cone s → at_place values s ≡ at_place whole s
    operand values k s below are less within =
        elim (cases_lt s first) [
          | inl early ↦ are.front s early ∙ sym (before_gates before gates s (omega (arith, early, size)))
          | inr not_early ↦
              let late : first ≤ s = omega (arith, not_early) in
              let listed = within late in
              let at : slice_index_or cone listed.0 0 ≡ s - first = get_or_default cone listed.0 0 (s - first) listed.1 ∙ listed.2 in
              elim (cases_lt listed.0 k) [
                | inl earlier ↦ among values k s are late listed earlier
                | inr not_earlier ↦
                    elim (cases_lt k listed.0) [
                      | inl later ↦ absurd (omega (arith, less, at, late, closed.ascending k listed.0 0 later listed.1))
                      | inr not_later ↦
                          let same : listed.0 ≡ k = omega (arith, not_earlier, not_later) in
                          absurd (omega (arith, less, at, late, ap (λ j. slice_index_or cone j 0) same))
                    ]
              ]
        ]

    -- the first gates are none
    pub cone_none : (values : List V) → length values ≡ first + length gates → ((s : ℕ) → s < first → at_place values s ≡ at_place before s) → AreConeValues on first gates cone 0 before values
    cone_none values room front = record {
      room = room;
      front = front;
      gates_are = λ j less. absurd (omega (arith, less));
    }

    -- the signal of the cone's gate number k, and the value that it is given
    abbrev place_of : ℕ → ℕ
    place_of k = first + slice_index_or cone k 0

    abbrev gate_of : ℕ → Gate
    gate_of k = gate_at gates (slice_index_or cone k 0)

    abbrev value_of : List V → ℕ → V
    value_of values k = gate_value on values (gate_of k)

    value_is : (values : List V) (k : ℕ) → k < length cone → AreConeValues on first gates cone k before values → value_of values k ≡ at_place whole (place_of k)
    value_is values k below are =
        let t = slice_index_or cone k 0 in
        let there : t < length gates = closed.there k 0 below in
        let a = operand values k (signal_of (gate_of k).a) below are (order.first_operands t _ there) (closed.first_operands k 0 below) in
        let b = operand values k (signal_of (gate_of k).b) below are (order.second_operands t _ there) (closed.second_operands k 0 below) in
        let given = each_gate before gates (λ u d h. omega (arith, order.first_operands u d h, size)) (λ u d h. omega (arith, order.second_operands u d h, size)) t _ there in
        gate_agree values whole (gate_of k) a b ∙ sym (subst (λ n. at_place whole (n + t) ≡ gate_value on whole (gate_of k)) size given)

    gates_more : (values : List V) (k : ℕ) → k < length cone → AreConeValues on first gates cone k before values → (j : ℕ) → j < k + 1 → at_place (set values (place_of k) (value_of values k)) (place_of j) ≡ at_place whole (place_of j)
    gates_more values k below are j less =
        elim (cases_lt j k) [
          | inl earlier ↦
              let rises : slice_index_or cone j 0 < slice_index_or cone k 0 = closed.ascending j k 0 earlier below in
              get_or-set_other values (place_of k) (place_of j) (value_of values k) on.absent (λ e. omega (arith, rises, e)) ∙ are.gates_are j earlier
          | inr not_earlier ↦
              let same : k ≡ j = omega (arith, less, not_earlier) in
              let there : slice_index_or cone k 0 < length gates = closed.there k 0 below in
              let here : at_place (set values (place_of k) (value_of values k)) (place_of k) ≡ at_place whole (place_of k) = get_or-set_same values (place_of k) (value_of values k) on.absent (omega (arith, there, are.room)) ∙ value_is values k below are in
              subst (λ i. at_place (set values (place_of k) (value_of values k)) (place_of i) ≡ at_place whole (place_of i)) same here
        ]

    -- one gate more
    pub cone_more : (values : List V) (k : ℕ) → k < length cone → AreConeValues on first gates cone k before values → AreConeValues on first gates cone (k + 1) before (set values (first + slice_index_or cone k 0) (gate_value on values (gate_at gates (slice_index_or cone k 0))))
    cone_more values k below are = record {
      room = length-set values (place_of k) (value_of values k) ∙ are.room;
      front = λ s early. get_or-set_other values (place_of k) s (value_of values k) on.absent (λ e. omega (arith, early, e)) ∙ are.front s early;
      gates_are = gates_more values k below are;
    }

    -- the same, by the gate as it was read
    pub cone_next : (values new : List V) (k t : ℕ) → k < length cone → t ≡ slice_index_or cone k 0 → new ≡ set values (first + t) (gate_value on values (gate_at gates t)) → AreConeValues on first gates cone k before values → AreConeValues on first gates cone (k + 1) before new
    cone_next values new k t below at is are =
        let new_is : new ≡ set values (place_of k) (value_of values k) = is ∙ ap (λ u. set values (first + u) (gate_value on values (gate_at gates u))) at in
        subst (λ vs. AreConeValues on first gates cone (k + 1) before vs) (sym new_is) (cone_more values k below are)

    -- the output's literal
    pub cone_literal : (values : List V) (literal : Lit) → AreConeValues on first gates cone (length cone) before values → IsWithin first cone (signal_of literal) → literal_value on values literal ≡ literal_value on whole literal
    cone_literal values literal are within =
        let s = signal_of literal in
        let at_signal : at_place values s ≡ at_place whole s =
        elim (cases_lt s first) [
          | inl early ↦ are.front s early ∙ sym (before_gates before gates s (omega (arith, early, size)))
          | inr not_early ↦
              let late : first ≤ s = omega (arith, not_early) in
              let listed = within late in
              among values (length cone) s are late listed listed.1
        ]
        in
        ap (λ x. on.signed x (is_negated literal)) at_signal

-- none is kept
pub cones_none : (net : Net) (entries : List (ℕ × List ℕ)) → entries ≡ [] → AreCones net entries
cones_none net entries none output cone is = subst (λ (es : List (ℕ × List ℕ)). cone_kept es output ≡ Some cone → IsConeOf net output cone) (sym none) (λ e. cc) is

-- one cone more is kept
pub cones_more : (net : Net) (output : ℕ) (cone : List ℕ) (before after : List (ℕ × List ℕ)) → ((other : ℕ) → cone_kept after other ≡ cond (output == other) (Some cone) (cone_kept before other)) → IsConeOf net output cone → AreCones net before → AreCones net after
cones_more net output cone before after puts new old other told is = by_test (output == other) refl
  where
    by_test : (b : Bool) → (output == other) ≡ b → IsConeOf net other told
    by_test true same =
        let outputs : output ≡ other = (Decides-eqb output other).0 same in
        let values : Some cone ≡ Some told = sym (puts other ∙ ap (λ b. cond b (Some cone) (cone_kept before other)) same) ∙ is in
        let told_is : cone ≡ told = cc in
        subst (IsConeOf net other) told_is (subst (λ n. IsConeOf net n cone) outputs new)
    by_test false differ = old other told (sym (puts other ∙ ap (λ b. cond b (Some cone) (cone_kept before other)) differ) ∙ is)

-- the same, whatever keeping it came to
pub cones_kept : (net : Net) (output : ℕ) (cone : List ℕ) (before after : List (ℕ × List ℕ)) (r : Result (Unit {0}) AllocError) → OnOk r ((other : ℕ) → cone_kept after other ≡ cond (output == other) (Some cone) (cone_kept before other)) → OnErr r (after ≡ before) → IsConeOf net output cone → AreCones net before → AreCones net after
cones_kept net output cone before after (Ok done) puts same is old = cones_more net output cone before after puts is old
cones_kept net output cone before after (Err e) puts same is old = subst (AreCones net) (sym same) old

-- what a look-up says
pub got_cone : (entries : List (ℕ × List ℕ)) (output : ℕ) (r : Option (Bor (List ℕ))) → option_copied r ≡ cone_kept entries output → IfSome r (λ cone. cone_kept entries output ≡ Some cone.now)
got_cone entries output None is = tt
got_cone entries output (Some cone) is = sym is

-- an output's bit, and its value
pub bit_is : (net : Net) (k : ℕ) (x : List Bool) → k < length net.outputs → literal_value bits (with_values bits (false ∷ x) net.gates) (output_at net k) ≡ output_bit net k x
bit_is net k x there =
    let none : Lit = record { 0 = 0 } in
    ap (λ (v : List Bool). literal_value bits v (output_at net k)) (with_bits (false ∷ x) net.gates) ∙ sym (get_or-map (literal_bit (with_gates (false ∷ x) net.gates)) net.outputs k none false there)

pub tri_is : (net : Net) (k : ℕ) (x : List Tri) → k < length net.outputs → literal_value tris (with_values tris (Zero ∷ x) net.gates) (output_at net k) ≡ slice_index_or (tri_outputs net x) k X
tri_is net k x there =
    let none : Lit = record { 0 = 0 } in
    sym (get_or-map (tri_literal (with_tri_gates (Zero ∷ x) net.gates)) net.outputs k none X there)
