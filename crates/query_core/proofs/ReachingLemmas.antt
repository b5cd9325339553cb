-- Which signals reach an input whose feeds differ: all of them, and those of one cone.
use Rattle.std.proofs.Common.{not, take, ◌≢◌, if◌then◌else◌, ◌≡◌, ℕ, zero, suc, ◌+◌, ◌-◌, ◌<◌, ◌≤◌, ◌||◌, Bool, true, false, List, [], ◌∷◌, ◌++◌, length, set, All, slice_index_or, inl, inr, refl, sym, ap, subst, ◌∙◌, arith}
use Rattle.std.proofs.lemmas.Bool.{cases_lt}
use Rattle.std.proofs.lemmas.List.{ext_get_or, get_or-set_same, get_or-set_other, get_or-take, get_or_append_left, get_or_default, get_or_push, length-set, length-take-le, length_push}
use Rattle.circuits.specs.declared.netlist.Gate.{Gate}
use Rattle.circuits.specs.Literals.{bit, signal_of}
use Rattle.circuits.specs.Netlists.{Net}
use Rattle.net_core.specs.Graph.{AreInOrder, IsGraph}
use Rattle.net_core.specs.Cones.{Reaches, ReachesGate}
use Rattle.bit_list.proofs.MarkLemmas.{marked_where}
use Rattle.claim_core.specs.declared.query.Feed.{Feed}
use Rattle.claim_core.specs.contracts.query.FeedPartialEq.TheImpl.{eq-value as feed_eq}
use Rattle.claim_core.specs.Formulas.{feeds_differ, reaching, same_feed}
use Rattle.claim_core.specs.ConeClauses.{AreReached}
use Rattle.claim_core.proofs.EqualLemmas.{feed_same}
use Rattle.claim_core.proofs.ConeLaws.{first_reached, second_reached}
use Rattle.claim_core.proofs.FormulaLemmas.{length-feeds_differ}

-- the first signals stay
pub reaching_keeps : (so_far : List Bool) (gates : List Gate) (s : ℕ) → s < length so_far → bit (reaching so_far gates) s ≡ bit so_far s
reaching_keeps so_far [] s below = refl
reaching_keeps so_far (gate ∷ gates) s below =
    let last = bit so_far (signal_of gate.a) || bit so_far (signal_of gate.b) in
    reaching_keeps (so_far ++ last ∷ []) gates s (omega (arith, below, length_push so_far last)) ∙ get_or_append_left so_far (last ∷ []) false s below

-- a gate reaches what one of its operands reaches
pub reaching_at : (so_far : List Bool) (gates : List Gate) (t : ℕ) (d : Gate) → AreInOrder (length so_far) gates → t < length gates → bit (reaching so_far gates) (length so_far + t) ≡ (bit (reaching so_far gates) (signal_of (slice_index_or gates t d).a) || bit (reaching so_far gates) (signal_of (slice_index_or gates t d).b))
reaching_at so_far [] t d order within = absurd (omega (arith, within))
reaching_at so_far (gate ∷ gates) zero d order within =
    let a = signal_of gate.a in
    let b = signal_of gate.b in
    let last = bit so_far a || bit so_far b in
    let more = so_far ++ last ∷ [] in
    let size = length_push so_far last in
    let low_a : a < length so_far = omega (arith, order.first_operands 0 d within) in
    let low_b : b < length so_far = omega (arith, order.second_operands 0 d within) in
    let here : bit (reaching more gates) (length so_far + 0) ≡ last = reaching_keeps more gates (length so_far + 0) (omega (arith, size)) ∙ get_or_push so_far last false (length so_far + 0) (omega arith) in
    let is_a : bit (reaching more gates) a ≡ bit so_far a = reaching_keeps more gates a (omega (arith, size, low_a)) ∙ get_or_append_left so_far (last ∷ []) false a low_a in
    let is_b : bit (reaching more gates) b ≡ bit so_far b = reaching_keeps more gates b (omega (arith, size, low_b)) ∙ get_or_append_left so_far (last ∷ []) false b low_b in
    here ∙ sym (ap (λ x. x || bit (reaching more gates) b) is_a ∙ ap (λ y. bit so_far a || y) is_b)
reaching_at so_far (gate ∷ gates) (suc t) d order within =
    let last = bit so_far (signal_of gate.a) || bit so_far (signal_of gate.b) in
    let more = so_far ++ last ∷ [] in
    let size : length more ≡ length so_far + 1 = length_push so_far last in
    let at : length so_far + suc t ≡ length more + t = omega (arith, size) in
    let rest : AreInOrder (length more) gates = record {
      first_operands = λ k e less. omega (arith, size, order.first_operands (suc k) e (omega (arith, less)));
      second_operands = λ k e less. omega (arith, size, order.second_operands (suc k) e (omega (arith, less)));
    } in
    ap (bit (reaching more gates)) at ∙ reaching_at more gates t d rest (omega (arith, within))

-- where the feeds of an input differ
pub differ_at : (left right : List Feed) (i : ℕ) (d e : Feed) → length left ≡ length right → i < length left → bit (feeds_differ left right) i ≡ not (same_feed (slice_index_or left i d) (slice_index_or right i e))
differ_at [] right i d e same within = absurd (omega (arith, within))
differ_at (feed ∷ left) [] i d e same within = absurd (omega (arith, same))
differ_at (feed ∷ left) (other ∷ right) zero d e same within = refl
differ_at (feed ∷ left) (other ∷ right) (suc i) d e same within = differ_at left right i d e (omega (arith, same)) (omega (arith, within))

pub input_differs : (left right : List Feed) (i : ℕ) (f g : Feed) (b : Bool) → length left ≡ length right → i < length left → f ≡ slice_index_or left i f → g ≡ slice_index_or right i g → b ≡ not (feed_eq.it f g) → b ≡ bit (feeds_differ left right) i
input_differs left right i f g b same within f_is g_is b_is =
    b_is ∙ (ap not (feed_same f g) ∙ (ap (λ x. not (same_feed x g)) f_is ∙ (ap (λ y. not (same_feed (slice_index_or left i f) y)) g_is ∙ sym (differ_at left right i f g same within))))

-- The first inputs are marked right, and nothing after them.
pub record AreDiffering (left right : List Feed) (signals count : ℕ) (marked : List Bool) : Type 0 where
  pub size : length marked ≡ signals
  pub before : (s : ℕ) → s < count + 1 → bit marked s ≡ bit (false ∷ feeds_differ left right) s
  pub rest : (s : ℕ) → count < s → bit marked s ≡ false

-- one input more
pub differing_more : (left right : List Feed) (signals i : ℕ) (is_so : Bool) (marked new : List Bool) → length left < signals → i < length left → is_so ≡ bit (feeds_differ left right) i → new ≡ (if is_so then set marked (i + 1) true else marked) → AreDiffering left right signals i marked → AreDiffering left right signals (i + 1) new
differing_more left right signals i is_so marked new room within is new_is differing = subst (AreDiffering left right signals (i + 1)) (sym (new_is ∙ marked_where marked (i + 1) is_so (differing.rest (i + 1) (omega arith)))) (record {
  size = length-set marked (i + 1) is_so ∙ differing.size;
  before = λ s below. elim (cases_lt s (i + 1)) [
    | inl earlier ↦ get_or-set_other marked (i + 1) s is_so false (λ e. omega (arith, e, earlier)) ∙ differing.before s earlier
    | inr late ↦
        let e : s ≡ suc i = omega (arith, late, below) in
        let e' : s ≡ i + 1 = omega (arith, e) in
        ap (bit (set marked (i + 1) is_so)) e' ∙ (get_or-set_same marked (i + 1) is_so false (omega (arith, room, within, differing.size)) ∙ (is ∙ sym (ap (bit (false ∷ feeds_differ left right)) e)))
  ];
  rest = λ s above. get_or-set_other marked (i + 1) s is_so false (λ e. omega (arith, e, above)) ∙ differing.rest s (omega (arith, above));
})

pub differing_whole : (left right : List Feed) (signals : ℕ) (marked : List Bool) → length left ≡ length right → length left < signals → AreDiffering left right signals (length left) marked → take (length left + 1) marked ≡ false ∷ feeds_differ left right
differing_whole left right signals marked same room differing =
    let n = length left + 1 in
    let size = length-take-le n marked (omega (arith, room, differing.size)) in
    ext_get_or false (take n marked) (false ∷ feeds_differ left right) (omega (arith, size, length-feeds_differ left right same)) (λ s below.
    let low : s < n = omega (arith, below, size) in
    get_or-take n marked s false low ∙ differing.before s low)

-- The constant, the inputs and the first gates of a cone are marked right, and no other gate is marked.
pub record AreMarking (net : Net) (start : List Bool) (gates : List ℕ) (count : ℕ) (marked : List Bool) : Type 0 where
  pub size : length marked ≡ net.inputs + 1 + length net.gates
  pub before : (s : ℕ) → s < net.inputs + 1 → bit marked s ≡ bit start s
  pub after : (s : ℕ) → net.inputs < s → ((k : ℕ) → k < count → s ≢ net.inputs + 1 + slice_index_or gates k 0) → bit marked s ≡ false
  pub done : (k : ℕ) → k < count → bit marked (net.inputs + 1 + slice_index_or gates k 0) ≡ bit (reaching start net.gates) (net.inputs + 1 + slice_index_or gates k 0)

-- one gate more
pub marking_more : (net : Net) (output : ℕ) (start : List Bool) (gates : List ℕ) (i t : ℕ) (row : Gate) (marked new : List Bool) → IsGraph net → AreReached net output gates → length start ≡ net.inputs + 1 → i < length gates → t ≡ slice_index_or gates i 0 → ((d : Gate) → row ≡ slice_index_or net.gates t d) → new ≡ (if bit marked (signal_of row.a) || bit marked (signal_of row.b) then set marked (net.inputs + 1 + t) true else marked) → AreMarking net start gates i marked → AreMarking net start gates (i + 1) new
marking_more net output start gates i t row marked new graph are start_size within t_is row_is new_is marking = subst (AreMarking net start gates (i + 1)) (sym (new_is ∙ marked_where marked at v unmarked)) (record {
  size = length-set marked at v ∙ marking.size;
  before = λ s less. get_or-set_other marked at s v false (λ e. omega (arith, e, less)) ∙ marking.before s less;
  after = λ s gate apart. get_or-set_other marked at s v false (λ e. apart i (omega arith) (e ∙ ap (λ u. first + u) t_is)) ∙ marking.after s gate (λ k less. apart k (omega (arith, less)));
  done = λ k less. elim (cases_lt k i) [
    | inl earlier ↦
        let lower = are.ascending k i 0 earlier within in
        get_or-set_other marked at (first + slice_index_or gates k 0) v false (λ e. omega (arith, e, lower, t_is)) ∙ marking.done k earlier
    | inr late ↦
        let e : k ≡ i = omega (arith, late, less) in
        let here : first + slice_index_or gates k 0 ≡ at = ap (λ j. first + slice_index_or gates j 0) e ∙ ap (λ u. first + u) (sym t_is) in
        ap (bit (set marked at v)) here ∙ (get_or-set_same marked at v false at_there ∙ (right ∙ sym (ap (bit whole) here)))
  ];
})
  where
    first : ℕ
    first = net.inputs + 1

    at : ℕ
    at = net.inputs + 1 + t

    v : Bool
    v = bit marked (signal_of row.a) || bit marked (signal_of row.b)

    whole : List Bool
    whole = reaching start net.gates

    there : t < length net.gates
    there = omega (arith, t_is, are.there i 0 within)

    at_there : at < length marked
    at_there = omega (arith, there, marking.size)

    unmarked : bit marked at ≡ false
    unmarked = marking.after at (omega arith) (λ k less e. omega (arith, e, are.ascending k i 0 less within, t_is))

    order : AreInOrder (length start) net.gates
    order = record {
      first_operands = λ k d less. omega (arith, start_size, graph.ordered.first_operands k d less);
      second_operands = λ k d less. omega (arith, start_size, graph.ordered.second_operands k d less);
    }

    reached : ReachesGate net output t
    reached = (are.reached t).0 (i, within, get_or_default_to within)
      where
        get_or_default_to : i < length gates → slice_index_or gates i t ≡ t
        get_or_default_to less = get_or_default gates i t 0 less ∙ sym t_is

    -- an operand is marked right
    operand : (s : ℕ) → s < first + t → Reaches net output s → bit marked s ≡ bit whole s
    operand s early leads =
        elim (cases_lt s first) [
          | inl input ↦ marking.before s input ∙ sym (reaching_keeps start net.gates s (omega (arith, input, start_size)))
          | inr gate ↦
              let u = s - first in
              let e : s ≡ 1 + net.inputs + u = omega (arith, gate) in
              let e' : s ≡ first + u = omega (arith, gate) in
              let listed = (are.reached u).1 (subst (Reaches net output) e leads) in
              let k = listed.0 in
              let is : slice_index_or gates k 0 ≡ u = get_or_default gates k 0 u listed.1 ∙ listed.2 in
              let earlier : k < i = elim (cases_lt k i) [
                | inl less ↦ less
                | inr not_less ↦ absurd (later k not_less listed.1 is (omega (arith, e', early)))
              ] in
              ap (bit marked) (e' ∙ ap (λ x. first + x) (sym is)) ∙ (marking.done k earlier ∙ ap (bit whole) (ap (λ x. first + x) is ∙ sym e'))
        ]
      where
        later : (k : ℕ) → i ≤ k → k < length gates → slice_index_or gates k 0 ≡ s - first → s - first < t → ⊥
        later k from less is low =
            elim (cases_lt i k) [
              | inl after ↦ omega (arith, are.ascending i k 0 after less, is, low, t_is)
              | inr here ↦
                  let same : k ≡ i = omega (arith, here, from) in
                  omega (arith, sym (ap (λ j. slice_index_or gates j 0) same) ∙ is, low, t_is)
            ]

    right : v ≡ bit whole at
    right =
        let at_is : length start + t ≡ at = ap (λ n. n + t) start_size in
        let low_a = graph.ordered.first_operands t row there in
        let low_b = graph.ordered.second_operands t row there in
        let a_is : signal_of row.a ≡ signal_of (slice_index_or net.gates t row).a = ap (λ (g : Gate). signal_of g.a) (row_is row) in
        let b_is : signal_of row.b ≡ signal_of (slice_index_or net.gates t row).b = ap (λ (g : Gate). signal_of g.b) (row_is row) in
        let a_leads = subst (Reaches net output) (sym a_is) (first_reached net output t row there reached) in
        let b_leads = subst (Reaches net output) (sym b_is) (second_reached net output t row there reached) in
        let a_right = operand (signal_of row.a) (omega (arith, low_a, a_is)) a_leads in
        let b_right = operand (signal_of row.b) (omega (arith, low_b, b_is)) b_leads in
        ap (λ x. x || bit marked (signal_of row.b)) a_right ∙ (ap (λ y. bit whole (signal_of row.a) || y) b_right
        ∙ (ap (λ s. bit whole s || bit whole (signal_of row.b)) a_is ∙ (ap (λ s. bit whole (signal_of (slice_index_or net.gates t row).a) || bit whole s) b_is
        ∙ (sym (reaching_at start net.gates t row order there) ∙ ap (bit whole) at_is))))

pub marking_done : (net : Net) (start : List Bool) (gates : List ℕ) (marked : List Bool) → AreMarking net start gates (length gates) marked → All (λ t. bit marked (net.inputs + 1 + t) ≡ bit (reaching start net.gates) (net.inputs + 1 + t)) gates
marking_done net start gates marked marking k d within =
    subst (λ t. bit marked (net.inputs + 1 + t) ≡ bit (reaching start net.gates) (net.inputs + 1 + t)) (get_or_default gates k 0 d within) (marking.done k within)
