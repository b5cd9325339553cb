-- The gates to which a signal leads are those that the search finds.
use Rattle.std.proofs.Common.{◌≡◌, ◌⊎◌, ◌↔◌, ℕ, zero, suc, ◌+◌, ◌-◌, ◌<◌, ◌≤◌, ◌||◌, eqb, Bool, true, false, List, [], ◌∷◌, ◌++◌, length, set, replicate, All, AllPairs, Contains, slice_index_or, inl, inr, sym, ap, subst, ◌∙◌, arith}
use Rattle.std.specs.List.{IsDistinct, list_any}
use Rattle.std.specs.List.Sorted.{IsPermutation, IsNonDecreasingBy, IsSorted}
use Rattle.std.specs.Ordering.{nat_cmp}
use Rattle.std.proofs.lemmas.Bool.{cases_lt, eq-eqb, false≢true}
use Rattle.std.proofs.lemmas.Bool.Decides.{eqb_tells}
use Rattle.std.proofs.lemmas.Cmp.{nat_eq_equiv}
use Rattle.std.proofs.lemmas.List.{length-append, length-set, length-replicate, get_or-set_same, get_or-set_other, get_or-replicate, get_or_default, get_or_append_left, get_or-append-add}
use Rattle.std.proofs.lemmas.List.Elements.{All-contains, All-head, All-push, All-tail, Contains-append_left, Contains-push}
use Rattle.std.proofs.lemmas.List.Sorted.{Contains-permutation, IsNonDecreasingBy-from_sort, IsPermutation-sym}
use Rattle.std.proofs.lemmas.Map.Keys.{IsDistinct-push, IsDistinct-IsPermutation, apart_from_distinct}
use Rattle.std.proofs.lemmas.Map.Steps.{length-le_from_distinct_below}
use Rattle.circuits.specs.declared.netlist.Gate.{Gate}
use Rattle.circuits.specs.Literals.{bit, signal_of}
use Rattle.circuits.specs.Netlists.{Net}
use Rattle.net_core.specs.Graph.{AreInOrder}
use Rattle.net_core.specs.Cones.{AreFound, AreReachedFrom, HasOperands, IsFoundBy, IsMarked, IsSearched, Leads, ReachesGate, output_signal}
use Rattle.circuits.proofs.Lists.{not_among}

-- a marked place is one of the list's
pub within_bit : (marks : List Bool) (s : ℕ) → bit marks s ≡ true → s < length marks
within_bit [] s is = absurd (false≢true is)
within_bit (b ∷ marks) zero is = omega arith
within_bit (b ∷ marks) (suc s) is = omega (arith, within_bit marks s is)

-- one mark more
bit-added : (marks : List Bool) (i s : ℕ) → i < length marks → bit marks s ≡ true → bit (set marks i true) s ≡ true
bit-added marks i s there is =
    elim (eqb_tells s i) [
      | inl (found, e) ↦ subst (λ n. bit (set marks i true) n ≡ true) (sym e) (get_or-set_same marks i true false there)
      | inr (found, apart) ↦ get_or-set_other marks i s true false apart ∙ is
    ]

bit-from_added : (marks : List Bool) (i s : ℕ) → bit (set marks i true) s ≡ true → (s ≡ i) ⊎ (bit marks s ≡ true)
bit-from_added marks i s is =
    elim (eqb_tells s i) [
      | inl (found, e) ↦ inl e
      | inr (found, apart) ↦ inr (sym (get_or-set_other marks i s true false apart) ∙ is)
    ]

-- nothing is marked at first
pub none_found : (count : ℕ) → AreFound count (replicate count false) []
unfolding IsDistinct
none_found count = record {
  size = length-replicate count false;
  listed = λ t is.
      let below : t < count = omega (arith, within_bit (replicate count false) t is, length-replicate count false) in
      absurd (false≢true (sym (get_or-replicate count t false false below) ∙ is));
  marked = λ k d within. absurd (omega (arith, within));
  distinct = tt;
}

-- the gate of one signal more
found_by : (count first s : ℕ) (marks new_marks : List Bool) (found new_found : List ℕ) → s < first + count → IsFoundBy first s marks found new_marks new_found → AreFound count marks found → AreFound count new_marks new_found
found_by count first s marks new_marks found new_found there (inl old) are =
    subst (λ ms. AreFound count ms new_found) (sym old.marks_are) (subst (AreFound count marks) (sym old.found_are) are)
found_by count first s marks new_marks found new_found there (inr new) are =
    subst (λ ms. AreFound count ms new_found) (sym new.marks_are) (subst (AreFound count (set marks t true)) (sym new.found_are) added)
  where
    t : ℕ
    t = s - first

    low : t < length marks
    low = omega (arith, new.from, there, are.size)

    added : AreFound count (set marks t true) (found ++ t ∷ [])
    added = record {
      size = length-set marks t true ∙ are.size;
      listed = λ u is.
          elim (bit-from_added marks t u is) [
            | inl e ↦ subst (Contains (found ++ t ∷ [])) (sym e) (Contains-push found t)
            | inr was ↦ Contains-append_left found (t ∷ []) u (are.listed u was)
          ];
      marked = All-push (λ u. bit (set marks t true) u ≡ true) found t (λ k d within. bit-added marks t (slice_index_or found k d) low (are.marked k d within)) (get_or-set_same marks t true false low);
      distinct = IsDistinct-push nat_eq_equiv found t are.distinct (not_among marks t found new.unmarked are.marked);
    }

marked_now : (first s : ℕ) (marks new_marks : List Bool) (found new_found : List ℕ) → s < first + length marks → IsFoundBy first s marks found new_marks new_found → IsMarked first new_marks s
marked_now first s marks new_marks found new_found there (inl old) = subst (λ ms. IsMarked first ms s) (sym old.marks_are) old.marked
marked_now first s marks new_marks found new_found there (inr new) =
    subst (λ ms. IsMarked first ms s) (sym new.marks_are) (λ from. get_or-set_same marks (s - first) true false (omega (arith, from, there)))

marked_still : (first s u : ℕ) (marks new_marks : List Bool) (found new_found : List ℕ) → s < first + length marks → IsFoundBy first s marks found new_marks new_found → IsMarked first marks u → IsMarked first new_marks u
marked_still first s u marks new_marks found new_found there (inl old) marked = subst (λ ms. IsMarked first ms u) (sym old.marks_are) marked
marked_still first s u marks new_marks found new_found there (inr new) marked =
    subst (λ ms. IsMarked first ms u) (sym new.marks_are) (λ from. bit-added marks (s - first) (u - first) (omega (arith, new.from, there)) (marked from))

listed_still : (first s : ℕ) (marks new_marks : List Bool) (found new_found : List ℕ) → IsFoundBy first s marks found new_marks new_found → (length found ≤ length new_found) × ((k : ℕ) → k < length found → slice_index_or new_found k 0 ≡ slice_index_or found k 0)
listed_still first s marks new_marks found new_found (inl old) =
    (omega (arith, ap length old.found_are), λ k within. ap (λ (fs : List ℕ). slice_index_or fs k 0) old.found_are)
listed_still first s marks new_marks found new_found (inr new) =
    (omega (arith, ap length new.found_are, length-append found ((s - first) ∷ [])), λ k within. ap (λ (fs : List ℕ). slice_index_or fs k 0) new.found_are ∙ get_or_append_left found ((s - first) ∷ []) 0 k within)

least_still : (first : ℕ) (gates : List Gate) (signal s : ℕ) (marks new_marks : List Bool) (found new_found : List ℕ) → Leads first gates signal s → IsFoundBy first s marks found new_marks new_found → All (λ t. Leads first gates signal (first + t)) found → All (λ t. Leads first gates signal (first + t)) new_found
least_still first gates signal s marks new_marks found new_found leads (inl old) all =
    subst (All (λ t. Leads first gates signal (first + t))) (sym old.found_are) all
least_still first gates signal s marks new_marks found new_found leads (inr new) all =
    let at : s ≡ first + (s - first) = omega (arith, new.from) in
    subst (All (λ t. Leads first gates signal (first + t))) (sym new.found_are) (All-push (λ t. Leads first gates signal (first + t)) found (s - first) all (subst (Leads first gates signal) at leads))

-- at first the signal's own gate is found
pub searched_first : (first : ℕ) (gates : List Gate) (signal : ℕ) (marks new_marks : List Bool) (found new_found : List ℕ) → marks ≡ replicate (length gates) false → found ≡ [] → signal < first + length gates → IsFoundBy first signal marks found new_marks new_found → IsSearched first gates signal 0 new_marks new_found
searched_first first gates signal marks new_marks found new_found unmarked none there by =
    let none_yet = subst (λ fs. AreFound (length gates) marks fs) (sym none) (subst (λ ms. AreFound (length gates) ms []) (sym unmarked) (none_found (length gates))) in
    record {
      are = found_by (length gates) first signal marks new_marks found new_found there by none_yet;
      start = marked_now first signal marks new_marks found new_found (omega (arith, there, none_yet.size)) by;
      done = omega arith;
      operands = λ k d less. absurd (omega (arith, less));
      least = least_still first gates signal signal marks new_marks found new_found (λ set closed has. has) by (subst (All (λ t. Leads first gates signal (first + t))) (sym none) (λ k d within. absurd (omega (arith, within))));
    }

-- each gate that is listed is there
pub found_there : (first : ℕ) (gates : List Gate) (signal count : ℕ) (marks : List Bool) (found : List ℕ) → IsSearched first gates signal count marks found → All (λ t. t < length gates) found
found_there first gates signal count marks found searched k d within =
    omega (arith, within_bit marks (slice_index_or found k d) (searched.are.marked k d within), searched.are.size)

-- no more are listed than there are gates
pub found_few : (first : ℕ) (gates : List Gate) (signal count : ℕ) (marks : List Bool) (found : List ℕ) → IsSearched first gates signal count marks found → length found ≤ length gates
found_few first gates signal count marks found searched =
    length-le_from_distinct_below found (length gates) searched.are.distinct (λ q member. among q found (found_there first gates signal count marks found searched) member)
  where
    among : (q : ℕ) (xs : List ℕ) → All (λ t. t < length gates) xs → list_any (eqb q) xs ≡ true → q < length gates
    among q [] all member = absurd (false≢true member)
    among q (x ∷ xs) all member =
        elim (eqb_tells q x) [
          | inl (same, e) ↦ omega (arith, e, All-head (λ t. t < length gates) x xs all)
          | inr (other, apart) ↦ among q xs (All-tail (λ t. t < length gates) x xs all) (sym (ap (λ b. b || list_any (eqb q) xs) other) ∙ member)
        ]

-- the operands of one gate more
pub searched_more : (first : ℕ) (gates : List Gate) (signal n : ℕ) (gate : Gate) (marks marks_a marks_b : List Bool) (found found_a found_b : List ℕ) → AreInOrder first gates → n < length found → ((d : Gate) → gate ≡ slice_index_or gates (slice_index_or found n 0) d) → IsFoundBy first (signal_of gate.a) marks found marks_a found_a → IsFoundBy first (signal_of gate.b) marks_a found_a marks_b found_b → IsSearched first gates signal n marks found → IsSearched first gates signal (n + 1) marks_b found_b
searched_more first gates signal n gate marks marks_a marks_b found found_a found_b order within gate_is by_a by_b searched = record {
  are = are_b;
  start = kept signal searched.start;
  done = omega (arith, within, longer_a.0, longer_b.0);
  operands = λ k d less. elim (cases_lt k n) [
    | inl before ↦
        let both = searched.operands k d before in
        let at = same k (omega (arith, before, within)) in
        let move = λ (s : ℕ) (marked : IsMarked first marks s). kept s marked in
        (subst (λ t. IsMarked first marks_b (signal_of (slice_index_or gates t d).a)) (sym at) (move (signal_of (slice_index_or gates (slice_index_or found k 0) d).a) both.0), subst (λ t. IsMarked first marks_b (signal_of (slice_index_or gates t d).b)) (sym at) (move (signal_of (slice_index_or gates (slice_index_or found k 0) d).b) both.1))
    | inr late ↦
        let e : k ≡ n = omega (arith, late, less) in
        let at : slice_index_or found_b k 0 ≡ slice_index_or found n 0 = ap (λ j. slice_index_or found_b j 0) e ∙ same n within in
        let gate_at : slice_index_or gates (slice_index_or found_b k 0) d ≡ gate = ap (λ t. slice_index_or gates t d) at ∙ sym (gate_is d) in
        (subst (λ (g : Gate). IsMarked first marks_b (signal_of g.a)) (sym gate_at) (marked_still first (signal_of gate.b) (signal_of gate.a) marks_a marks_b found_a found_b low_b by_b (marked_now first (signal_of gate.a) marks marks_a found found_a low_a by_a)), subst (λ (g : Gate). IsMarked first marks_b (signal_of g.b)) (sym gate_at) (marked_now first (signal_of gate.b) marks_a marks_b found_a found_b low_b by_b))
  ];
  least = least_still first gates signal (signal_of gate.b) marks_a marks_b found_a found_b (λ set closed has. (led set closed has).1) by_b (least_still first gates signal (signal_of gate.a) marks marks_a found found_a (λ set closed has. (led set closed has).0) by_a searched.least);
}
  where
    t : ℕ
    t = slice_index_or found n 0

    there : t < length gates
    there = found_there first gates signal n marks found searched n 0 within

    a_there : signal_of gate.a < first + length gates
    a_there = omega (arith, ap (λ (g : Gate). signal_of g.a) (gate_is gate), order.first_operands t gate there, there)

    b_there : signal_of gate.b < first + length gates
    b_there = omega (arith, ap (λ (g : Gate). signal_of g.b) (gate_is gate), order.second_operands t gate there, there)

    are_a : AreFound (length gates) marks_a found_a
    are_a = found_by (length gates) first (signal_of gate.a) marks marks_a found found_a a_there by_a searched.are

    are_b : AreFound (length gates) marks_b found_b
    are_b = found_by (length gates) first (signal_of gate.b) marks_a marks_b found_a found_b b_there by_b are_a

    low_a : signal_of gate.a < first + length marks
    low_a = omega (arith, a_there, searched.are.size)

    low_b : signal_of gate.b < first + length marks_a
    low_b = omega (arith, b_there, are_a.size)

    longer_a : (length found ≤ length found_a) × ((k : ℕ) → k < length found → slice_index_or found_a k 0 ≡ slice_index_or found k 0)
    longer_a = listed_still first (signal_of gate.a) marks marks_a found found_a by_a

    longer_b : (length found_a ≤ length found_b) × ((k : ℕ) → k < length found_a → slice_index_or found_b k 0 ≡ slice_index_or found_a k 0)
    longer_b = listed_still first (signal_of gate.b) marks_a marks_b found_a found_b by_b

    same : (k : ℕ) → k < length found → slice_index_or found_b k 0 ≡ slice_index_or found k 0
    same k less = longer_b.1 k (omega (arith, less, longer_a.0)) ∙ longer_a.1 k less

    kept : (s : ℕ) → IsMarked first marks s → IsMarked first marks_b s
    kept s marked =
        marked_still first (signal_of gate.b) s marks_a marks_b found_a found_b low_b by_b (marked_still first (signal_of gate.a) s marks marks_a found found_a low_a by_a marked)

    led : (set : List Bool) → HasOperands first gates set → bit set signal ≡ true → (bit set (signal_of gate.a) ≡ true) × (bit set (signal_of gate.b) ≡ true)
    led set closed has =
        let own = closed t gate there (searched.least n 0 within set closed has) in
        (ap (λ (g : Gate). bit set (signal_of g.a)) (gate_is gate) ∙ own.0, ap (λ (g : Gate). bit set (signal_of g.b)) (gate_is gate) ∙ own.1)

-- where the operands of all were found, these are the gates to which the signal leads
pub searched_all : (first : ℕ) (gates : List Gate) (signal : ℕ) (marks : List Bool) (found : List ℕ) → signal < first + length gates → IsSearched first gates signal (length found) marks found → AreReachedFrom first gates signal found
searched_all first gates signal marks found there searched = record {
  there = found_there first gates signal (length found) marks found searched;
  distinct = searched.are.distinct;
  each = λ t. (
    λ listed. All-contains (λ u. Leads first gates signal (first + u)) found t searched.least listed,
    λ leads. searched.are.listed t (sym (at_gate t) ∙ leads all closed has),
  );
}
  where
    -- the constant and the inputs, and the gates that are marked
    all : List Bool
    all = replicate first true ++ marks

    at_gate : (t : ℕ) → bit all (first + t) ≡ bit marks t
    at_gate t =
        let at : first + t ≡ length (replicate first true) + t = omega (arith, length-replicate first true) in
        ap (bit all) at ∙ get_or-append-add (replicate first true) marks t false

    marked_in : (s : ℕ) → IsMarked first marks s → bit all s ≡ true
    marked_in s marked =
        elim (cases_lt s first) [
          | inl before ↦ get_or_append_left (replicate first true) marks false s (omega (arith, before, length-replicate first true)) ∙ get_or-replicate first s true false before
          | inr late ↦
              let e : s ≡ first + (s - first) = omega (arith, late) in
              ap (bit all) e ∙ (at_gate (s - first) ∙ marked (omega (arith, late)))
        ]

    has : bit all signal ≡ true
    has = marked_in signal searched.start

    closed : HasOperands first gates all
    closed t d within is =
        let listed = searched.are.listed t (sym (at_gate t) ∙ is) in
        let k = listed.0 in
        let at : slice_index_or found k 0 ≡ t = get_or_default found k 0 t listed.1 ∙ listed.2 in
        let both = searched.operands k d listed.1 in
        (subst (λ u. bit all (signal_of (slice_index_or gates u d).a) ≡ true) at (marked_in (signal_of (slice_index_or gates (slice_index_or found k 0) d).a) both.0), subst (λ u. bit all (signal_of (slice_index_or gates u d).b) ≡ true) at (marked_in (signal_of (slice_index_or gates (slice_index_or found k 0) d).b) both.1))

-- in order, no two are the same
pub ascending_cone : (found gates : List ℕ) → IsDistinct eqb found → IsPermutation found gates → IsSorted nat_cmp gates → AllPairs (λ one other. one < other) gates
ascending_cone found gates distinct moved sorted i j d before within =
    let rises : IsNonDecreasingBy (λ x. x) gates = IsNonDecreasingBy-from_sort (λ x. x) gates sorted in
    let apart = apart_from_distinct eqb gates i j d (IsDistinct-IsPermutation eqb (λ x y. nat_eq_equiv.symm x y) found gates moved distinct) before within in
    elim (cases_lt (slice_index_or gates i d) (slice_index_or gates j d)) [
      | inl less ↦ less
      | inr not_less ↦
          let e : slice_index_or gates i d ≡ slice_index_or gates j d = omega (arith, not_less, rises i j d (omega (arith, before)) within) in
          absurd (false≢true (sym apart ∙ eq-eqb (slice_index_or gates i d) (slice_index_or gates j d) e))
    ]

-- the gates to which the output's signal leads are those that the output reaches
pub cone_gates : (net : Net) (k : ℕ) (found gates : List ℕ) → AreReachedFrom (1 + net.inputs) net.gates (output_signal net k) found → IsPermutation found gates → (t : ℕ) → Contains gates t ↔ ReachesGate net k t
cone_gates net k found gates reached moved t = (
  λ listed other fan_in. (reached.each t).0 (Contains-permutation gates found t (IsPermutation-sym found gates moved) listed) other fan_in.operands fan_in.output,
  λ reaches. Contains-permutation found gates t moved ((reached.each t).1 (λ set closed has. reaches set (record { output = has; operands = closed }))),
)
