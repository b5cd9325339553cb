-- What an exchange of two inputs changes near them, gate by gate.
use Rattle.std.proofs.Common.{◌≡◌, ◌≢◌, ◌⊎◌, ℕ, zero, suc, ◌+◌, ◌-◌, ◌/◌, ◌%◌, ◌^◌, ◌==◌, ◌<◌, ◌≤◌, ◌&&◌, Bool, true, false, not, List, [], ◌∷◌, ◌++◌}
use Rattle.std.proofs.Common.{length, map, All, Some, bit_and, get_or, max, min, refl, sym, subst, ap, ◌∙◌, inl, inr, arith}
use Rattle.std.proofs.lemmas.Bool.{cases_lt}
use Rattle.std.proofs.lemmas.List.{get_or_append_left, get_or_default, get_or_push, get_or-map, get_or-set_other, get_or-set_same, length-map, length-set}
use Rattle.std.proofs.lemmas.List.{length_push}
use Rattle.std.proofs.lemmas.List.Elements.{All-push}
use Rattle.std.proofs.Math.Nat.{pow-le-pow_right}
use Rattle.circuits.specs.declared.netlist.Lit.{Lit}
use Rattle.circuits.specs.declared.netlist.Gate.{Gate}
use Rattle.circuits.specs.Literals.{bit, differ, is_negated as inverts, literal_bit, signal_of}
use Rattle.circuits.specs.Netlists.{Net, IsOrdered, signals_of, valuation_of}
use Rattle.circuits.proofs.Codes.{bit_at-code_of, code_of, code_of-below}
use Rattle.circuits.proofs.Valuations.{valuation_of-fits}
use Rattle.claim_core.proofs.AssignmentLemmas.{gate_agrees}
use Rattle.claim_core.specs.Claims.{output_bit, with_input}
use Rattle.net_core.specs.Values.{signed_word}
use Rattle.word_sim.specs.Columns.{word_bit}
use Rattle.word_sim.proofs.Lanes.{and-bit, inverted-bit, zero-bit}
use Rattle.fact_tests.specs.declared.readers.GateSpan.{GateSpan}
use Rattle.fact_tests.specs.declared.local_exchange.SideWords.{SideWords}
use Rattle.fact_tests.specs.declared.local_exchange.Changed.{Changed}
use Rattle.fact_tests.specs.declared.local_exchange.Near.{Near}
use Rattle.fact_tests.specs.declared.local_exchange.Went.{Went}
use Rattle.fact_tests.specs.declared.local_exchange.Went.TheVariants.{Same, Differs, TooFar}
use Rattle.fact_tests.specs.LocalExchanges.{AreSpans, GoesOver, HasMore, HasSides, IsChanged, IsCovered, IsGateOf, IsLane, IsLeaf, IsListed, IsListing, IsSpan}
use Rattle.fact_tests.specs.LocalExchanges.{IsUnchanged, IsWent, IsWhole, Spreads, Tells, Tracks, first_listed, side}
use Rattle.fact_tests.specs.Outputs.{IsAlike}
use Rattle.fact_tests.proofs.ExchangeLemmas.{at_alike}

-- lanes

-- there is a lane for each way of the leaves
lane_of : (v : List Bool) (leaves : List ℕ) → length leaves ≤ 6 → (m : ℕ) × IsLane v leaves m
lane_of v leaves few =
    let x = map (bit v) leaves in
    let size : length x ≡ length leaves = length-map leaves (bit v) in
    let most : 2 ^ length x ≤ 2 ^ 6 = pow-le-pow_right {n = 2} (omega arith) {i = length x} {j = 6} (omega (arith, size, few)) in
    (code_of x, (omega (arith, code_of-below x, most), λ k h. bit_at-code_of x k (omega (arith, h, size)) ∙ get_or-map (bit v) leaves k 0 false h))

-- a longer list of leaves says more of a lane
lane_before : (v : List Bool) (leaves : List ℕ) (leaf m : ℕ) → IsLane v (leaves ++ leaf ∷ []) m → IsLane v leaves m
lane_before v leaves leaf m is = (is.0, λ k h. is.1 k (omega (arith, h, length_push leaves leaf)) ∙ ap (bit v) (get_or_append_left leaves (leaf ∷ []) 0 k h))

pub sides_before : (v w : List Bool) (leaves : List ℕ) (leaf : ℕ) (one other : Bool) (sides : SideWords) → HasSides v w leaves one other sides → HasSides v w (leaves ++ leaf ∷ []) one other sides
sides_before v w leaves leaf one other sides has = λ m is. has m (lane_before v leaves leaf m is)

-- bits that are the same in each lane are the same
same_sides : (v w : List Bool) (leaves : List ℕ) (one other : Bool) (sides : SideWords) → length leaves ≤ 6 → HasSides v w leaves one other sides → sides.one ≡ sides.other → one ≡ other
same_sides v w leaves one other sides few has same =
    let lane = lane_of v leaves few in
    let at = has lane.0 lane.1 in
    at.0 ∙ (ap (word_bit lane.0) same ∙ sym at.1)

-- signs and ANDs
signed_bit : (m word : ℕ) (negated b : Bool) → m < 64 → b ≡ word_bit m word → differ b negated ≡ word_bit m (signed_word word negated)
signed_bit m word negated b below is = ap (λ b. differ b negated) is ∙ sym (inverted-bit m word negated below)

pub sides_signed : (v w : List Bool) (leaves : List ℕ) (one other negated : Bool) (sides new : SideWords) → new.one ≡ signed_word sides.one negated → new.other ≡ signed_word sides.other negated
    → HasSides v w leaves one other sides
    → HasSides v w leaves (differ one negated) (differ other negated) new
sides_signed v w leaves one other negated sides new first second has =
    λ m is.
    let at = has m is in (
      signed_bit m sides.one negated one is.0 at.0 ∙ ap (word_bit m) (sym first),
      signed_bit m sides.other negated other is.0 at.1 ∙ ap (word_bit m) (sym second),
    )

pub sides_and : (v w : List Bool) (leaves : List ℕ) (a b c d : Bool) (left right new : SideWords) → new.one ≡ bit_and left.one right.one → new.other ≡ bit_and left.other right.other
    → HasSides v w leaves a c left
    → HasSides v w leaves b d right
    → HasSides v w leaves (a && b) (c && d) new
sides_and v w leaves a b c d left right new first second one other =
    λ m is.
    let here = one m is in
    let there = other m is in (
      ap (λ a. a && b) here.0 ∙ (ap (λ b. word_bit m left.one && b) there.0 ∙ (sym (and-bit m left.one right.one) ∙ ap (word_bit m) (sym first))),
      ap (λ c. c && d) here.1 ∙ (ap (λ d. word_bit m left.other && d) there.1 ∙ (sym (and-bit m left.other right.other) ∙ ap (word_bit m) (sym second))),
    )

-- gates

-- a signal more that doesn't differ
past_same : (v w : List Bool) (signal : ℕ) (near : Near) → Tracks v w signal near → bit v signal ≡ bit w signal → Tracks v w (signal + 1) near
past_same v w signal near tracks same = record {
  few = tracks.few;
  leaves = tracks.leaves;
  changed = tracks.changed;
  others = λ s below unchanged.
      elim (cases_lt s signal) [
        | inl less ↦ tracks.others s less unchanged
        | inr past ↦ let here : signal ≡ s = omega (arith, below, past) in subst (λ s. bit v s ≡ bit w s) here same
      ];
}

-- a gate whose operands don't differ
pub over_same : (gate : Gate) (signal : ℕ) (near : Near) → IsUnchanged near.changed (signal_of gate.a) → IsUnchanged near.changed (signal_of gate.b) → GoesOver gate signal near near
over_same gate signal near first second v w one other tracks =
    let same : bit v signal ≡ bit w signal = one.bit_is ∙ (gate_agrees v w gate (tracks.others (signal_of gate.a) one.first first) (tracks.others (signal_of gate.b) one.second second) ∙ sym other.bit_is) in
    past_same v w signal near tracks same

-- a gate that may differ, with its bits
pub over_changed : (v w : List Bool) (signal : ℕ) (near new : Near) (sides : SideWords) → Tracks v w signal near
    → HasSides v w near.leaves (bit v signal) (bit w signal) sides
    → new.leaves ≡ near.leaves
    → new.changed ≡ near.changed ++ record { signal = signal; sides = sides } ∷ []
    → Tracks v w (signal + 1) new
over_changed v w signal near new sides tracks has leaves changed =
    let entry : Changed = record { signal = signal; sides = sides } in
    let apart : (s : ℕ) → IsUnchanged (near.changed ++ entry ∷ []) s → (signal ≢ s) × IsUnchanged near.changed s = λ s unchanged. (
      subst (λ (it : Changed). it.signal ≢ s) (get_or_push near.changed entry entry (length near.changed) refl) (unchanged (length near.changed) entry (omega (arith, length_push near.changed entry))),
      λ k d h. subst (λ (it : Changed). it.signal ≢ s) (get_or_append_left near.changed (entry ∷ []) d k h) (unchanged k d (omega (arith, h, length_push near.changed entry))),
    ) in
    record {
      few = subst (λ leaves. length leaves ≤ 6) (sym leaves) tracks.few;
      leaves = subst (All (λ leaf. bit v leaf ≡ bit w leaf)) (sym leaves) tracks.leaves;
      changed = subst (λ leaves. All (IsChanged v w leaves) new.changed) (sym leaves) (subst (All (IsChanged v w near.leaves)) (sym changed) (All-push (IsChanged v w near.leaves) near.changed entry tracks.changed has));
      others = λ s below unchanged.
          let is = apart s (subst (λ changed. IsUnchanged changed s) changed unchanged) in
          elim (cases_lt s signal) [
            | inl less ↦ tracks.others s less is.1
            | inr past ↦ absurd (is.0 (omega (arith, below, past)))
          ];
    }

-- a leaf more
pub leaf_more : (v w : List Bool) (end leaf : ℕ) (near new : Near) → Tracks v w end near → length near.leaves < 6 → leaf < end → IsUnchanged near.changed leaf
    → new.leaves ≡ near.leaves ++ leaf ∷ []
    → new.changed ≡ near.changed
    → Tracks v w end new
leaf_more v w end leaf near new tracks room below unchanged leaves changed = record {
  few = omega (arith, room, ap length leaves, length_push near.leaves leaf);
  leaves = subst (All (λ leaf. bit v leaf ≡ bit w leaf)) (sym leaves) (All-push (λ leaf. bit v leaf ≡ bit w leaf) near.leaves leaf tracks.leaves (tracks.others leaf below unchanged));
  changed = subst (λ leaves. All (IsChanged v w leaves) new.changed) (sym leaves) (subst (All (IsChanged v w (near.leaves ++ leaf ∷ []))) (sym changed)
      (λ k d h. let entry = get_or near.changed k d in sides_before v w near.leaves leaf (bit v entry.signal) (bit w entry.signal) entry.sides (tracks.changed k d h)));
  others = λ s below unchanged. tracks.others s below (subst (λ changed. IsUnchanged changed s) changed unchanged);
}

-- the bits of a leaf
pub leaf_has : (v w : List Bool) (end leaf number word : ℕ) (near : Near) → Tracks v w end near → number < length near.leaves → get_or near.leaves number 0 ≡ leaf
    → ((m : ℕ) → m < 64 → word_bit m word ≡ (m / 2 ^ number % 2 == 1))
    → HasSides v w near.leaves (bit v leaf) (bit w leaf) (record { one = word; other = word })
leaf_has v w end leaf number word near tracks there is digits =
    λ m lane.
    let here : bit v leaf ≡ word_bit m word = ap (bit v) (sym is) ∙ (sym (lane.1 number there) ∙ sym (digits m lane.0)) in
    let same : bit v leaf ≡ bit w leaf = subst (λ leaf. bit v leaf ≡ bit w leaf) is (tracks.leaves number 0 there) in
    (here, sym same ∙ here)

-- gates that read nothing that differs
pub run : (net : Net) (v w : List Bool) (count start : ℕ) (near : Near)
    → ((place : ℕ) (d : Gate) → place < length net.gates → IsGateOf v (1 + net.inputs + place) (get_or net.gates place d))
    → ((place : ℕ) (d : Gate) → place < length net.gates → IsGateOf w (1 + net.inputs + place) (get_or net.gates place d))
    → start + count ≤ length net.gates
    → ((place : ℕ) (d : Gate) → start ≤ place → place < start + count → IsUnchanged near.changed (signal_of (get_or net.gates place d).a) × IsUnchanged near.changed (signal_of (get_or net.gates place d).b))
    → Tracks v w (1 + net.inputs + start) near
    → Tracks v w (1 + net.inputs + (start + count)) near
run net v w zero start near one other within none tracks = subst (λ n. Tracks v w (1 + net.inputs + n) near) (omega arith) tracks
run net v w (suc count) start near one other within none tracks =
    let d : Gate = record { a = record { 0 = 0 }; b = record { 0 = 0 } } in
    let before = run net v w count start near one other (omega (arith, within)) (λ place d from below. none place d from (omega (arith, below))) tracks in
    let here = none (start + count) d (omega arith) (omega arith) in
    let there : start + count < length net.gates = omega (arith, within) in
    subst (λ n. Tracks v w n near) (omega arith) (over_same (get_or net.gates (start + count) d) (1 + net.inputs + (start + count)) near here.0 here.1 v w (one (start + count) d there) (other (start + count) d there) before)

-- the two vectors of an exchange, and their valuations

gates_of : (net : Net) (x : List Bool) → IsOrdered net → length x ≡ net.inputs → (place : ℕ) (d : Gate) → place < length net.gates → IsGateOf (valuation_of net x) (1 + net.inputs + place) (get_or net.gates place d)
gates_of net x ordered len place d h = record {
  bit_is = (valuation_of-fits net x ordered len).gates place d h;
  first = ordered.first_operands place d h;
  second = ordered.second_operands place d h;
}

pub gates_at : (net : Net) (i j : ℕ) (a b : Bool) (x : List Bool) → IsOrdered net → length x ≡ net.inputs → (place : ℕ) (d : Gate) → place < length net.gates → IsGateOf (side net i j a b x) (1 + net.inputs + place) (get_or net.gates place d)
gates_at net i j a b x ordered len =
    gates_of net (with_input j b (with_input i a x)) ordered (length-set (with_input i a x) j b ∙ (length-set x i a ∙ len))

input_bit : (net : Net) (i j t : ℕ) (a b : Bool) (x : List Bool) → IsOrdered net → length x ≡ net.inputs → t < net.inputs → bit (side net i j a b x) (1 + t) ≡ bit (with_input j b (with_input i a x)) t
input_bit net i j t a b x ordered len h =
    (valuation_of-fits net (with_input j b (with_input i a x)) ordered (length-set (with_input i a x) j b ∙ (length-set x i a ∙ len))).inputs t h

first_bit : (net : Net) (i j : ℕ) (a b : Bool) (x : List Bool) → IsOrdered net → length x ≡ net.inputs → i < j → j < net.inputs → bit (side net i j a b x) (1 + i) ≡ a
first_bit net i j a b x ordered len order there =
    input_bit net i j i a b x ordered len (omega (arith, order, there))
    ∙ (get_or-set_other (with_input i a x) j i b false (omega (arith, order)) ∙ get_or-set_same x i a false (omega (arith, order, there, len)))

second_bit : (net : Net) (i j : ℕ) (a b : Bool) (x : List Bool) → IsOrdered net → length x ≡ net.inputs → j < net.inputs → bit (side net i j a b x) (1 + j) ≡ b
second_bit net i j a b x ordered len there =
    input_bit net i j j a b x ordered len there ∙ get_or-set_same (with_input i a x) j b false (omega (arith, there, len, length-set x i a))

-- a bit in each lane
all_lanes : (m : ℕ) (b : Bool) → m < 64 → b ≡ word_bit m (signed_word 0 b)
all_lanes m false below = sym (zero-bit m) ∙ sym_false m below
  where
    same : (b : Bool) → b ≡ differ b false
    same false = refl
    same true = refl

    sym_false : (m : ℕ) → m < 64 → word_bit m 0 ≡ word_bit m (signed_word 0 false)
    sym_false m below = same (word_bit m 0) ∙ sym (inverted-bit m 0 false below)
all_lanes m true below = ap (λ b. differ b true) (sym (zero-bit m)) ∙ sym (inverted-bit m 0 true below)

-- the two inputs on either side, and nothing beside them
pub tracks_start : (net : Net) (i j : ℕ) (inverted : Bool) (x : List Bool) (near : Near) → IsOrdered net → length x ≡ net.inputs → i < j → j < net.inputs
    → near.leaves ≡ []
    → near.changed ≡ record { signal = i + 1; sides = record { one = signed_word 0 false; other = signed_word 0 true } } ∷ record { signal = j + 1; sides = record { one = signed_word 0 (not inverted); other = signed_word 0 inverted } } ∷ []
    → Tracks (side net i j false (not inverted) x) (side net i j true inverted x) (1 + net.inputs) near
tracks_start net i j inverted x near ordered len order there leaves changed =
    let v = side net i j false (not inverted) x in
    let w = side net i j true inverted x in
    let first : Changed = record { signal = i + 1; sides = record { one = signed_word 0 false; other = signed_word 0 true } } in
    let second : Changed = record { signal = j + 1; sides = record { one = signed_word 0 (not inverted); other = signed_word 0 inverted } } in
    record {
      few = omega (arith, ap length leaves);
      leaves = subst (All (λ leaf. bit v leaf ≡ bit w leaf)) (sym leaves) (λ k d h. absurd (omega (arith, h)));
      changed = subst (λ leaves. All (IsChanged v w leaves) near.changed) (sym leaves) (subst (All (IsChanged v w [])) (sym changed) (entries first second (one_first first refl refl) (one_second second refl refl)));
      others = λ s below unchanged. same s below (subst (λ changed. IsUnchanged changed s) changed unchanged);
    }
  where
    entries : (first second : Changed) → IsChanged (side net i j false (not inverted) x) (side net i j true inverted x) [] first → IsChanged (side net i j false (not inverted) x) (side net i j true inverted x) [] second → All (IsChanged (side net i j false (not inverted) x) (side net i j true inverted x) []) (first ∷ second ∷ [])
    entries first second one other zero d h = one
    entries first second one other (suc zero) d h = other
    entries first second one other (suc (suc k)) d h = absurd (omega (arith, h))

    one_first : (entry : Changed) → entry.signal ≡ i + 1 → entry.sides ≡ record { one = signed_word 0 false; other = signed_word 0 true } → IsChanged (side net i j false (not inverted) x) (side net i j true inverted x) [] entry
    one_first entry here sides =
        λ m lane. (
          ap (bit (side net i j false (not inverted) x)) (here ∙ omega arith) ∙ (first_bit net i j false (not inverted) x ordered len order there ∙ (all_lanes m false lane.0 ∙ ap (λ (sides : SideWords). word_bit m sides.one) (sym sides))),
          ap (bit (side net i j true inverted x)) (here ∙ omega arith) ∙ (first_bit net i j true inverted x ordered len order there ∙ (all_lanes m true lane.0 ∙ ap (λ (sides : SideWords). word_bit m sides.other) (sym sides))),
        )

    one_second : (entry : Changed) → entry.signal ≡ j + 1 → entry.sides ≡ record { one = signed_word 0 (not inverted); other = signed_word 0 inverted } → IsChanged (side net i j false (not inverted) x) (side net i j true inverted x) [] entry
    one_second entry here sides =
        λ m lane. (
          ap (bit (side net i j false (not inverted) x)) (here ∙ omega arith) ∙ (second_bit net i j false (not inverted) x ordered len there ∙ (all_lanes m (not inverted) lane.0 ∙ ap (λ (sides : SideWords). word_bit m sides.one) (sym sides))),
          ap (bit (side net i j true inverted x)) (here ∙ omega arith) ∙ (second_bit net i j true inverted x ordered len there ∙ (all_lanes m inverted lane.0 ∙ ap (λ (sides : SideWords). word_bit m sides.other) (sym sides))),
        )

    input : (t : ℕ) → t < net.inputs → t ≢ i → t ≢ j → bit (side net i j false (not inverted) x) (1 + t) ≡ bit (side net i j true inverted x) (1 + t)
    input t below one other =
        input_bit net i j t false (not inverted) x ordered len below
        ∙ (get_or-set_other (with_input i false x) j t (not inverted) false other
        ∙ (get_or-set_other x i t false false one
        ∙ (sym (get_or-set_other x i t true false one)
        ∙ (sym (get_or-set_other (with_input i true x) j t inverted false other) ∙ sym (input_bit net i j t true inverted x ordered len below)))))

    same : (s : ℕ) → s < 1 + net.inputs → IsUnchanged (record { signal = i + 1; sides = record { one = signed_word 0 false; other = signed_word 0 true } } ∷ record { signal = j + 1; sides = record { one = signed_word 0 (not inverted); other = signed_word 0 inverted } } ∷ []) s → bit (side net i j false (not inverted) x) s ≡ bit (side net i j true inverted x) s
    same zero below unchanged =
        constant false (not inverted) ∙ sym (constant true inverted)
      where
        constant : (a b : Bool) → bit (side net i j a b x) 0 ≡ false
        constant a b = (valuation_of-fits net (with_input j b (with_input i a x)) ordered (length-set (with_input i a x) j b ∙ (length-set x i a ∙ len))).constant
    same (suc t) below unchanged =
        let d : Changed = record { signal = 0; sides = record { one = 0; other = 0 } } in
        subst (λ s. bit (side net i j false (not inverted) x) s ≡ bit (side net i j true inverted x) s) (omega arith)
        (input t (omega (arith, below)) (λ e. unchanged 0 d (omega arith) (omega (arith, e))) (λ e. unchanged 1 d (omega arith) (omega (arith, e))))

-- an output that isn't listed stays as it is
pub hidden : (net : Net) (k i j : ℕ) (inverted : Bool) (near : Near) (output : Lit) → IsOrdered net → k < length net.outputs
    → output ≡ get_or net.outputs k output
    → ((x : List Bool) → length x ≡ net.inputs → Tracks (side net i j false (not inverted) x) (side net i j true inverted x) (signals_of net) near)
    → IsUnchanged near.changed (signal_of output)
    → IsAlike net.inputs (output_bit net k) i j inverted
hidden net k i j inverted near output ordered there read tracks unchanged =
    at_alike net.inputs (output_bit net k) i j inverted (λ x len.
    let v = side net i j false (not inverted) x in
    let w = side net i j true inverted x in
    let within : signal_of output < signals_of net = omega (arith, ordered.outputs k output there, ap signal_of read) in
    let same : bit v (signal_of output) ≡ bit w (signal_of output) = (tracks x len).others (signal_of output) within unchanged in
    get_or-map (literal_bit v) net.outputs k output false there
    ∙ (ap (literal_bit v) (sym read) ∙ (ap (λ b. differ b (inverts output)) same ∙ (ap (literal_bit w) read ∙ sym (get_or-map (literal_bit w) net.outputs k output false there)))))

-- operands

-- the same of what has the same fields
same_near : (v w : List Bool) (end : ℕ) (near new : Near) → new.leaves ≡ near.leaves → new.changed ≡ near.changed → Tracks v w end near → Tracks v w end new
same_near v w end near new leaves changed tracks = record {
  few = subst (λ leaves. length leaves ≤ 6) (sym leaves) tracks.few;
  leaves = subst (All (λ leaf. bit v leaf ≡ bit w leaf)) (sym leaves) tracks.leaves;
  changed = subst (λ leaves. All (IsChanged v w leaves) new.changed) (sym leaves) (subst (All (IsChanged v w near.leaves)) (sym changed) tracks.changed);
  others = λ s below unchanged. tracks.others s below (subst (λ changed. IsUnchanged changed s) changed unchanged);
}

-- what is listed of a signal gives its literal
pub listed_tells : (literal : Lit) (near : Near) (sides new : SideWords) → IsListed near.changed (signal_of literal) (Some sides)
    → new.one ≡ signed_word sides.one (inverts literal)
    → new.other ≡ signed_word sides.other (inverts literal)
    → Tells literal near near new
listed_tells literal near sides new (k, entry, h, at, told) first second = record {
  same = refl;
  more = λ v m is. is;
  tracks = λ v w end below tracks. tracks;
  has = λ v w end below tracks.
      let read : HasSides v w near.leaves (bit v (signal_of literal)) (bit w (signal_of literal)) sides =
      subst (λ s. HasSides v w near.leaves (bit v s) (bit w s) sides) told.0 (subst (HasSides v w near.leaves (bit v entry.signal) (bit w entry.signal)) told.1 (subst (IsChanged v w near.leaves) at (tracks.changed k entry h))) in
      sides_signed v w near.leaves (bit v (signal_of literal)) (bit w (signal_of literal)) (inverts literal) sides new first second read;
}

-- and so does a leaf
pub leaf_tells : (literal : Lit) (near next : Near) (number word : ℕ) (new : SideWords) → IsUnchanged near.changed (signal_of literal)
    → IsLeaf near.leaves next.leaves (signal_of literal) number
    → next.changed ≡ near.changed
    → ((m : ℕ) → m < 64 → word_bit m word ≡ (m / 2 ^ number % 2 == 1))
    → new.one ≡ signed_word word (inverts literal)
    → new.other ≡ signed_word word (inverts literal)
    → Tells literal near next new
leaf_tells literal near next number word new unchanged leaf changed digits first second = record {
  same = changed;
  more = λ v m is. more v m leaf.grows is;
  tracks = λ v w end below tracks. tracked v w end below leaf.grows tracks;
  has = λ v w end below tracks.
      let now = tracked v w end below leaf.grows tracks in
      sides_signed v w next.leaves (bit v (signal_of literal)) (bit w (signal_of literal)) (inverts literal) (record { one = word; other = word }) new first second
      (leaf_has v w end (signal_of literal) number word next now leaf.there leaf.is digits);
}
  where
    more : (v : List Bool) (m : ℕ) → (next.leaves ≡ near.leaves) ⊎ ((length near.leaves < 6) × (next.leaves ≡ near.leaves ++ signal_of literal ∷ [])) → IsLane v next.leaves m → IsLane v near.leaves m
    more v m (inl same) is = subst (λ leaves. IsLane v leaves m) same is
    more v m (inr added) is = lane_before v near.leaves (signal_of literal) m (subst (λ leaves. IsLane v leaves m) added.1 is)

    tracked : (v w : List Bool) (end : ℕ) → signal_of literal < end → (next.leaves ≡ near.leaves) ⊎ ((length near.leaves < 6) × (next.leaves ≡ near.leaves ++ signal_of literal ∷ [])) → Tracks v w end near → Tracks v w end next
    tracked v w end below (inl same) tracks = same_near v w end near next same changed tracks
    tracked v w end below (inr added) tracks = leaf_more v w end (signal_of literal) near next tracks added.0 below unchanged added.1 changed

-- the bits of a gate, once both operands are known
gate_told : (gate : Gate) (signal : ℕ) (near first second : Near) (one other new : SideWords) → Tells gate.a near first one
    → Tells gate.b first second other
    → new.one ≡ bit_and one.one other.one
    → new.other ≡ bit_and one.other other.other
    → (v w : List Bool) → IsGateOf v signal gate → IsGateOf w signal gate → Tracks v w signal near
    → Tracks v w signal second × HasSides v w second.leaves (bit v signal) (bit w signal) new
gate_told gate signal near first second one other new upper lower left right v w here there tracks =
    let mid = upper.tracks v w signal here.first tracks in
    let a : HasSides v w second.leaves (literal_bit v gate.a) (literal_bit w gate.a) one = λ m lane. upper.has v w signal here.first tracks m (lower.more v m lane) in
    let b : HasSides v w second.leaves (literal_bit v gate.b) (literal_bit w gate.b) other = lower.has v w signal here.second mid in
    let both = sides_and v w second.leaves (literal_bit v gate.a) (literal_bit v gate.b) (literal_bit w gate.a) (literal_bit w gate.b) one other new left right a b in
    (lower.tracks v w signal here.second mid, λ m lane. (here.bit_is ∙ (both m lane).0, there.bit_is ∙ (both m lane).1))

-- a gate, once both operands are known
pub went : (gate : Gate) (signal : ℕ) (near first second last : Near) (one other new : SideWords) (result : Went) → Tells gate.a near first one
    → Tells gate.b first second other
    → new.one ≡ bit_and one.one other.one
    → new.other ≡ bit_and one.other other.other
    → IsListing signal new second last result
    → IsWent gate signal near last result
went gate signal near first second last one other new TooFar upper lower left right listing = tt
went gate signal near first second last one other new Same upper lower left right listing = (
  λ v w here there tracks.
      let at = gate_told gate signal near first second one other new upper lower left right v w here there tracks in
      same_near v w (signal + 1) second last listing.1 listing.2 (past_same v w signal second at.0 (same_sides v w second.leaves (bit v signal) (bit w signal) new at.0.few at.1 listing.0)),
  listing.2 ∙ (lower.same ∙ upper.same),
)
went gate signal near first second last one other new Differs upper lower left right listing = (
  λ v w here there tracks.
      let at = gate_told gate signal near first second one other new upper lower left right v w here there tracks in
      over_changed v w signal second last new at.0 at.1 listing.0 listing.1,
  (new, listing.1 ∙ ap (λ changed. changed ++ record { signal = signal; sides = new } ∷ []) (lower.same ∙ upper.same)),
)

-- spans

-- spans that are wider cover more
pub covered_more : (gates : List Gate) (count start end from to signal : ℕ) → from ≤ start → end ≤ to → IsCovered gates count start end signal → IsCovered gates count from to signal
covered_more gates count start end from to signal low high covers =
    λ place d there reads. let is = covers place d there reads in (omega (arith, is.0, low), omega (arith, is.1, high))

-- a gate outside of what covers all that is listed reads nothing of it
outside : (gates : List Gate) (count start end place : ℕ) (changed : List Changed) (d : Gate) → place < count
    → All (λ entry. IsCovered gates count start end entry.signal) changed
    → ((start ≤ place) × (place < end) → ⊥)
    → IsUnchanged changed (signal_of (get_or gates place d).a) × IsUnchanged changed (signal_of (get_or gates place d).b)
outside gates count start end place changed d there covered apart = (
  λ k e h is. apart (covered k e h place d there (inl (sym is))),
  λ k e h is. apart (covered k e h place d there (inr (sym is))),
)

-- what was found near two inputs

first_covered : (gates : List Gate) (count start end i j : ℕ) (inverted : Bool) → IsCovered gates count start end (i + 1) → IsCovered gates count start end (j + 1) → All (λ entry. IsCovered gates count start end entry.signal) (first_listed i j inverted)
first_covered gates count start end i j inverted one other zero d h = one
first_covered gates count start end i j inverted one other (suc zero) d h = other
first_covered gates count start end i j inverted one other (suc (suc k)) d h = absurd (omega (arith, h))

pub spreads_start : (net : Net) (i j : ℕ) (inverted : Bool) (start end : ℕ) (near : Near) → IsOrdered net → i < j → j < net.inputs
    → near.leaves ≡ []
    → near.changed ≡ first_listed i j inverted
    → start ≤ end
    → end ≤ length net.gates
    → IsCovered net.gates (length net.gates) start end (i + 1)
    → IsCovered net.gates (length net.gates) start end (j + 1)
    → Spreads net i j inverted start start end near
spreads_start net i j inverted start end near ordered order there leaves changed le within one other =
    let covered : All (λ entry. IsCovered net.gates (length net.gates) start end entry.signal) near.changed =
    subst (All (λ entry. IsCovered net.gates (length net.gates) start end entry.signal)) (sym changed) (first_covered net.gates (length net.gates) start end i j inverted one other) in
    record {
      within = within;
      tracks = λ x len.
          subst (λ n. Tracks (side net i j false (not inverted) x) (side net i j true inverted x) (1 + net.inputs + n) near) (omega arith)
          (run net (side net i j false (not inverted) x) (side net i j true inverted x) start 0 near
          (gates_at net i j false (not inverted) x ordered len) (gates_at net i j true inverted x ordered len) (omega (arith, le, within))
          (λ place d from below. outside net.gates (length net.gates) start end place near.changed d (omega (arith, below, le, within)) covered (λ is. omega (arith, is.0, below)))
          (subst (λ n. Tracks (side net i j false (not inverted) x) (side net i j true inverted x) n near) (omega arith) (tracks_start net i j inverted x near ordered len order there leaves changed)));
      covered = covered;
    }

gone_over : (net : Net) (i j : ℕ) (inverted : Bool) (start place end signal : ℕ) (near new : Near) (d : Gate) → IsOrdered net → place < length net.gates → signal ≡ 1 + net.inputs + place
    → Spreads net i j inverted start place end near
    → GoesOver (get_or net.gates place d) signal near new
    → (x : List Bool) → length x ≡ net.inputs → Tracks (side net i j false (not inverted) x) (side net i j true inverted x) (1 + net.inputs + (place + 1)) new
gone_over net i j inverted start place end signal near new d ordered there is spreads over x len =
    let v = side net i j false (not inverted) x in
    let w = side net i j true inverted x in
    let gate = get_or net.gates place d in
    let one : IsGateOf v signal gate = subst (λ s. IsGateOf v s gate) (sym is) (gates_at net i j false (not inverted) x ordered len place d there) in
    let other : IsGateOf w signal gate = subst (λ s. IsGateOf w s gate) (sym is) (gates_at net i j true inverted x ordered len place d there) in
    subst (λ n. Tracks v w n new) (omega (arith, is)) (over v w one other (subst (λ n. Tracks v w n near) (sym is) (spreads.tracks x len)))

pub spreads_same : (net : Net) (i j : ℕ) (inverted : Bool) (start place end signal : ℕ) (near new : Near) (d : Gate) → IsOrdered net → place < length net.gates → signal ≡ 1 + net.inputs + place
    → Spreads net i j inverted start place end near
    → GoesOver (get_or net.gates place d) signal near new
    → new.changed ≡ near.changed
    → Spreads net i j inverted start (place + 1) end new
spreads_same net i j inverted start place end signal near new d ordered there is spreads over changed = record {
  within = spreads.within;
  tracks = gone_over net i j inverted start place end signal near new d ordered there is spreads over;
  covered = subst (All (λ entry. IsCovered net.gates (length net.gates) start end entry.signal)) (sym changed) spreads.covered;
}

pub spreads_more : (net : Net) (i j : ℕ) (inverted : Bool) (start place end to signal : ℕ) (near new : Near) (d : Gate) (span : GateSpan) → IsOrdered net → place < length net.gates → start ≤ place → signal ≡ 1 + net.inputs + place
    → Spreads net i j inverted start place end near
    → GoesOver (get_or net.gates place d) signal near new
    → HasMore signal near.changed new.changed
    → IsSpan net.gates (length net.gates) signal span
    → end ≤ to
    → span.end ≤ to
    → to ≤ length net.gates
    → Spreads net i j inverted start (place + 1) to new
spreads_more net i j inverted start place end to signal near new d span ordered there low is spreads over more spans le wide within =
    let entry : Changed = record { signal = signal; sides = more.0 } in
    let P : Changed → Type 0 = λ entry. IsCovered net.gates (length net.gates) start to entry.signal in
    let before : All P near.changed = λ k e h. covered_more net.gates (length net.gates) start end start to (get_or near.changed k e).signal (omega arith) le (spreads.covered k e h) in
    let here : P entry = λ p e h reads. (after p e h reads, omega (arith, (spans.covers p e h reads).1, wide)) in
    record {
      within = within;
      tracks = gone_over net i j inverted start place end signal near new d ordered there is spreads over;
      covered = subst (All P) (sym more.1) (All-push P near.changed entry before here);
    }
  where
    after : (p : ℕ) (e : Gate) → p < length net.gates → (signal_of (get_or net.gates p e).a ≡ signal) ⊎ (signal_of (get_or net.gates p e).b ≡ signal) → start ≤ p
    after p e h (inl reads) = omega (arith, ordered.first_operands p e h, reads, is, low)
    after p e h (inr reads) = omega (arith, ordered.second_operands p e h, reads, is, low)

pub spreads_end : (net : Net) (i j : ℕ) (inverted : Bool) (start place end : ℕ) (near : Near) → IsOrdered net → end ≤ place → place ≤ length net.gates
    → Spreads net i j inverted start place end near
    → (x : List Bool) → length x ≡ net.inputs → Tracks (side net i j false (not inverted) x) (side net i j true inverted x) (signals_of net) near
spreads_end net i j inverted start place end near ordered le within spreads x len =
    let v = side net i j false (not inverted) x in
    let w = side net i j true inverted x in
    let count = length net.gates - place in
    let all : place + count ≡ length net.gates = omega (arith, within) in
    subst (λ n. Tracks v w n near) (ap (λ n. 1 + net.inputs + n) all)
    (run net v w count place near (gates_at net i j false (not inverted) x ordered len) (gates_at net i j true inverted x ordered len) (omega (arith, all))
    (λ p d from below. outside net.gates (length net.gates) start end p near.changed d (omega (arith, below, all)) spreads.covered (λ is. omega (arith, is.1, from, le)))
    (spreads.tracks x len))

-- the spans of a circuit, gate by gate

pub spans_none : (net : Net) (spans : List GateSpan) → length spans ≡ signals_of net → All (λ span. span.end ≡ 0) spans → AreSpans net 0 spans
spans_none net spans count none = record {
  signals = count;
  each = λ k d h. record { end = omega (arith, none k d h); covers = λ p e below reads. absurd (omega (arith, below)) };
}

pub empty_more : (spans new : List GateSpan) (count : ℕ) (span : GateSpan) → length spans ≡ count → All (λ (span : GateSpan). span.end ≡ 0) spans → span.end ≡ 0 → new ≡ spans ++ span ∷ [] → (length new ≡ count + 1) × All (λ (span : GateSpan). span.end ≡ 0) new
empty_more spans new count span counted none empty is =
    subst (λ (new : List GateSpan). (length new ≡ count + 1) × All (λ (span : GateSpan). span.end ≡ 0) new) (sym is) (omega (arith, length_push spans span, counted), All-push (λ (span : GateSpan). span.end ≡ 0) spans span none empty)

-- from where on, and to where, gates are gone over
pub both_spans : (one other : GateSpan) (low start end : ℕ) → end ≡ max one.end other.end → low ≡ min one.start other.start → start ≡ min low end → (start ≤ one.start) × (start ≤ other.start) × (start ≤ end) × (one.end ≤ end) × (other.end ≤ end)
both_spans one other low start end last first begin =
    (omega (arith, first, begin), omega (arith, first, begin), omega (arith, begin), omega (arith, last), omega (arith, last))

-- a gate is gone over, and its signal isn't listed
pub step_same : (net : Net) (gates : List Gate) (i j : ℕ) (inverted : Bool) (start place end to signal : ℕ) (near new : Near) (d : Gate) (result : Went) → IsOrdered net
    → gates ≡ net.gates
    → place < length gates
    → signal ≡ 1 + net.inputs + place
    → Spreads net i j inverted start place end near × start ≤ place
    → IsWent (get_or gates place d) signal near new result
    → result ≡ Same
    → to ≡ end
    → Spreads net i j inverted start (place + 1) to new × start ≤ place + 1
step_same net gates i j inverted start place end to signal near new d result ordered lent there is spreads over same ends =
    let went : IsWent (get_or net.gates place d) signal near new Same = subst (λ gates. IsWent (get_or gates place d) signal near new Same) lent (subst (IsWent (get_or gates place d) signal near new) same over) in (
      subst (λ end. Spreads net i j inverted start (place + 1) end new) (sym ends) (spreads_same net i j inverted start place end signal near new d ordered (omega (arith, there, ap length lent)) is spreads.0 went.0 went.1),
      omega (arith, spreads.1),
    )

-- and it is
pub step_differs : (net of : Net) (gates : List Gate) (i j : ℕ) (inverted : Bool) (start place end to signal : ℕ) (near new : Near) (d : Gate) (result : Went) (span : GateSpan) → IsOrdered net
    → net ≡ of
    → gates ≡ net.gates
    → place < length gates
    → signal ≡ 1 + net.inputs + place
    → Spreads net i j inverted start place end near × start ≤ place
    → IsWent (get_or gates place d) signal near new result
    → result ≡ Differs
    → IsSpan of.gates (length of.gates) signal span
    → to ≡ max end span.end
    → Spreads net i j inverted start (place + 1) to new × start ≤ place + 1
step_differs net of gates i j inverted start place end to signal near new d result span ordered same_net lent there is spreads over same spans ends =
    let went : IsWent (get_or net.gates place d) signal near new Differs = subst (λ gates. IsWent (get_or gates place d) signal near new Differs) lent (subst (IsWent (get_or gates place d) signal near new) same over) in
    let wide : IsSpan net.gates (length net.gates) signal span = subst (λ (net : Net). IsSpan net.gates (length net.gates) signal span) (sym same_net) spans in (
      spreads_more net i j inverted start place end to signal near new d span ordered (omega (arith, there, ap length lent)) spreads.1 is spreads.0 went.0 went.1 wide (omega (arith, ends)) (omega (arith, ends)) (omega (arith, ends, wide.end, spreads.0.within)),
      omega (arith, spreads.1),
    )

-- the output isn't listed
pub hidden_at : (net lent : Net) (outputs : List Lit) (k i j : ℕ) (inverted : Bool) (near : Near) (changed : List Changed) (signal : ℕ) (d : Lit) → IsOrdered lent
    → lent ≡ net
    → outputs ≡ lent.outputs
    → k < length net.outputs
    → changed ≡ near.changed
    → signal ≡ signal_of (get_or outputs k d)
    → IsWhole net i j inverted near
    → IsUnchanged changed signal
    → IsAlike net.inputs (output_bit net k) i j inverted
hidden_at net lent outputs k i j inverted near changed signal d ordered same lists there listed read whole unchanged =
    let output = get_or net.outputs k d in
    let at : signal ≡ signal_of output = read ∙ ap (λ outputs. signal_of (get_or outputs k d)) (lists ∙ ap (λ (net : Net). net.outputs) same) in
    hidden net k i j inverted near output (subst IsOrdered same ordered) there (get_or_default net.outputs k d output there) whole (subst (IsUnchanged near.changed) at (subst (λ changed. IsUnchanged changed signal) listed unchanged))
