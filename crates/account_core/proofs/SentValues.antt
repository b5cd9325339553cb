-- What the pairs make of values at the second circuit's inputs.
use Rattle.std.proofs.Common.{◌≡◌, ◌≢◌, ℕ, zero, suc, ◌<◌, ◌≤◌, Bool, true, false, List, [], ◌∷◌, length, map, refl, sym, ap, subst, ◌∙◌, inl, inr, arith}
use Rattle.std.proofs.lemmas.Bool.{cases_lt}
use Rattle.std.proofs.lemmas.List.{length-map, get_or-map}
use Rattle.std.proofs.lemmas.List.FromFn.{length-map-range_with_len, get_or-map-range_with_len}
use Rattle.std.proofs.lemmas.List.Elements.{All-contains}
use Rattle.circuits.specs.declared.port.Pair.{Pair}
use Rattle.circuits.specs.declared.port.PortKind.TheVariants.{Input, Output}
use Rattle.circuits.specs.Literals.{bit, differ}
use Rattle.circuits.specs.Netlists.{Net, IsOrdered, function_of}
use Rattle.circuits.specs.Bijections.{IsSignedBijection, Moves, moved, place_of, sign_of}
use Rattle.circuits.proofs.Places.{moved-moves, length-moved}
use Rattle.net_core.specs.Sides.{Graphs}
use Rattle.net_core.specs.Graph.{IsGraph}
use Rattle.claim_core.specs.Images.{HasPair, Extends}
use Rattle.word_sim.specs.declared.tri.Tri.{Tri}
use Rattle.word_sim.specs.declared.tri.Tri.TheVariants.{Zero, One, X}
use Rattle.word_sim.specs.ThreeValues.{tri_outputs, IsBitOf, FillsIn, of_bit}
use Rattle.word_sim.proofs.Fillings.{FillsIn-outputs}
use Rattle.account_core.specs.Vectors.{value_at, signed, value_sent, values_sent, ShowsDifference}
use Rattle.account_core.specs.Exclusions.{Excludes}
use Rattle.account_core.proofs.Matched.{pair_goes, pair_of-held}
use Rattle.account_core.proofs.SentOnly.{source}

-- each X filled in by 0
abbrev pub is_one : Tri → Bool
is_one Zero = false
is_one One = true
is_one X = false

abbrev pub filled : List Tri → List Bool
filled values = map is_one values

is_one-bit : (value : Tri) → IsBitOf value (is_one value)
is_one-bit Zero = refl
is_one-bit One = refl
is_one-bit X = tt

filled-fills : (values : List Tri) → FillsIn values (filled values)
filled-fills values = record {
  places = length-map values is_one;
  bits = λ k below. subst (λ b. IsBitOf (value_at values k) b) (sym (get_or-map is_one values k X false below)) (is_one-bit (value_at values k));
}

-- a value inverted stands for the bit inverted
signed_bit : (flip : Bool) (value : Tri) (b : Bool) → IsBitOf value b → IsBitOf (signed flip value) (differ b flip)
signed_bit false Zero true is = is
signed_bit false Zero false is = is
signed_bit false One true is = is
signed_bit false One false is = is
signed_bit false X b is = tt
signed_bit true Zero true is = cc
signed_bit true Zero false is = refl
signed_bit true One true is = refl
signed_bit true One false is = cc
signed_bit true X b is = tt

-- a value after the end is X
value_bit : (values : List Tri) (x : List Bool) (k : ℕ) → FillsIn values x → IsBitOf (value_at values k) (bit x k)
value_bit values x k fills =
    elim (cases_lt k (length values)) [
      | inl below ↦ fills.bits k below
      | inr past ↦ subst (λ v. IsBitOf v (bit x k)) (sym (after values k past)) tt
    ]
  where
    after : (values : List Tri) (k : ℕ) → length values ≤ k → value_at values k ≡ X
    after [] k past = refl
    after (v ∷ values) zero past = absurd (omega arith)
    after (v ∷ values) (suc k) past = after values k (omega arith)

-- what a place gets is what the vector moved has there
sent_bit : (p q : List (ℕ × Bool)) (pairs : List Pair) (values : List Tri) (x y : List Bool) (place : ℕ) → Moves p x y → FillsIn values x → Extends pairs p q → IsBitOf (value_sent pairs values place) (bit y place)
sent_bit p q pairs values x y place moves fills extends =
    elim (source pairs values place) [
      | inl (pair, is) ↦
          let found = pair_goes p q pair Input (All-contains (HasPair p q) pairs pair extends is.held) is.of_input in
          let moved_bit : bit y place ≡ differ (bit x pair.from) pair.flip = ap (λ k. bit y k) (sym (found.1 ∙ is.goes)) ∙ (moves.bits pair.from found.0 ∙ ap (λ s. differ (bit x pair.from) s) found.2) in
          subst (λ v. IsBitOf v (bit y place)) (sym is.value)
          (subst (λ b. IsBitOf (signed pair.flip (value_at values pair.from)) b) (sym moved_bit) (signed_bit pair.flip (value_at values pair.from) (bit x pair.from) (value_bit values x pair.from fills)))
      | inr none ↦ subst (λ v. IsBitOf v (bit y place)) (sym none.value) tt
    ]

sent_fills : (p q : List (ℕ × Bool)) (pairs : List Pair) (n : ℕ) (values : List Tri) (x y : List Bool) → Moves p x y → length y ≡ n → FillsIn values x → Extends pairs p q → FillsIn (values_sent pairs n values) y
sent_fills p q pairs n values x y moves same fills extends = record {
  places = same ∙ sym (length-map-range_with_len (value_sent pairs values) 0 n);
  bits = λ k below.
      let here : k < n = omega (arith, below, length-map-range_with_len (value_sent pairs values) 0 n) in
      subst (λ v. IsBitOf v (bit y k)) (sym (get_or-map-range_with_len (value_sent pairs values) 0 n k k X here (omega arith))) (sent_bit p q pairs values x y k moves fills extends);
}

definite : (value : Tri) (b : Bool) → value ≢ X → IsBitOf value b → value ≡ of_bit b
definite Zero b apart is = ap of_bit (sym is)
definite One b apart is = ap of_bit (sym is)
definite X b apart is = absurd (apart refl)

of_differ : (b flip : Bool) → of_bit (differ b flip) ≡ signed flip (of_bit b)
of_differ true true = refl
of_differ true false = refl
of_differ false true = refl
of_differ false false = refl

-- the value of an output, where it is definite, is its bit
value_is : (net : Net) (values : List Tri) (x : List Bool) (k : ℕ) → IsOrdered net → length values ≡ net.inputs → FillsIn values x → value_at (tri_outputs net values) k ≢ X → value_at (tri_outputs net values) k ≡ of_bit (bit (function_of net x) k)
value_is net values x k ordered same fills apart =
    definite (value_at (tri_outputs net values) k) (bit (function_of net x) k) apart (value_bit (tri_outputs net values) (function_of net x) k (FillsIn-outputs net values x ordered same fills))

-- A match gives both outputs, on the vector with each X filled in, the bits that the values stand for.
pub vector_contradicts : (graphs : Graphs) (pairs : List Pair) (output : ℕ) (values : List Tri) → IsGraph graphs.first → IsGraph graphs.second → ShowsDifference graphs pairs output values → Excludes graphs pairs
vector_contradicts graphs pairs output values first second shows p q match extends =
    let pair = shows.pair in
    let x = filled values in
    let y = moved p x in
    let n = graphs.second.inputs in
    let as_long : length x ≡ graphs.first.inputs = length-map values is_one ∙ shows.places in
    let shape : IsSignedBijection (length x) p = subst (λ n. IsSignedBijection n p) (sym as_long) match.inputs in
    let y_long : length y ≡ n = length-moved p x ∙ (as_long ∙ sym match.same_inputs) in
    let fills = filled-fills values in
    let sent = sent_fills p q pairs n values x y (moved-moves p x shape) y_long fills extends in
    let held = pair_of-held pairs Output output pair shows.paired in
    let found = pair_goes p q pair Output (All-contains (HasPair p q) pairs pair extends held.0) held.1 in
    let goes = subst (λ k. (k < length q) × (place_of q k ≡ pair.to) × (sign_of q k ≡ pair.flip)) held.2 found in
    let c = bit (function_of graphs.second y) pair.to in
    let one = value_is graphs.first values x output first.ordered shows.places fills shows.first_definite in
    let other = value_is graphs.second (values_sent pairs n values) y pair.to second.ordered (length-map-range_with_len (value_sent pairs values) 0 n) sent shows.second_definite in
    let agree : bit (function_of graphs.first x) output ≡ differ c pair.flip = match.agree x as_long output goes.0 ∙ (ap (λ k. differ (bit (function_of graphs.second y) k) (sign_of q output)) goes.1 ∙ ap (λ s. differ c s) goes.2) in
    shows.differ (one ∙ (ap of_bit agree ∙ (of_differ c pair.flip ∙ ap (signed pair.flip) (sym other))))
