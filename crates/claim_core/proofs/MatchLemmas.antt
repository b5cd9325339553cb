-- The queries of a match: their feeds, and what they ask for.
use Rattle.std.proofs.Common.{◌≡◌, ◌≢◌, ℕ, zero, suc, ◌+◌, ◌≤◌, ◌<◌, ◌⊎◌, not, Bool, true, false, cond, eqb, List, [], ◌∷◌, All, AllPairs, length, map, slice_index_or, inl, inr, refl, sym, ap, subst, ◌∙◌, arith, eq-eqb, ne_eqb, ext_get_or}
use Rattle.std.proofs.lemmas.Bool.{cond-true, cond-false}
use Rattle.std.specs.List.{range_with_len}
use Rattle.std.proofs.lemmas.List.{same_lists, get_or-map, length-map}
use Rattle.std.proofs.lemmas.List.Elements.{All-map}
use Rattle.std.proofs.lemmas.List.FromFn.{length-range_with_len, length-map-range_with_len, get_or-range_with_len, get_or-map-range_with_len}
use Rattle.circuits.specs.Literals.{bit, differ}
use Rattle.circuits.specs.Netlists.{function_of}
use Rattle.circuits.specs.Bijections.{IsSignedBijection, Moves, moved, place_of, sign_of}
use Rattle.circuits.specs.Matches.{HavePorts, IsMatchOfFunctions}
use Rattle.circuits.proofs.MatchLaws.{match_from_all}
use Rattle.circuits.proofs.Places.{moved-only, IsSignedBijection-onto}
use Rattle.circuits.proofs.Expansions.{differ_false}
use Rattle.net_core.specs.Sides.{Graphs}
use Rattle.net_core.specs.declared.matching.Matching.{Matching}
use Rattle.net_core.specs.Graph.{IsGraph}
use Rattle.claim_core.specs.declared.query.Feed.{Feed}
use Rattle.claim_core.specs.declared.query.Feed.TheVariants.{Wire}
use Rattle.claim_core.specs.Queries.{feed_bit, cone_bit, IsQuery, IsWired, IsUnmet}
use Rattle.claim_core.specs.MatchQueries.{match_query, moved_feed, straight, wire_to, IsMovedFeed}

pub straight_count : (n : ℕ) → length (straight n) ≡ n
straight_count n = length-map-range_with_len (λ i. Wire i false) 0 n

pub straight_wired : (n : ℕ) → All (IsWired n) (straight n)
straight_wired n =
    All-map (IsWired n) (λ i. Wire i false) (range_with_len 0 n) (λ k d within.
    let below : k < n = omega (arith, within, length-range_with_len 0 n) in
    omega (arith, get_or-range_with_len 0 n k d below, below))

-- straight feeds give the vector itself
pub straight_bits : (x : List Bool) (n : ℕ) → length x ≡ n → map (feed_bit x) (straight n) ≡ x
straight_bits x n same =
    ext_get_or false (map (feed_bit x) (straight n)) x (length-map (straight n) (feed_bit x) ∙ (straight_count n ∙ sym same)) (λ i below.
    let here : i < n = omega (arith, below, length-map (straight n) (feed_bit x), straight_count n) in
    let none : Feed = Wire 0 false in
    get_or-map (feed_bit x) (straight n) i none false (omega (arith, here, straight_count n))
    ∙ (ap (feed_bit x) (get_or-map-range_with_len (λ i. Wire i false) 0 n i i none here (omega arith)) ∙ differ_false (bit x i)))

-- what the place of entry j gets
wire_to-place : (i : ℕ) (p : List (ℕ × Bool)) (j : ℕ) → AllPairs (λ (one other : ℕ × Bool). one.0 ≢ other.0) p → j < length p → wire_to i p (place_of p j) ≡ Wire (i + j) (sign_of p j)
wire_to-place i [] j distinct below = absurd (omega arith)
wire_to-place i (entry ∷ p) zero distinct below =
    let here : i ≡ i + zero = omega arith in
    cond-true (eqb entry.0 entry.0) (Wire i entry.1) (wire_to (i + 1) p entry.0) (eq-eqb entry.0 entry.0 refl) ∙ ap (λ n. Wire n entry.1) here
wire_to-place i (entry ∷ p) (suc j) distinct below =
    let apart = ne_eqb entry.0 (place_of p j) (distinct 0 (suc j) (0, false) (omega arith) below) in
    let next : i + 1 + j ≡ i + suc j = omega arith in
    cond-false (eqb entry.0 (place_of p j)) (Wire i entry.1) (wire_to (i + 1) p (place_of p j)) apart ∙ (wire_to-place (i + 1) p j (λ a b d l m. distinct (suc a) (suc b) d (omega arith) (omega arith)) (omega arith) ∙ ap (λ n. Wire n (sign_of p j)) next)

-- each wire is from one of the inputs
wire_to-wired : (n i : ℕ) (p : List (ℕ × Bool)) (place : ℕ) → i + length p ≤ n → IsWired n (wire_to i p place)
wire_to-wired n i [] place few = tt
wire_to-wired n i (entry ∷ p) place few =
    either (eqb entry.0 place) (Wire i entry.1) (wire_to (i + 1) p place) (omega arith) (wire_to-wired n (i + 1) p place (omega arith))
  where
    either : (b : Bool) (x y : Feed) → IsWired n x → IsWired n y → IsWired n (cond b x y)
    either true x y first second = first
    either false x y first second = second

moved_count : (p : List (ℕ × Bool)) → length (moved_feed p) ≡ length p
moved_count p = length-map-range_with_len (wire_to 0 p) 0 (length p)

pub moved_is : (p : List (ℕ × Bool)) → IsSignedBijection (length p) p → IsMovedFeed p (moved_feed p)
moved_is p bijection = record {
  inputs = moved_count p;
  wires = λ i d below.
      let place : place_of p i < length p = bijection.in_range i (0, false) below in
      get_or-map-range_with_len (wire_to 0 p) 0 (length p) (place_of p i) (place_of p i) d place (omega arith)
      ∙ (wire_to-place 0 p i bijection.distinct below ∙ ap (λ n. Wire n (sign_of p i)) (omega arith));
  wired = All-map (IsWired (length p)) (wire_to 0 p) (range_with_len 0 (length p)) (λ k d within. wire_to-wired (length p) 0 p (slice_index_or (range_with_len 0 (length p)) k d) (omega arith));
}

pub moved_alone : (p : List (ℕ × Bool)) (feed : List Feed) → IsSignedBijection (length p) p → IsMovedFeed p feed → feed ≡ moved_feed p
moved_alone p feed bijection is =
    same_lists feed (moved_feed p) (is.inputs ∙ sym (moved_count p)) (λ place d below.
    let at = IsSignedBijection-onto (length p) p bijection place (omega (arith, below, is.inputs)) in
    ap (λ j. slice_index_or feed j d) (sym at.2) ∙ (is.wires at.0 d at.1 ∙ (sym ((moved_is p bijection).wires at.0 d at.1) ∙ ap (λ j. slice_index_or (moved_feed p) j d) at.2)))

-- moved feeds give the vector moved
moved_bits : (p : List (ℕ × Bool)) (x : List Bool) → IsSignedBijection (length x) p → map (feed_bit x) (moved_feed p) ≡ moved p x
moved_bits p x shape =
    let own = subst (λ n. IsSignedBijection n p) (sym shape.entries) shape in
    let is = moved_is p own in
    let moves : Moves p x (map (feed_bit x) (moved_feed p)) = record {
      same_length = length-map (moved_feed p) (feed_bit x) ∙ (is.inputs ∙ shape.entries);
      bits = λ i below.
          let none : Feed = Wire 0 false in
          let there : place_of p i < length (moved_feed p) = omega (arith, own.in_range i (0, false) below, is.inputs) in
          get_or-map (feed_bit x) (moved_feed p) (place_of p i) none false there ∙ ap (feed_bit x) (is.wires i none below);
    } in
    moved-only p x (map (feed_bit x) (moved_feed p)) shape moves

-- the outputs that a match's query speaks of
pub left_bit : (graphs : Graphs) (matching : Matching) (k : ℕ) (value : Bool) (x : List Bool) → length x ≡ graphs.first.inputs → cone_bit graphs x (match_query graphs.first.inputs matching k value).left ≡ bit (function_of graphs.first x) k
left_bit graphs matching k value x same =
    ap (λ y. bit (function_of graphs.first y) k) (straight_bits x graphs.first.inputs same)

pub right_bit : (graphs : Graphs) (matching : Matching) (k : ℕ) (value : Bool) (x : List Bool) → IsSignedBijection (length x) matching.inputs → cone_bit graphs x (match_query graphs.first.inputs matching k value).right ≡ bit (function_of graphs.second (moved matching.inputs x)) (place_of matching.outputs k)
right_bit graphs matching k value x shape =
    ap (λ y. bit (function_of graphs.second y) (place_of matching.outputs k)) (moved_bits matching.inputs x shape)

-- two bits agree by a sign, or the second has the value that is asked for
agree_or_ask : (b c s : Bool) → (b ≡ differ c s) ⊎ (c ≡ differ (not b) s)
agree_or_ask true true true = inr refl
agree_or_ask true true false = inl refl
agree_or_ask true false true = inl refl
agree_or_ask true false false = inr refl
agree_or_ask false true true = inl refl
agree_or_ask false true false = inr refl
agree_or_ask false false true = inr refl
agree_or_ask false false false = inl refl

pub not_both : (b c s : Bool) → b ≡ differ c s → c ≡ differ (not b) s → ⊥
not_both true true true agree ask = cc
not_both true true false agree ask = cc
not_both true false true agree ask = cc
not_both true false false agree ask = cc
not_both false true true agree ask = cc
not_both false true false agree ask = cc
not_both false false true agree ask = cc
not_both false false false agree ask = cc

-- no query of any output is met: the signed bijections are a match
pub match_of_unmet : (graphs : Graphs) (matching : Matching) → IsGraph graphs.first → IsGraph graphs.second → HavePorts graphs.first graphs.second matching.inputs matching.outputs → ((k : ℕ) (value : Bool) → k < length graphs.first.outputs → IsUnmet graphs (match_query graphs.first.inputs matching k value)) → IsMatchOfFunctions graphs.first graphs.second matching.inputs matching.outputs
match_of_unmet graphs matching first second ports unmet =
    let p = matching.inputs in
    let q = matching.outputs in
    match_from_all graphs.first graphs.second p q ports (λ x same k below.
    let here : k < length graphs.first.outputs = omega (arith, below, ports.outputs.entries) in
    let b = bit (function_of graphs.first x) k in
    let c = bit (function_of graphs.second (moved p x)) (place_of q k) in
    let shape = subst (λ n. IsSignedBijection n p) (sym same) ports.inputs in
    elim (agree_or_ask b c (sign_of q k)) [
      | inl agree ↦ agree
      | inr ask ↦ absurd (unmet k b here x same (record { left = left_bit graphs matching k b x same; right = right_bit graphs matching k b x shape ∙ ask }))
    ])

-- the signed bijections are a match: no query of any output is met
pub unmet_of_match : (graphs : Graphs) (matching : Matching) → IsGraph graphs.first → IsGraph graphs.second → IsMatchOfFunctions graphs.first graphs.second matching.inputs matching.outputs → (k : ℕ) (value : Bool) → k < length graphs.first.outputs → IsUnmet graphs (match_query graphs.first.inputs matching k value)
unmet_of_match graphs matching first second functions k value below x same meets =
    let p = matching.inputs in
    let q = matching.outputs in
    let shape = subst (λ n. IsSignedBijection n p) (sym same) functions.inputs in
    let b = bit (function_of graphs.first x) k in
    let c = bit (function_of graphs.second (moved p x)) (place_of q k) in
    let agree = functions.agree x same k (omega (arith, below, functions.outputs.entries)) in
    let value_is : b ≡ value = sym (left_bit graphs matching k value x same) ∙ meets.left in
    let ask : c ≡ differ (not b) (sign_of q k) = sym (right_bit graphs matching k value x shape) ∙ (meets.right ∙ ap (λ v. differ (not v) (sign_of q k)) (sym value_is)) in
    not_both b c (sign_of q k) agree ask

-- the query of a match fits the two circuits
pub match_query_fits : (graphs : Graphs) (matching : Matching) (k : ℕ) (value : Bool) → HavePorts graphs.first graphs.second matching.inputs matching.outputs → k < length graphs.first.outputs → IsQuery graphs (match_query graphs.first.inputs matching k value)
match_query_fits graphs matching k value ports below =
    let n = graphs.first.inputs in
    let p = matching.inputs in
    let entries = ports.inputs.entries in
    let moved = moved_is p (subst (λ m. IsSignedBijection m p) (sym entries) ports.inputs) in
    let place = ports.outputs.in_range k (0, false) (omega (arith, below, ports.outputs.entries)) in
    record {
      left = record { inputs = refl; output = below; feed = straight_count n; wires = straight_wired n };
      right = record {
        inputs = ports.same_inputs;
        output = omega (arith, place, ports.same_outputs);
        feed = moved.inputs ∙ entries;
        wires = subst (λ m. All (IsWired m) (moved_feed p)) entries moved.wired;
      };
    }
