-- A vector on which an output differs from its partner shows it on the pairs of all inputs.
use Rattle.std.proofs.Common.{◌≡◌, ◌⊎◌, ℕ, ◌<◌, Bool, false, List, [], ◌∷◌, ◌++◌, length, map, get_or, All, Some, refl, sym, ap, subst, ◌∙◌, inl, inr, arith}
use Rattle.std.specs.Prelude.{Contains, IsSome}
use Rattle.std.proofs.lemmas.List.{length-map, get_or-map}
use Rattle.std.proofs.lemmas.List.Elements.{All-contains, All-push, All-contains_itself, Contains-get_or, Contains-push, Contains-push_cases, Contains-append_left}
use Rattle.std.proofs.lemmas.List.FromFn.{length-map-range_with_len, get_or-map-range_with_len}
use Rattle.std.proofs.lemmas.List.Quantifiers.{all_pairs_push}
use Rattle.circuits.specs.declared.port.Pair.{Pair}
use Rattle.circuits.specs.declared.port.PortKind.{PortKind}
use Rattle.circuits.specs.declared.port.PortKind.TheVariants.{Input, Output}
use Rattle.circuits.specs.Literals.{bit}
use Rattle.circuits.specs.Netlists.{function_of}
use Rattle.circuits.specs.Bijections.{IsSignedBijection, moved, place_of, sign_of}
use Rattle.circuits.specs.Matches.{HavePorts}
use Rattle.circuits.proofs.Places.{moved-moves, length-moved, IsSignedBijection-onto}
use Rattle.net_core.specs.Sides.{Graphs}
use Rattle.net_core.specs.declared.graphs.Side.TheVariants.{First}
use Rattle.net_core.specs.declared.matching.Matching.{Matching}
use Rattle.net_core.specs.Graph.{IsGraph}
use Rattle.claim_core.specs.Images.{HasPair, Extends, entries_of, pair_of}
use Rattle.word_sim.specs.declared.tri.Tri.{Tri}
use Rattle.word_sim.specs.declared.tri.Tri.TheVariants.{X}
use Rattle.word_sim.specs.ThreeValues.{tri_outputs, of_bit}
use Rattle.account_core.specs.Ports.{IsKnown, AreOrdered, StandInOrder}
use Rattle.oracle_core.specs.Oracles.{IsDifference}
use Rattle.account_core.specs.Vectors.{first_value, second_value, signed, value_at, AreSent}
use Rattle.account_core.specs.declared.step.Step.TheVariants as step
use Rattle.account_core.specs.Given.{Given}
use Rattle.account_core.specs.Steps.{IsValidBan}
use Rattle.account_core.proofs.SentOnly.{sent_only}
use Rattle.account_core.specs.Assigned.{IsOf, IsWhole}
use Rattle.vector_bans.specs.Differences.{pair_from, pairs_from, IsShown}
use Rattle.ban_book.proofs.BlockListLemmas.{contained_of_any}
use Rattle.ban_book.proofs.MismatchLemmas.{pair_of-one}
use Rattle.vector_bans.proofs.ShownLemmas.{input_output}
use Rattle.vector_bans.proofs.DefiniteLemmas.{of_differ, of_bit_definite, of_bit_same, of_output}

-- two pairs of a port that a matching has are one
same_pair : (p q : List (ℕ × Bool)) (one other : Pair) → one.kind ≡ other.kind → one.from ≡ other.from → HasPair p q one → HasPair p q other → one ≡ other
same_pair p q one other kind from has_one has_other =
    let entry : (one.to, one.flip) ≡ (other.to, other.flip) = sym has_one.goes ∙ (ap (λ k. get_or (entries_of k p q) one.from (0, false)) kind ∙ (ap (λ i. get_or (entries_of other.kind p q) i (0, false)) from ∙ has_other.goes)) in
    let build : PortKind → ℕ → ℕ × Bool → Pair = λ k i e. record { kind = k; from = i; to = e.0; flip = e.1 } in
    ap (λ k. build k one.from (one.to, one.flip)) kind
    ∙ (ap (λ i. build other.kind i (one.to, one.flip)) from ∙ ap (build other.kind other.from) entry)

module _ (graphs : Graphs) (matching : Matching) (output : ℕ) (ports : HavePorts graphs.first graphs.second matching.inputs matching.outputs) (there : output < length graphs.first.outputs) where
  abbrev n : ℕ
  n = graphs.first.inputs

  abbrev p : List (ℕ × Bool)
  p = matching.inputs

  abbrev pair : Pair
  pair = pair_from Output matching.outputs output

  abbrev inputs : List Pair
  inputs = pairs_from Input p

  abbrev whole : List Pair
  whole = inputs ++ pair ∷ []

  sized : length p ≡ n
  sized = ports.inputs.entries

  inputs_len : length inputs ≡ length p
  inputs_len = length-map-range_with_len (pair_from Input p) 0 (length p)

  input_at : (i : ℕ) (d : Pair) → i < length p → get_or inputs i d ≡ pair_from Input p i
  input_at i d below = get_or-map-range_with_len (pair_from Input p) 0 (length p) i i d below (omega arith)

  has_input : (i : ℕ) → i < length p → Contains whole (pair_from Input p i)
  has_input i below =
      Contains-append_left inputs (pair ∷ []) (pair_from Input p i) (i, omega (arith, below, inputs_len), input_at i (pair_from Input p i) below)

  to_below : (i : ℕ) → i < n → place_of p i < n
  to_below i below = ports.inputs.in_range i (0, false) (omega (arith, below, sized))

  inputs_ordered : AreOrdered inputs
  inputs_ordered i j d less below =
      let here : j < length p = omega (arith, below, inputs_len) in
      let first : i < length p = omega (arith, less, here) in
      subst (λ x. StandInOrder x (get_or inputs j d)) (sym (input_at i d first)) (subst (StandInOrder (pair_from Input p i)) (sym (input_at j d here)) (record {
        inputs_first = λ e. e;
        ascending = λ e. less;
        apart = λ e same. ports.inputs.distinct i j (0, false) less here same;
      }))

  whole_ordered : AreOrdered whole
  whole_ordered =
      all_pairs_push StandInOrder inputs pair inputs_ordered (λ k d below.
      subst (λ x. StandInOrder x pair) (sym (input_at k d (omega (arith, below, inputs_len)))) (record {
        inputs_first = λ e. refl;
        ascending = λ e. absurd (input_output e);
        apart = λ e. absurd (input_output e);
      }))

  pub pair_known : IsKnown graphs pair
  pair_known = record {
    from = there;
    to = omega (arith, ports.outputs.in_range output (0, false) (omega (arith, there, ports.outputs.entries)), ports.same_outputs);
  }

  whole_known : All (IsKnown graphs) whole
  whole_known =
      All-push (IsKnown graphs) inputs pair (λ k d below.
      let here : k < length p = omega (arith, below, inputs_len) in
      subst (IsKnown graphs) (sym (input_at k d here)) (record { from = omega (arith, here, sized); to = omega (arith, to_below k (omega (arith, here, sized)), ports.same_inputs) })) pair_known

  module _ (x : List Bool) (differs : IsDifference graphs matching output x) (first : IsGraph graphs.first) (second : IsGraph graphs.second) where
    abbrev y : List Bool
    y = moved p x

    abbrev values : List Tri
    values = map of_bit x

    bijection : IsSignedBijection (length x) p
    bijection = subst (λ k. IsSignedBijection k p) (sym differs.inputs) ports.inputs

    y_len : length y ≡ graphs.second.inputs
    y_len = length-moved p x ∙ (differs.inputs ∙ sym ports.same_inputs)

    y_at : (i : ℕ) → i < length p → value_at (map of_bit y) (place_of p i) ≡ signed (sign_of p i) (value_at values i)
    y_at i below =
        let moves = moved-moves p x bijection in
        get_or-map of_bit y (place_of p i) false X (omega (arith, to_below i (omega (arith, below, sized)), y_len, ports.same_inputs))
        ∙ (ap of_bit (moves.bits i below) ∙ (sym (of_differ (bit x i) (sign_of p i)) ∙ ap (signed (sign_of p i)) (sym (get_or-map of_bit x i false X (omega (arith, below, sized, differs.inputs))))))

    sent : AreSent whole graphs.second.inputs values (map of_bit y)
    sent = record {
      places = length-map y of_bit ∙ y_len;
      paired = λ other assigned kind. by_case other kind (Contains-push_cases inputs pair other assigned);
      others = λ place below none.
          let at = IsSignedBijection-onto n p ports.inputs place (omega (arith, below, ports.same_inputs)) in
          absurd (none (pair_from Input p at.0) (has_input at.0 at.1) refl at.2);
    }
      where
        by_case : (other : Pair) → other.kind ≡ Input → Contains inputs other ⊎ (pair ≡ other) → value_at (map of_bit y) other.to ≡ signed other.flip (value_at values other.from)
        by_case other kind (inl assigned) =
            let here : assigned.0 < length p = omega (arith, assigned.1, inputs_len) in
            let is : pair_from Input p assigned.0 ≡ other = sym (input_at assigned.0 other here) ∙ assigned.2 in
            subst (λ (o : Pair). value_at (map of_bit y) o.to ≡ signed o.flip (value_at values o.from)) is (y_at assigned.0 here)
        by_case other kind (inr same) = absurd (input_output (sym kind ∙ ap (λ (o : Pair). o.kind) (sym same)))

    first_is : first_value graphs values output ≡ of_bit (bit (function_of graphs.first x) output)
    first_is = of_output graphs.first x output first.ordered differs.inputs there

    second_is : second_value graphs whole values pair.to ≡ of_bit (bit (function_of graphs.second y) pair.to)
    second_is =
        ap (λ l. value_at (tri_outputs graphs.second l) pair.to) (sym (sent_only whole graphs.second.inputs values (map of_bit y) sent))
        ∙ of_output graphs.second y pair.to second.ordered y_len pair_known.to

    pub shown_whole : IsShown graphs whole pair values whole
    shown_whole = record {
      among = All-contains_itself whole;
      ordered = whole_ordered;
      known = whole_known;
      output = record {
        has = Contains-push inputs pair;
        of_output = refl;
        only = All-push (λ (other : Pair). other.kind ≡ Output → other ≡ pair) inputs pair (λ k d below e. absurd (input_output (sym (ap (λ (o : Pair). o.kind) (input_at k d (omega (arith, below, inputs_len)))) ∙ e))) (λ e. refl);
      };
      places = length-map x of_bit ∙ differs.inputs;
      definite = λ e. of_bit_definite _ (sym first_is ∙ e);
      wrong = record {
        definite = λ e. of_bit_definite _ (sym second_is ∙ e);
        differ = λ e. differs.unlike (of_bit_same _ _ (sym first_is ∙ (e ∙ (ap (signed pair.flip) second_is ∙ of_differ (bit (function_of graphs.second y) pair.to) pair.flip))));
      };
    }

  -- the pairs of a matching are among those that it extends, where each port has one
  has_pair : (x : Pair) → Contains whole x → HasPair matching.inputs matching.outputs x
  has_pair x assigned = by_case (Contains-push_cases inputs pair x assigned)
    where
      by_case : Contains inputs x ⊎ (pair ≡ x) → HasPair matching.inputs matching.outputs x
      by_case (inl in_inputs) =
          let here : in_inputs.0 < length p = omega (arith, in_inputs.1, inputs_len) in
          subst (HasPair matching.inputs matching.outputs) (sym (input_at in_inputs.0 x here) ∙ in_inputs.2) (record { there = here; goes = refl })
      by_case (inr same) = subst (HasPair matching.inputs matching.outputs) same (record { there = omega (arith, there, ports.outputs.entries); goes = refl })

  pub among_assigned : (assigned : List Pair) → IsWhole graphs assigned → Extends assigned matching.inputs matching.outputs → All (Contains assigned) whole
  among_assigned assigned all extends k d below =
      let x = get_or whole k d in
      let has = has_pair x (Contains-get_or whole k d below) in
      let known = whole_known k d below in
      let any = all x.kind x.from known.from in
      let other_assigned = contained_of_any (IsOf First x.kind x.from) assigned any in
      let other_has = All-contains (HasPair matching.inputs matching.outputs) assigned any.1 extends other_assigned in
      subst (Contains assigned) (same_pair matching.inputs matching.outputs any.1 x any.4.kind_is any.4.port_is other_has has) other_assigned

-- the ban of what is shown
pub vector_valid : (graphs : Graphs) (given : Given) (all_pairs pairs : List Pair) (pair : Pair) (taken : List Tri) → pair.from < length graphs.first.outputs → IsShown graphs all_pairs pair taken pairs → IsValidBan graphs given (record { pairs = pairs; step = step.Vector pair.from taken })
vector_valid graphs given all_pairs pairs pair taken there shown = record {
  known = shown.known;
  ordered = shown.ordered;
  names = there;
  rule = subst IsSome (sym found) refl;
  shown = record {
    pair = pair;
    paired = found;
    places = shown.places;
    first_definite = shown.definite;
    second_definite = shown.wrong.definite;
    differ = shown.wrong.differ;
  };
}
  where
    found : pair_of pairs Output pair.from ≡ Some pair
    found = pair_of-one pairs pair Output pair.from shown.ordered shown.output.has shown.output.of_output refl

-- the same all_pairs list, by what its pair and taken are
pub shown_as : (graphs : Graphs) (front all_pairs : List Pair) (pair P : Pair) (taken V : List Tri) → pair ≡ P → taken ≡ V → all_pairs ≡ front ++ pair ∷ [] → IsShown graphs (front ++ P ∷ []) P V (front ++ P ∷ []) → IsShown graphs all_pairs pair taken all_pairs
shown_as graphs front all_pairs pair P taken V pair_is values_is whole_is shown =
    subst (λ l. IsShown graphs l pair taken l) (sym whole_is) (subst (λ v. IsShown graphs (front ++ pair ∷ []) pair v (front ++ pair ∷ [])) (sym values_is) (subst (λ p. IsShown graphs (front ++ p ∷ []) p V (front ++ p ∷ [])) (sym pair_is) shown))
