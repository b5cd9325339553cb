-- What follows from the law of images: that a mismatch excludes its ban's pairs, and that a match carries an output's inputs to
-- its partner's.
use Rattle.std.proofs.Common.{◌≡◌, ◌↔◌, ℕ, ◌<◌, Bool, true, false, eqb, List, [], ◌∷◌, All, Some, refl, ap, subst, ◌∙◌, inl, inr, arith, eq-eqb}
use Rattle.std.specs.Prelude.{option_and_then, option_map}
use Rattle.std.proofs.lemmas.Bool.{cond-true}
use Rattle.std.proofs.lemmas.List.Elements.{All-nil, All-cons}
use Rattle.circuits.specs.declared.port.Pair.{Pair}
use Rattle.circuits.specs.declared.port.PortKind.TheVariants.{Input, Output}
use Rattle.circuits.specs.Literals.{differ}
use Rattle.circuits.specs.Bijections.{place_of, sign_of}
use Rattle.circuits.specs.Matches.{IsMatchOfFunctions}
use Rattle.net_core.specs.Sides.{Graphs}
use Rattle.net_core.specs.declared.graphs.Side.TheVariants.{First}
use Rattle.net_core.specs.Sides.{graph_of}
use Rattle.claim_core.specs.declared.claims.Claim.{Claim}
use Rattle.claim_core.specs.Claims.{IsPlaced, ShapeHolds}
use Rattle.claim_core.specs.Images.{HasPair, Extends, image_of, pair_of, one_input, moved_value, moved_one, claim_of_second}
use Rattle.claim_core.proofs.ClaimLaws.{no_break}
use Rattle.claim_core.proofs.ImageLaws.{image_holds}
use Rattle.account_core.specs.Given.{Given, Says, fact_at, no_fact, IsFactGiven, IsTrueFact}
use Rattle.account_core.specs.Exclusions.{Excludes}
use Rattle.account_core.specs.Mismatches.{IsMismatch}
use Rattle.account_core.proofs.TallyLemmas.{claim_of, Correspond, CorrespondsAt}

-- a claim doesn't hold that a vector breaks
apart : (graphs : Graphs) (claim : Claim) → Says graphs claim false → Says graphs claim true → ⊥
apart graphs claim fails holds = no_break (graph_of graphs claim.side) claim.output claim.shape holds fails

-- one claim is the image of the other: both hold or neither does
pub mismatch_contradicts : (graphs : Graphs) (given : Given) (pairs : List Pair) (fails holds : ℕ) → All (IsTrueFact graphs) given.facts → IsFactGiven given fails → IsFactGiven given holds → IsMismatch given pairs fails holds → Excludes graphs pairs
mismatch_contradicts graphs given pairs fails holds facts one other is p q match extends =
    let failing = fact_at given fails in
    let holding = fact_at given holds in
    let failing_true : IsTrueFact graphs failing = facts fails no_fact one in
    let holding_true : IsTrueFact graphs holding = facts holds no_fact other in
    let broken : Says graphs failing.claim false = subst (Says graphs failing.claim) is.one_fails failing_true.says in
    let kept : Says graphs holding.claim true = subst (Says graphs holding.claim) is.other_holds holding_true.says in
    elim is.image [
      | inl image ↦ apart graphs failing.claim broken ((image_holds graphs p q pairs failing.claim holding.claim match extends image.0 failing_true.placed image.1).1 kept)
      | inr image ↦ apart graphs failing.claim broken ((image_holds graphs p q pairs holding.claim failing.claim match extends image.0 holding_true.placed image.1).0 kept)
    ]

abbrev pub input_pair : ℕ → ℕ → Bool → Pair
input_pair i j s = record { kind = Input; from = i; to = j; flip = s }

abbrev pub output_pair : ℕ → ℕ → Bool → Pair
output_pair k l t = record { kind = Output; from = k; to = l; flip = t }

-- the pairs of an input and an output
abbrev pub both_pairs : ℕ → ℕ → Bool → ℕ → ℕ → Bool → List Pair
both_pairs i j s k l t = input_pair i j s ∷ output_pair k l t ∷ []

input_found : (i j : ℕ) (s : Bool) (k l : ℕ) (t : Bool) → pair_of (both_pairs i j s k l t) Input i ≡ Some (input_pair i j s)
input_found i j s k l t = cond-true (eqb i i) (Some (input_pair i j s)) _ (eq-eqb i i refl)

output_found : (i j : ℕ) (s : Bool) (k l : ℕ) (t : Bool) → pair_of (both_pairs i j s k l t) Output k ≡ Some (output_pair k l t)
output_found i j s k l t = cond-true (eqb k k) (Some (output_pair k l t)) _ (eq-eqb k k refl)

-- the image of a claim of an input
image_at : (i j : ℕ) (s : Bool) (k l : ℕ) (t a : Bool) → image_of (both_pairs i j s k l t) (claim_of First k (one_input i a)) ≡ Some (claim_of_second l (one_input j (moved_value t (input_pair i j s) a)))
image_at i j s k l t false =
    ap (λ found. option_and_then (λ output. option_map (claim_of_second output.to) (option_map (moved_one output.flip false) (pair_of (both_pairs i j s k l t) Input i))) found) (output_found i j s k l t)
    ∙ ap (λ found. option_map (claim_of_second l) (option_map (moved_one t false) found)) (input_found i j s k l t)
image_at i j s k l t true =
    ap (λ found. option_and_then (λ output. option_map (claim_of_second output.to) (option_map (moved_one output.flip true) (pair_of (both_pairs i j s k l t) Input i))) found) (output_found i j s k l t)
    ∙ ap (λ found. option_map (claim_of_second l) (option_map (moved_one t true) found)) (input_found i j s k l t)

-- by the signs of the two pairs
by_signs : (graphs : Graphs) (i j k l : ℕ) (s t : Bool) → ((a : Bool) → ShapeHolds graphs.first k (one_input i a) ↔ ShapeHolds graphs.second l (one_input j (differ (differ a s) t))) → Correspond graphs.first k i graphs.second l j
by_signs graphs i j k l false false law = inl (law false, law true)
by_signs graphs i j k l false true law = inr (law false, law true)
by_signs graphs i j k l true false law = inr (law false, law true)
by_signs graphs i j k l true true law = inl (law false, law true)

pub is_placed : (n i : ℕ) (a : Bool) → i < n → IsPlaced n (one_input i a)
is_placed n i false below = below
is_placed n i true below = below

-- a match carries an output's claims of one input to its partner's claims of one
pub correspond : (graphs : Graphs) (p q : List (ℕ × Bool)) → IsMatchOfFunctions graphs.first graphs.second p q → CorrespondsAt graphs p q
correspond graphs p q match k i below_k below_i =
    let j = place_of p i in
    let l = place_of q k in
    let s = sign_of p i in
    let t = sign_of q k in
    let input : HasPair p q (input_pair i j s) = record { there = omega (arith, below_i, match.inputs.entries); goes = refl } in
    let output : HasPair p q (output_pair k l t) = record { there = omega (arith, below_k, match.outputs.entries); goes = refl } in
    let extends : Extends (both_pairs i j s k l t) p q = All-cons (HasPair p q) (input_pair i j s) (output_pair k l t ∷ []) input (All-cons (HasPair p q) (output_pair k l t) [] output (All-nil (HasPair p q))) in
    by_signs graphs i j k l s t (λ a. image_holds graphs p q (both_pairs i j s k l t) (claim_of First k (one_input i a)) (claim_of_second l (one_input j (moved_value t (input_pair i j s) a))) match extends refl (record { output = below_k; placed = is_placed graphs.first.inputs i a below_i }) (image_at i j s k l t a))
