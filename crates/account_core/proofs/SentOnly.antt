-- That the relation and the function say the same of what the pairs make of values.
use Rattle.std.proofs.Common.{◌≡◌, ◌≢◌, ◌⊎◌, ℕ, zero, suc, ◌<◌, ◌&&◌, Bool, false, eqb, List, [], ◌∷◌, length, get_or, refl, sym, ap, ◌∙◌, inl, inr, arith, eqb-true, eq-eqb, ext_get_or, ◌-◌, ◌≤◌, drop, drop-cons}
use Rattle.std.specs.Prelude.{Contains, All}
use Rattle.std.proofs.lemmas.Bool.{cases_Bool, and_parts, and_from, cond-true, cond-false, false≢true}
use Rattle.std.proofs.lemmas.List.FromFn.{length-map-range_with_len, get_or-map-range_with_len}
use Rattle.std.proofs.lemmas.List.Elements.{All-contains}
use Rattle.circuits.specs.declared.port.Pair.{Pair}
use Rattle.circuits.specs.declared.port.PortKind.TheVariants.{Input}
use Rattle.claim_core.specs.Images.{same_kind}
use Rattle.word_sim.specs.declared.tri.Tri.{Tri}
use Rattle.word_sim.specs.declared.tri.Tri.TheVariants.{X}
use Rattle.account_core.specs.Ports.{AreOrdered}
use Rattle.account_core.specs.Vectors.{value_at, signed, value_sent, values_sent, AreSent}
use Rattle.account_core.proofs.Matched.{kind_is}
use Rattle.account_core.proofs.OrderedPairs.{agree}
use Rattle.claim_core.proofs.ImageLemmas.{kind_same}

-- whether a pair is of an input that goes to a place
abbrev pub goes_to : ℕ → Pair → Bool
goes_to place pair = same_kind pair.kind Input && eqb pair.to place

-- an input's pair that goes to a place, and what it makes the place get
pub record IsSource (pairs : List Pair) (values : List Tri) (place : ℕ) (pair : Pair) : Type 0 where
  pub held : Contains pairs pair
  pub of_input : pair.kind ≡ Input
  pub goes : pair.to ≡ place
  pub value : value_sent pairs values place ≡ signed pair.flip (value_at values pair.from)

-- no pair of an input goes to the place, and it gets X
pub record HasNoSource (pairs : List Pair) (values : List Tri) (place : ℕ) : Type 0 where
  pub none : (pair : Pair) → Contains pairs pair → pair.kind ≡ Input → pair.to ≢ place
  pub value : value_sent pairs values place ≡ X

pub source : (pairs : List Pair) (values : List Tri) (place : ℕ) → ((pair : Pair) × IsSource pairs values place pair) ⊎ HasNoSource pairs values place
source [] values place = inr (record { none = λ pair held. absurd (omega (arith, held.1)); value = refl })
source (one ∷ pairs) values place =
    elim (cases_Bool (goes_to place one)) [
      | inl here ↦
          let parts = and_parts (same_kind one.kind Input) (eqb one.to place) here in
          inl (
            one,
            record {
              held = (0, omega arith, refl);
              of_input = kind_is one.kind Input parts.0;
              goes = eqb-true one.to place parts.1;
              value = cond-true (goes_to place one) (signed one.flip (value_at values one.from)) (value_sent pairs values place) here;
            },
          )
      | inr other ↦
          let past = cond-false (goes_to place one) (signed one.flip (value_at values one.from)) (value_sent pairs values place) other in
          elim (source pairs values place) [
            | inl found ↦ inl (found.0, later found.0 past found.1)
            | inr none ↦ inr (record { none = λ pair held. nowhere other none pair held.0 held.1 held.2; value = past ∙ none.value })
          ]
    ]
  where
    later : (pair : Pair) → value_sent (one ∷ pairs) values place ≡ value_sent pairs values place → IsSource pairs values place pair → IsSource (one ∷ pairs) values place pair
    later pair past is = record {
      held = (suc is.held.0, omega (arith, is.held.1), is.held.2);
      of_input = is.of_input;
      goes = is.goes;
      value = past ∙ is.value;
    }

    nowhere : goes_to place one ≡ false → HasNoSource pairs values place → (pair : Pair) (k : ℕ) → k < length (one ∷ pairs) → get_or (one ∷ pairs) k pair ≡ pair → pair.kind ≡ Input → pair.to ≢ place
    nowhere other none pair zero below is kind goes =
        let yes' = and_from (same_kind pair.kind Input) (eqb pair.to place) (kind_same pair.kind Input kind) (eq-eqb pair.to place goes) in
        false≢true (sym other ∙ (ap (goes_to place) is ∙ yes'))
    nowhere other none pair (suc k) below is kind goes = none.none pair (k, omega (arith, below), is) kind goes

value_of : (pairs : List Pair) (n : ℕ) (values : List Tri) (place : ℕ) → place < n → value_at (values_sent pairs n values) place ≡ value_sent pairs values place
value_of pairs n values place below =
    get_or-map-range_with_len (value_sent pairs values) 0 n place place X below (omega arith)

pub sent_is : (pairs : List Pair) (n : ℕ) (values : List Tri) → AreOrdered pairs → All (λ pair. pair.kind ≡ Input → pair.to < n) pairs → AreSent pairs n values (values_sent pairs n values)
sent_is pairs n values ordered inside = record {
  places = length-map-range_with_len (value_sent pairs values) 0 n;
  paired = paired;
  others = λ place below none. value_of pairs n values place below ∙ unsent place none;
}
  where
    paired : (pair : Pair) → Contains pairs pair → pair.kind ≡ Input → value_at (values_sent pairs n values) pair.to ≡ signed pair.flip (value_at values pair.from)
    paired pair held kind =
        let below : pair.to < n = All-contains (λ (pair : Pair). pair.kind ≡ Input → pair.to < n) pairs pair inside held kind in
        elim (source pairs values pair.to) [
          | inl found ↦
              let same : found.0 ≡ pair = agree pairs ordered found.0 pair found.1.held held (found.1.of_input ∙ sym kind) (inr found.1.goes) in
              value_of pairs n values pair.to below ∙ (found.1.value ∙ ap (λ (p : Pair). signed p.flip (value_at values p.from)) same)
          | inr none ↦ absurd (none.none pair held kind refl)
        ]

    unsent : (place : ℕ) → ((pair : Pair) → Contains pairs pair → pair.kind ≡ Input → pair.to ≢ place) → value_sent pairs values place ≡ X
    unsent place none =
        elim (source pairs values place) [
          | inl found ↦ absurd (none found.0 found.1.held found.1.of_input found.1.goes)
          | inr nothing ↦ nothing.value
        ]

-- what has at each place what the function says is the function's
pub sent_each : (pairs : List Pair) (n : ℕ) (values sent : List Tri) → length sent ≡ n → ((place : ℕ) → place < n → value_at sent place ≡ value_sent pairs values place) → sent ≡ values_sent pairs n values
sent_each pairs n values sent places each =
    ext_get_or X sent (values_sent pairs n values) (places ∙ sym (length-map-range_with_len (value_sent pairs values) 0 n)) (λ place below.
    let within : place < n = omega (arith, below, places) in
    each place within ∙ sym (value_of pairs n values place within))

pub sent_only : (pairs : List Pair) (n : ℕ) (values sent : List Tri) → AreSent pairs n values sent → sent ≡ values_sent pairs n values
sent_only pairs n values sent are =
    sent_each pairs n values sent are.places each
  where
    each : (place : ℕ) → place < n → value_at sent place ≡ value_sent pairs values place
    each place within =
        elim (source pairs values place) [
          | inl found ↦ ap (value_at sent) (sym found.1.goes) ∙ (are.paired found.0 found.1.held found.1.of_input ∙ sym found.1.value)
          | inr nothing ↦ are.others place within nothing.none ∙ sym nothing.value
        ]

-- one pair more is sent, the one before those that were
pub sent_before : (pairs : List Pair) (values now later : List Tri) (left : ℕ) (pair : Pair) → 0 < left → left ≤ length pairs → get_or pairs (left - 1) pair ≡ pair → (pair.kind ≡ Input → pair.to < length now → value_at later pair.to ≡ signed pair.flip (value_at values pair.from)) → ((place : ℕ) → (pair.kind ≡ Input → place ≢ pair.to) → value_at later place ≡ value_at now place) → ((place : ℕ) → place < length now → value_at now place ≡ value_sent (drop left pairs) values place) → (place : ℕ) → place < length now → value_at later place ≡ value_sent (drop (left - 1) pairs) values place
sent_before pairs values now later left pair some within is sent others so_far place below =
    let front : drop (left - 1) pairs ≡ pair ∷ drop left pairs = before left some within is in
    let value = signed pair.flip (value_at values pair.from) in
    let rest = value_sent (drop left pairs) values place in
    elim (cases_Bool (goes_to place pair)) [
      | inl here ↦
          let parts = and_parts (same_kind pair.kind Input) (eqb pair.to place) here in
          let goes : pair.to ≡ place = eqb-true pair.to place parts.1 in
          ap (value_at later) (sym goes) ∙ (sent (kind_is pair.kind Input parts.0) (omega (arith, below, goes)) ∙ sym (cond-true (goes_to place pair) value rest here))
      | inr other ↦
          others place (λ kind goes. false≢true (sym other ∙ and_from (same_kind pair.kind Input) (eqb pair.to place) (kind_same pair.kind Input kind) (eq-eqb pair.to place (sym goes)))) ∙ (so_far place below ∙ sym (cond-false (goes_to place pair) value rest other))
    ] ∙ sym (ap (λ (l : List Pair). value_sent l values place) front)
  where
    before : (k : ℕ) → 0 < k → k ≤ length pairs → get_or pairs (k - 1) pair ≡ pair → drop (k - 1) pairs ≡ pair ∷ drop k pairs
    before k some within is =
        let e : suc (k - 1) ≡ k = omega (arith, some) in
        drop-cons pairs (k - 1) pair (omega (arith, some, within)) ∙ (ap (λ (p : Pair). p ∷ drop (suc (k - 1)) pairs) is ∙ ap (λ n. pair ∷ drop n pairs) e)
