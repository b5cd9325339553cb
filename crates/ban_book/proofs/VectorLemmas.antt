-- Bans that vectors show as a last resort: they stay so as facts and bans come.
use Rattle.std.proofs.Common.{◌≡◌, ℕ, ◌<◌, Bool, true, false, List, [], ◌∷◌, ◌++◌, length, map, get_or, All, refl, sym, ap, subst, ◌∙◌, inl, inr, arith}
use Rattle.std.specs.Prelude.{Contains}
use Rattle.std.specs.List.{flat_map}
use Rattle.std.proofs.lemmas.Bool.{cases_lt}
use Rattle.std.proofs.lemmas.List.{get_or_append_left, get_or_default, get_or-map, length-map, map-append}
use Rattle.std.proofs.lemmas.List.Elements.{All-append, All-cons, All-contains, All-nil, Contains-append_left}
use Rattle.circuits.specs.declared.port.Pair.{Pair}
use Rattle.circuits.specs.declared.port.PortKind.TheVariants.{Output}
use Rattle.net_core.specs.Sides.{Graphs}
use Rattle.net_core.specs.declared.graphs.Side.{Side}
use Rattle.net_core.specs.declared.graphs.Side.TheVariants.{First, Second}
use Rattle.claim_core.specs.declared.claims.Claim.{Claim}
use Rattle.claim_core.specs.declared.claims.Shape.{Shape}
use Rattle.claim_core.specs.declared.claims.Shape.TheVariants.{Up, Down}
use Rattle.claim_core.specs.Claims.{IsClaim}
use Rattle.claim_core.specs.Images.{moved_value, one_input}
use Rattle.account_core.specs.declared.fact.Evidence.{Evidence}
use Rattle.account_core.specs.declared.fact.Evidence.TheVariants as evidence
use Rattle.account_core.specs.declared.fact.Fact.{Fact}
use Rattle.account_core.specs.declared.step.Ban.{Ban}
use Rattle.account_core.specs.declared.step.Step.TheVariants as step
use Rattle.account_core.specs.declared.step.Tallied.{Tallied}
use Rattle.account_core.specs.declared.step.Tallied.TheVariants.{Support, Binate}
use Rattle.account_core.specs.Facts.{AreFacts}
use Rattle.account_core.specs.Given.{Decided, Given, decided, decided_by, fact_at, given_of, no_fact, shown_by, IsFactGiven}
use Rattle.account_core.specs.Mismatches.{IsImage}
use Rattle.account_core.specs.Tallies.{other_side, port_on, shapes_of, AreOfEach, HaveShapes, LackShapes, SayOf}
use Rattle.account_core.proofs.TallyLemmas.{both}
use Rattle.ban_book.specs.Vectors.{AddsNoVector, AreDecided, AreEndsDecided, AreInputsDecided, AreLastResorts, HasOneInput, HaveNoFacts, IsDecided, IsLastResort, IsShownBy, IsVector}
use Rattle.ban_book.proofs.CarriedLemmas.{carried_by, one_back}
use Rattle.ban_book.proofs.ShownLemmas.{IsSame, mismatch_in, tally_in}
use Rattle.account_core.proofs.TallyLemmas.{both}

-- facts decide claims that are apart
claim_shown : (claim : Claim) (e : Evidence) → (shown_by claim e).claim ≡ claim
claim_shown claim (evidence.Fails bits) = refl
claim_shown claim (evidence.Holds log) = refl

claim_at : (facts : List Fact) (k : ℕ) (d : Decided) (e : Fact)
    → k < length facts
    → (get_or (map decided_by facts) k d).claim ≡ (get_or facts k e).claim
claim_at facts k d e below =
    ap (λ (fact : Decided). fact.claim) (get_or-map decided_by facts k e d below) ∙ claim_shown (get_or facts k e).claim (get_or facts k e).evidence

no_evidence : Decided → Fact
no_evidence fact = record { claim = fact.claim; evidence = evidence.Fails [] }

pub facts_decided : (graphs : Graphs) (facts : List Fact) → AreFacts graphs facts → AreDecided graphs (map decided_by facts)
facts_decided graphs facts are = record {
  placed = λ k d below.
      let there : k < length facts = omega (arith, below, length-map facts decided_by) in
      subst (IsClaim graphs) (sym (claim_at facts k d (no_evidence d) there)) (are.each k (no_evidence d) there).placed;
  distinct = λ i j d less below same.
      let there : j < length facts = omega (arith, below, length-map facts decided_by) in
      are.distinct i j (no_evidence d) less there (sym (claim_at facts i d (no_evidence d) (omega (arith, less, there))) ∙ (same ∙ claim_at facts j d (no_evidence d) there));
}

-- more facts have decided what was decided before
pub decided_later : (facts added : List Decided) (claim : Claim) → IsDecided facts claim → IsDecided (facts ++ added) claim
decided_later facts added claim is = (is.0, Contains-append_left facts added (decided claim is.0) is.1)

pub inputs_later : (facts added : List Decided) (inputs : ℕ) (side : Side) (output : ℕ)
    → AreInputsDecided facts inputs side output
    → AreInputsDecided (facts ++ added) inputs side output
inputs_later facts added inputs side output are = record {
  each = λ shape one placed. decided_later facts added _ (are.each shape one placed);
}

pub ends_later : (graphs : Graphs) (facts added : List Decided) (pair : Pair)
    → AreEndsDecided graphs facts pair
    → AreEndsDecided graphs (facts ++ added) pair
ends_later graphs facts added pair are = record { each = λ side. inputs_later facts added _ side _ (are.each side) }

one_is_one : (i : ℕ) (value : Bool) → HasOneInput (one_input i value)
one_is_one i false = tt
one_is_one i true = tt

-- the shapes of a tally are of one input
each_is_one : (inputs : List ℕ) (shapes : List Shape) → AreOfEach inputs shapes → All HasOneInput shapes
each_is_one [] [] zip = All-nil HasOneInput
each_is_one [] (shape ∷ shapes) zip = absurd zip
each_is_one (i ∷ inputs) [] zip = absurd zip
each_is_one (i ∷ inputs) (shape ∷ shapes) zip =
    All-cons HasOneInput shape shapes (elim zip.0 [ inl is ↦ subst HasOneInput (sym is) tt | inr is ↦ subst HasOneInput (sym is) tt ]) (each_is_one inputs shapes zip.1)

both_are_one : (inputs : List ℕ) → All HasOneInput (flat_map both inputs)
both_are_one [] = All-nil HasOneInput
both_are_one (i ∷ inputs) =
    All-cons HasOneInput (Up i) (Down i ∷ flat_map both inputs) tt (All-cons HasOneInput (Down i) (flat_map both inputs) tt (both_are_one inputs))

have_one : (kind : Tallied) (inputs : List ℕ) (shapes : List Shape) → HaveShapes kind inputs shapes → All HasOneInput shapes
have_one Support inputs shapes are = each_is_one inputs shapes are
have_one Binate inputs shapes are = subst (All HasOneInput) (sym are) (both_are_one inputs)

lack_one : (kind : Tallied) (inputs : List ℕ) (shapes : List Shape) → LackShapes kind inputs shapes → All HasOneInput shapes
lack_one Support inputs shapes are = subst (All HasOneInput) (sym are) (both_are_one inputs)
lack_one Binate inputs shapes are = each_is_one inputs shapes are

shape_at : (given : Given) (numbers : List ℕ) (k d : ℕ)
    → All HasOneInput (shapes_of given numbers)
    → k < length numbers
    → HasOneInput (fact_at given (get_or numbers k d)).claim.shape
shape_at given numbers k d ones below =
    let shape_of : ℕ → Shape = λ n. (fact_at given n).claim.shape in
    subst HasOneInput (get_or-map shape_of numbers k d (Up 0) below) (ones k (Up 0) (omega (arith, below, length-map numbers shape_of)))

-- facts came after others
module _ (graphs : Graphs) (facts added : List Decided) (are : AreDecided graphs (facts ++ added)) where
  abbrev before : Given
  before = given_of facts []

  abbrev after : Given
  after = given_of (facts ++ added) []

  same_at : (k : ℕ) → k < length facts → IsSame after before k
  same_at k below = get_or_append_left facts added no_fact k below

  -- a fact of a claim that was decided before stands where it stood
  stands_before : (k : ℕ) → k < length (facts ++ added) → IsDecided facts (fact_at after k).claim → k < length facts
  stands_before k below (holds, held) =
      elim (cases_lt k (length facts)) [
        | inl less ↦ less
        | inr past ↦
            let fact : Decided = decided (fact_at after k).claim holds in
            let there : get_or (facts ++ added) held.0 no_fact ≡ fact = get_or_append_left facts added no_fact held.0 held.1 ∙ (get_or_default facts held.0 no_fact fact held.1 ∙ held.2) in
            absurd (are.distinct held.0 k no_fact (omega (arith, held.1, past)) below (ap (λ (f : Decided). f.claim) there))
      ]

  decided_before : (pair : Pair) (side : Side) (shape : Shape) (k : ℕ)
      → AreEndsDecided graphs facts pair
      → HasOneInput shape
      → k < length (facts ++ added)
      → (fact_at after k).claim ≡ record { side = side; output = port_on side pair; shape = shape }
      → k < length facts
  decided_before pair side shape k ends one below is =
      stands_before k below (subst (IsDecided facts) (sym is) ((ends.each side).each shape one (subst (IsClaim graphs) is (are.placed k no_fact below)).placed))

  abbrev EndsDecided : List Pair → Type 0
  EndsDecided pairs = All (λ pair. pair.kind ≡ Output → AreEndsDecided graphs facts pair) pairs

  ends_of : (pairs : List Pair) (pair : Pair) → EndsDecided pairs → Contains pairs pair → pair.kind ≡ Output → AreEndsDecided graphs facts pair
  ends_of pairs pair ends held kind =
      All-contains (λ (pair : Pair). pair.kind ≡ Output → AreEndsDecided graphs facts pair) pairs pair ends held kind

  both_before : (pairs : List Pair) (one other : ℕ)
      → EndsDecided pairs
      → one < length (facts ++ added)
      → other < length (facts ++ added)
      → IsImage pairs (fact_at after one).claim (fact_at after other).claim
      → HasOneInput (fact_at after one).claim.shape
      → (one < length facts) × (other < length facts)
  both_before pairs one other ends first second image single =
      let is = carried_by pairs (fact_at after one).claim (fact_at after other).claim image single in
      let pair_ends = ends_of pairs is.output ends is.output_among is.output_kind in
      (decided_before is.output First _ one pair_ends (one_is_one is.input.from is.value) first is.claim_is, decided_before is.output Second _ other pair_ends (one_is_one is.input.to (moved_value is.output.flip is.input is.value)) second is.image_is)

  mismatch_before : (pairs : List Pair) (fails holds : ℕ)
      → HaveNoFacts graphs facts pairs
      → HasOneInput (fact_at after fails).claim.shape
      → IsShownBy graphs (facts ++ added) pairs (step.Mismatch fails holds)
      → fails < length facts
      → holds < length facts
      → ⊥
  mismatch_before pairs fails holds none one shown first second =
      none.no_mismatch fails holds (subst (λ (f : Decided). HasOneInput f.claim.shape) (same_at fails first) one) (record {
        names = (first, second);
        rule = mismatch_in after before pairs fails holds (same_at fails first) (same_at holds second) shown.rule;
      })

  no_mismatch_later : (pairs : List Pair) (fails holds : ℕ)
      → EndsDecided pairs
      → HaveNoFacts graphs facts pairs
      → HasOneInput (fact_at after fails).claim.shape
      → IsShownBy graphs (facts ++ added) pairs (step.Mismatch fails holds)
      → ⊥
  no_mismatch_later pairs fails holds ends none one shown =
      elim shown.rule.image [
        | inl image ↦
            let both = both_before pairs fails holds ends shown.names.0 shown.names.1 image one in
            mismatch_before pairs fails holds none one shown both.0 both.1
        | inr image ↦
            let both = both_before pairs holds fails ends shown.names.1 shown.names.0 image (one_back pairs _ _ image one) in
            mismatch_before pairs fails holds none one shown both.1 both.0
      ]

  numbers_before : (pair : Pair) (side : Side) (holds : Bool) (numbers : List ℕ)
      → AreEndsDecided graphs facts pair
      → All (IsFactGiven after) numbers
      → SayOf after numbers holds side (port_on side pair)
      → All HasOneInput (shapes_of after numbers)
      → All (IsFactGiven before) numbers
  numbers_before pair side holds numbers ends known say ones k d below =
      let number = get_or numbers k d in
      decided_before pair side (fact_at after number).claim.shape number ends (shape_at after numbers k d ones below) (known k d below) (λ i. record { side = say.of_side k d below i; output = say.of_output k d below i; shape = (fact_at after number).claim.shape })

  no_tally_later : (pairs : List Pair) (kind : Tallied) (have lack : List ℕ)
      → EndsDecided pairs
      → HaveNoFacts graphs facts pairs
      → IsShownBy graphs (facts ++ added) pairs (step.Tally kind have lack)
      → ⊥
  no_tally_later pairs kind have lack ends none shown =
      let is = shown.rule in
      let pair_ends = ends_of pairs is.pair ends is.paired is.of_outputs in
      let first = numbers_before is.pair is.side false have pair_ends shown.names.0 is.fail (have_one kind is.having (shapes_of after have) is.have_shapes) in
      let second = numbers_before is.pair (other_side is.side) true lack pair_ends shown.names.1 is.hold (lack_one kind is.lacking (shapes_of after lack) is.lack_shapes) in
      none.no_tally kind have lack (record {
        names = (first, second);
        rule = tally_in after before graphs pairs pairs kind have lack (λ k d below. same_at (get_or have k d) (first k d below)) (λ k d below. same_at (get_or lack k d) (second k d below)) is is.paired;
      })

  pub last_resort_grows : (ban : Ban) → IsLastResort graphs facts ban → IsLastResort graphs (facts ++ added) ban
  last_resort_grows ban is = record {
    decided = λ k d below kind. ends_later graphs facts added (get_or ban.pairs k d) (is.decided k d below kind);
    no_facts = record {
      no_mismatch = λ fails holds. no_mismatch_later ban.pairs fails holds is.decided is.no_facts;
      no_tally = λ kind have lack. no_tally_later ban.pairs kind have lack is.decided is.no_facts;
    };
  }

  pub last_resorts_grow : (bans : List Ban) → AreLastResorts graphs facts bans → AreLastResorts graphs (facts ++ added) bans
  last_resorts_grow bans resorts = record { each = λ k d below vector. last_resort_grows (get_or bans k d) (resorts.each k d below vector) }

-- the same of facts with their evidence
pub last_resorts_later : (graphs : Graphs) (facts added : List Fact) (bans : List Ban)
    → AreFacts graphs (facts ++ added)
    → AreLastResorts graphs (map decided_by facts) bans
    → AreLastResorts graphs (map decided_by (facts ++ added)) bans
last_resorts_later graphs facts added bans lawful resorts =
    let split = map-append decided_by facts added in
    subst (λ l. AreLastResorts graphs l bans) (sym split) (last_resorts_grow graphs (map decided_by facts) (map decided_by added) (subst (AreDecided graphs) split (facts_decided graphs (facts ++ added) lawful)) bans resorts)

-- bans come after others
pub last_resorts_none : (graphs : Graphs) (facts : List Decided) → AreLastResorts graphs facts []
last_resorts_none graphs facts = record { each = All-nil (λ (ban : Ban). IsVector ban.step → IsLastResort graphs facts ban) }

pub last_resorts_push_other : (graphs : Graphs) (facts : List Decided) (bans added : List Ban)
    → AddsNoVector added
    → AreLastResorts graphs facts bans
    → AreLastResorts graphs facts (bans ++ added)
last_resorts_push_other graphs facts bans added none resorts = record {
  each = All-append (λ (ban : Ban). IsVector ban.step → IsLastResort graphs facts ban) bans added resorts.each (λ k d below vector. absurd (none k d below vector));
}

-- one ban that no vector shows
pub no_vector_one : (ban : Ban) → (IsVector ban.step → ⊥) → AddsNoVector (ban ∷ [])
no_vector_one ban none = All-cons (λ (b : Ban). IsVector b.step → ⊥) ban [] none (All-nil (λ (b : Ban). IsVector b.step → ⊥))

pub no_vector_none : AddsNoVector []
no_vector_none = All-nil (λ (b : Ban). IsVector b.step → ⊥)

pub no_vector_more : (one other : List Ban) → AddsNoVector one → AddsNoVector other → AddsNoVector (one ++ other)
no_vector_more one other first second = All-append (λ (b : Ban). IsVector b.step → ⊥) one other first second
