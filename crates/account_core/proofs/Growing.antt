-- That a valid step stays valid when more facts and bans come after.
use Rattle.std.proofs.Common.{◌≡◌, ◌⊎◌, ℕ, suc, Bool, List, [], ◌∷◌, slice_index_or, All, Option, None, Some, refl, sym, ap, subst, ◌∙◌, arith, length-append}
use Rattle.std.specs.Prelude.{Contains}
use Rattle.std.specs.List.{AllZip}
use Rattle.std.proofs.lemmas.List.{get_or_append_left}
use Rattle.circuits.specs.declared.port.Pair.{Pair}
use Rattle.net_core.specs.Sides.{Graphs}
use Rattle.net_core.specs.declared.graphs.Side.{Side}
use Rattle.claim_core.specs.declared.claims.Shape.{Shape}
use Rattle.account_core.specs.declared.step.Tallied.{Tallied}
use Rattle.account_core.specs.declared.step.Step.{Step}
use Rattle.account_core.specs.declared.step.Step.TheVariants as step
use Rattle.account_core.specs.declared.step.Ban.{Ban}
use Rattle.account_core.specs.Given.{Decided, Given, no_fact, fact_at, ban_at, with_more, IsFactGiven, IsBanGiven}
use Rattle.account_core.specs.Mismatches.{IsImage, IsMismatch}
use Rattle.account_core.specs.Tallies.{shapes_of, SayOf, HaveShapes, LackShapes, IsTally}
use Rattle.account_core.specs.Covers.{ways, IsReference}
use Rattle.account_core.specs.Steps.{AreNamesKnown, KeepsRule, IsValidBan}

module _ (given : Given) (facts : List Decided) (bans : List (List Pair)) where
  abbrev more : Given
  more = with_more given facts bans

  fact_stays : (k : ℕ) → IsFactGiven given k → fact_at more k ≡ fact_at given k
  fact_stays k below = get_or_append_left given.facts facts no_fact k below

  ban_stays : (b : ℕ) → IsBanGiven given b → ban_at more b ≡ ban_at given b
  ban_stays b below = get_or_append_left given.bans bans [] b below

  fact_known : (k : ℕ) → IsFactGiven given k → IsFactGiven more k
  fact_known k below = omega (arith, length-append given.facts facts)

  ban_known : (b : ℕ) → IsBanGiven given b → IsBanGiven more b
  ban_known b below = omega (arith, length-append given.bans bans)

  mismatch_stays : (pairs : List Pair) (fails holds : ℕ) → IsFactGiven given fails → IsFactGiven given holds → IsMismatch given pairs fails holds → IsMismatch more pairs fails holds
  mismatch_stays pairs fails holds one other is = record {
    one_fails = ap (λ (fact : Decided). fact.holds) (fact_stays fails one) ∙ is.one_fails;
    other_holds = ap (λ (fact : Decided). fact.holds) (fact_stays holds other) ∙ is.other_holds;
    image = subst (λ (fact : Decided). IsImage pairs fact.claim (fact_at more holds).claim ⊎ IsImage pairs (fact_at more holds).claim fact.claim) (sym (fact_stays fails one)) (subst (λ (fact : Decided). IsImage pairs (fact_at given fails).claim fact.claim ⊎ IsImage pairs fact.claim (fact_at given fails).claim) (sym (fact_stays holds other)) is.image);
  }

  shapes_stay : (numbers : List ℕ) → All (IsFactGiven given) numbers → shapes_of more numbers ≡ shapes_of given numbers
  shapes_stay [] known = refl
  shapes_stay (k ∷ numbers) known =
      ap (λ (fact : Decided). fact.claim.shape ∷ shapes_of more numbers) (fact_stays k (known 0 0 (omega arith)))
      ∙ ap (λ (shapes : List Shape). (fact_at given k).claim.shape ∷ shapes) (shapes_stay numbers (λ i d h. known (suc i) d (omega arith)))

  say_stays : (numbers : List ℕ) (holds : Bool) (side : Side) (output : ℕ) → All (IsFactGiven given) numbers → SayOf given numbers holds side output → SayOf more numbers holds side output
  say_stays numbers holds side output known say = record {
    says = λ k d h. ap (λ (fact : Decided). fact.holds) (fact_stays (slice_index_or numbers k d) (known k d h)) ∙ say.says k d h;
    of_side = λ k d h. ap (λ (fact : Decided). fact.claim.side) (fact_stays (slice_index_or numbers k d) (known k d h)) ∙ say.of_side k d h;
    of_output = λ k d h. ap (λ (fact : Decided). fact.claim.output) (fact_stays (slice_index_or numbers k d) (known k d h)) ∙ say.of_output k d h;
  }

  tally_stays : (graphs : Graphs) (pairs : List Pair) (kind : Tallied) (have lack : List ℕ) → All (IsFactGiven given) have → All (IsFactGiven given) lack → IsTally graphs given pairs kind have lack → IsTally graphs more pairs kind have lack
  tally_stays graphs pairs kind have lack one other is = record {
    side = is.side;
    pair = is.pair;
    having = is.having;
    lacking = is.lacking;
    paired = is.paired;
    of_outputs = is.of_outputs;
    fail = say_stays have _ _ _ one is.fail;
    hold = say_stays lack _ _ _ other is.hold;
    have_shapes = subst (HaveShapes kind is.having) (sym (shapes_stay have one)) is.have_shapes;
    lack_shapes = subst (LackShapes kind is.lacking) (sym (shapes_stay lack other)) is.lack_shapes;
    having_ascends = is.having_ascends;
    lacking_ascends = is.lacking_ascends;
    some_have = is.some_have;
    some_lack = is.some_lack;
    too_many = is.too_many;
  }

  reference_stays : (pairs : List Pair) (pair : Pair) (ref : Option ℕ) → ((b : ℕ) → ref ≡ Some b → IsBanGiven given b) → IsReference given pairs pair ref → IsReference more pairs pair ref
  reference_stays pairs pair None known is = is
  reference_stays pairs pair (Some b) known is =
      (is.0, subst (All (Contains (pair ∷ pairs))) (sym (ban_stays b (known b refl))) is.1)

  references_stay : (pairs : List Pair) (taken : List Pair) (refs : List (Option ℕ)) → ((b : ℕ) → Contains refs (Some b) → IsBanGiven given b) → AllZip (IsReference given pairs) taken refs → AllZip (IsReference more pairs) taken refs
  references_stay pairs [] [] known zip = zip
  references_stay pairs [] (ref ∷ refs) known zip = zip
  references_stay pairs (pair ∷ taken) [] known zip = zip
  references_stay pairs (pair ∷ taken) (ref ∷ refs) known zip = (
    reference_stays pairs pair ref (λ b is. known b (0, omega arith, is)) zip.0,
    references_stay pairs taken refs (λ b held. known b (suc held.0, omega (arith, held.1), held.2)) zip.1,
  )

  names_stay : (graphs : Graphs) (taken : Step) → AreNamesKnown graphs given taken → AreNamesKnown graphs more taken
  names_stay graphs (step.Vector output values) known = known
  names_stay graphs (step.Mismatch fails holds) known = (fact_known fails known.0, fact_known holds known.1)
  names_stay graphs (step.Tally kind have lack) known =
      (λ k d h. fact_known (slice_index_or have k d) (known.0 k d h), λ k d h. fact_known (slice_index_or lack k d) (known.1 k d h))
  names_stay graphs (step.Cover kind from to refs) known = record {
    first_ports = known.first_ports;
    second_ports = known.second_ports;
    given_bans = λ b held. ban_known b (known.given_bans b held);
  }

  rule_stays : (graphs : Graphs) (pairs : List Pair) (taken : Step) → AreNamesKnown graphs given taken → KeepsRule graphs given pairs taken → KeepsRule graphs more pairs taken
  rule_stays graphs pairs (step.Vector output values) known keeps = keeps
  rule_stays graphs pairs (step.Mismatch fails holds) known keeps = mismatch_stays pairs fails holds known.0 known.1 keeps
  rule_stays graphs pairs (step.Tally kind have lack) known keeps = tally_stays graphs pairs kind have lack known.0 known.1 keeps
  rule_stays graphs pairs (step.Cover kind from to refs) known keeps = record {
    from_ascends = keeps.from_ascends;
    to_ascends = keeps.to_ascends;
    too_many = keeps.too_many;
    referred = references_stay pairs (ways kind from to) refs known.given_bans keeps.referred;
  }

  pub ban_stays_valid : (graphs : Graphs) (ban : Ban) → IsValidBan graphs given ban → IsValidBan graphs more ban
  ban_stays_valid graphs ban valid = record {
    known = valid.known;
    ordered = valid.ordered;
    names = names_stay graphs ban.step valid.names;
    rule = rule_stays graphs ban.pairs ban.step valid.names valid.rule;
    shown = valid.shown;
  }
