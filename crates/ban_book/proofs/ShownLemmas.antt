-- Steps that facts show: that of more facts those show them that they name.
use Rattle.std.proofs.Common.{◌≡◌, ◌⊎◌, ℕ, suc, Bool, List, [], ◌∷◌, All, refl, sym, ap, subst, ◌∙◌, arith}
use Rattle.std.specs.Prelude.{Contains}
use Rattle.circuits.specs.declared.port.Pair.{Pair}
use Rattle.net_core.specs.Sides.{Graphs}
use Rattle.net_core.specs.declared.graphs.Side.{Side}
use Rattle.claim_core.specs.declared.claims.Shape.{Shape}
use Rattle.account_core.specs.declared.step.Tallied.{Tallied}
use Rattle.account_core.specs.Given.{Decided, Given, fact_at}
use Rattle.account_core.specs.Mismatches.{IsImage, IsMismatch}
use Rattle.account_core.specs.Tallies.{shapes_of, SayOf, HaveShapes, LackShapes, IsTally}

module _ (one other : Given) where
  -- a fact is the same in both
  abbrev pub IsSame : ℕ → Type 0
  IsSame k = fact_at one k ≡ fact_at other k

  pub mismatch_in : (pairs : List Pair) (fails holds : ℕ)
      → IsSame fails
      → IsSame holds
      → IsMismatch one pairs fails holds
      → IsMismatch other pairs fails holds
  mismatch_in pairs fails holds first second is = record {
    one_fails = ap (λ (fact : Decided). fact.holds) (sym first) ∙ is.one_fails;
    other_holds = ap (λ (fact : Decided). fact.holds) (sym second) ∙ is.other_holds;
    image = subst (λ (fact : Decided). IsImage pairs fact.claim (fact_at other holds).claim ⊎ IsImage pairs (fact_at other holds).claim fact.claim) first (subst (λ (fact : Decided). IsImage pairs (fact_at one fails).claim fact.claim ⊎ IsImage pairs fact.claim (fact_at one fails).claim) second is.image);
  }

  pub shapes_in : (numbers : List ℕ) → All IsSame numbers → shapes_of one numbers ≡ shapes_of other numbers
  shapes_in [] same = refl
  shapes_in (k ∷ numbers) same =
      ap (λ (fact : Decided). fact.claim.shape ∷ shapes_of one numbers) (same 0 0 (omega arith))
      ∙ ap (λ (shapes : List Shape). (fact_at other k).claim.shape ∷ shapes) (shapes_in numbers (λ i d h. same (suc i) d (omega (arith, h))))

  pub say_in : (numbers : List ℕ) (holds : Bool) (side : Side) (output : ℕ)
      → All IsSame numbers
      → SayOf one numbers holds side output
      → SayOf other numbers holds side output
  say_in numbers holds side output same say = record {
    says = λ k d h. ap (λ (fact : Decided). fact.holds) (sym (same k d h)) ∙ say.says k d h;
    of_side = λ k d h. ap (λ (fact : Decided). fact.claim.side) (sym (same k d h)) ∙ say.of_side k d h;
    of_output = λ k d h. ap (λ (fact : Decided). fact.claim.output) (sym (same k d h)) ∙ say.of_output k d h;
  }

  -- also of other pairs, among which is the one that it is of
  pub tally_in : (graphs : Graphs) (pairs others : List Pair) (kind : Tallied) (have lack : List ℕ)
      → All IsSame have
      → All IsSame lack
      → (is : IsTally graphs one pairs kind have lack)
      → Contains others is.pair
      → IsTally graphs other others kind have lack
  tally_in graphs pairs others kind have lack first second is paired = record {
    side = is.side;
    pair = is.pair;
    having = is.having;
    lacking = is.lacking;
    paired = paired;
    of_outputs = is.of_outputs;
    fail = say_in have _ _ _ first is.fail;
    hold = say_in lack _ _ _ second is.hold;
    have_shapes = subst (HaveShapes kind is.having) (shapes_in have first) is.have_shapes;
    lack_shapes = subst (LackShapes kind is.lacking) (shapes_in lack second) is.lack_shapes;
    having_ascends = is.having_ascends;
    lacking_ascends = is.lacking_ascends;
    some_have = is.some_have;
    some_lack = is.some_lack;
    too_many = is.too_many;
  }
