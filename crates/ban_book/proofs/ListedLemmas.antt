-- Lists of facts' numbers.
use Rattle.std.proofs.Common.{◌≡◌, ◌⊎◌, ℕ, ◌+◌, ◌*◌, ◌<◌, Bool, true, false, List, [], ◌∷◌, ◌++◌, length, get_or, All, refl, sym, ap, subst, ◌∙◌, inl, inr, append_assoc, arith}
use Rattle.std.specs.List.{flat_map}
use Rattle.std.proofs.lemmas.List.{map_push, get_or_append_left, length-append, length-map}
use Rattle.std.proofs.lemmas.List.Elements.{All-push}
use Rattle.std.proofs.lemmas.List.Quantifiers.{all_pairs_push}
use Rattle.std.proofs.lemmas.Slice.Zip.{AllZip-long, all_zipped_more}
use Rattle.net_core.specs.declared.graphs.Side.{Side}
use Rattle.claim_core.specs.declared.claims.Claim.{Claim}
use Rattle.claim_core.specs.declared.claims.Shape.{Shape}
use Rattle.claim_core.specs.declared.claims.Shape.TheVariants.{Up, Down}
use Rattle.claim_core.specs.Images.{one_input}
use Rattle.account_core.specs.Given.{Decided, fact_at, given_of, no_fact, IsFactGiven}
use Rattle.account_core.specs.Tallies.{shapes_of, AreOfEach, SayOf}
use Rattle.ban_book.proofs.ShownLemmas.{IsSame, say_in, shapes_in}
use Rattle.ban_book.specs.DecidedClaims.{AddsFact, IsDecidedAs}
use Rattle.ban_book.specs.Listed.{ListsBoth, ListsOf, ListsOne}
use Rattle.ban_book.proofs.RowListLemmas.{below_more, below_push, flat_push}

-- facts that come after leave what was decided
module _ (facts added : List Decided) where
  fact_stays : (k : ℕ) → k < length facts → fact_at (given_of (facts ++ added) []) k ≡ fact_at (given_of facts []) k
  fact_stays k below = get_or_append_left facts added no_fact k below

  pub decided_stays : (claim : Claim) (holds : Bool) (number : ℕ) → IsDecidedAs facts claim holds number → IsDecidedAs (facts ++ added) claim holds number
  decided_stays claim holds number is = record {
    within = omega (arith, is.within, length-append facts added);
    says = fact_stays number is.within ∙ is.says;
  }

  pub lists_stay : (shaped : List ℕ → List Shape → Type 0) (holds : Bool) (side : Side) (output below : ℕ) (numbers : List ℕ) → ListsOf shaped facts holds side output below numbers → ListsOf shaped (facts ++ added) holds side output below numbers
  lists_stay shaped holds side output below numbers is =
      let old = given_of facts [] in
      let new = given_of (facts ++ added) [] in
      let same : All (IsSame old new) numbers = λ k d h. sym (fact_stays (get_or numbers k d) (is.known k d h)) in
      record {
        inputs = is.inputs;
        ascends = is.ascends;
        less = is.less;
        shapes = subst (shaped is.inputs) (shapes_in old new numbers same) is.shapes;
        known = λ k d h. omega (arith, is.known k d h, length-append facts added);
        say = say_in old new numbers holds side output same is.say;
      }

-- nothing is listed yet
pub lists_none : (shaped : List ℕ → List Shape → Type 0) (facts : List Decided) (holds : Bool) (side : Side) (output : ℕ) (numbers : List ℕ) → numbers ≡ [] → shaped [] [] → ListsOf shaped facts holds side output 0 numbers
lists_none shaped facts holds side output numbers none is =
    subst (ListsOf shaped facts holds side output 0) (sym none) (record {
      inputs = [];
      ascends = λ i j d less below. absurd (omega (arith, below));
      less = λ k d below. absurd (omega (arith, below));
      shapes = is;
      known = λ k d below. absurd (omega (arith, below));
      say = record {
        says = λ k d below. absurd (omega (arith, below));
        of_side = λ k d below. absurd (omega (arith, below));
        of_output = λ k d below. absurd (omega (arith, below));
      };
    })

-- no fact of the next input
pub lists_skip : (shaped : List ℕ → List Shape → Type 0) (facts : List Decided) (holds : Bool) (side : Side) (output below : ℕ) (numbers : List ℕ) → ListsOf shaped facts holds side output below numbers → ListsOf shaped facts holds side output (below + 1) numbers
lists_skip shaped facts holds side output below numbers is = record {
  inputs = is.inputs;
  ascends = is.ascends;
  less = below_more is.inputs below is.less;
  shapes = is.shapes;
  known = is.known;
  say = is.say;
}

-- one number more
module _ (facts : List Decided) (holds : Bool) (side : Side) (output : ℕ) (shape : Shape) (before after : List ℕ) (adds : AddsFact facts (record { side = side; output = output; shape = shape }) holds before after) where
  pub known_push : All (IsFactGiven (given_of facts [])) before → All (IsFactGiven (given_of facts [])) after
  known_push known = subst (All (IsFactGiven (given_of facts []))) (sym adds.more) (All-push (IsFactGiven (given_of facts [])) before adds.number known adds.decided.within)

  pub say_push : SayOf (given_of facts []) before holds side output → SayOf (given_of facts []) after holds side output
  say_push say = subst (λ l. SayOf (given_of facts []) l holds side output) (sym adds.more) (record {
    says = All-push (λ k. (fact_at (given_of facts []) k).holds ≡ holds) before adds.number say.says (ap (λ (f : Decided). f.holds) adds.decided.says);
    of_side = All-push (λ k. (fact_at (given_of facts []) k).claim.side ≡ side) before adds.number say.of_side (ap (λ (f : Decided). f.claim.side) adds.decided.says);
    of_output = All-push (λ k. (fact_at (given_of facts []) k).claim.output ≡ output) before adds.number say.of_output (ap (λ (f : Decided). f.claim.output) adds.decided.says);
  })

  pub shapes_push : shapes_of (given_of facts []) after ≡ shapes_of (given_of facts []) before ++ shape ∷ []
  shapes_push =
      ap (shapes_of (given_of facts [])) adds.more
      ∙ (map_push (λ k. (fact_at (given_of facts []) k).claim.shape) before adds.number
      ∙ ap (λ (s : Shape). shapes_of (given_of facts []) before ++ s ∷ []) (ap (λ (f : Decided). f.claim.shape) adds.decided.says))

is_one : (i : ℕ) (value : Bool) → (one_input i value ≡ Up i) ⊎ (one_input i value ≡ Down i)
is_one i false = inl refl
is_one i true = inr refl

pub lists_one : (facts : List Decided) (holds : Bool) (side : Side) (output input : ℕ) (value : Bool) (before after : List ℕ) → ListsOne facts holds side output input before → AddsFact facts (record { side = side; output = output; shape = one_input input value }) holds before after → ListsOne facts holds side output (input + 1) after
lists_one facts holds side output input value before after is adds = record {
  inputs = is.inputs ++ input ∷ [];
  ascends = all_pairs_push (λ one other. one < other) is.inputs input is.ascends is.less;
  less = below_push is.inputs input is.less;
  shapes = subst (AreOfEach (is.inputs ++ input ∷ [])) (sym (shapes_push facts holds side output (one_input input value) before after adds)) (all_zipped_more (λ i shape. (shape ≡ Up i) ⊎ (shape ≡ Down i)) is.inputs (shapes_of (given_of facts []) before) input (one_input input value) is.shapes (is_one input value));
  known = known_push facts holds side output (one_input input value) before after adds is.known;
  say = say_push facts holds side output (one_input input value) before after adds is.say;
}

pub lists_both : (facts : List Decided) (holds : Bool) (side : Side) (output input : ℕ) (before mid after : List ℕ) → ListsBoth facts holds side output input before → AddsFact facts (record { side = side; output = output; shape = Up input }) holds before mid → AddsFact facts (record { side = side; output = output; shape = Down input }) holds mid after → ListsBoth facts holds side output (input + 1) after
lists_both facts holds side output input before mid after is one other = record {
  inputs = is.inputs ++ input ∷ [];
  ascends = all_pairs_push (λ one other. one < other) is.inputs input is.ascends is.less;
  less = below_push is.inputs input is.less;
  shapes =
      shapes_push facts holds side output (Down input) mid after other
      ∙ (ap (λ (l : List Shape). l ++ Down input ∷ []) (shapes_push facts holds side output (Up input) before mid one)
      ∙ (append_assoc (shapes_of (given_of facts []) before) (Up input ∷ []) (Down input ∷ [])
      ∙ (ap (λ (l : List Shape). l ++ Up input ∷ Down input ∷ []) is.shapes ∙ sym (flat_push (λ i. Up i ∷ Down i ∷ []) is.inputs input))));
  known = known_push facts holds side output (Down input) mid after other (known_push facts holds side output (Up input) before mid one is.known);
  say = say_push facts holds side output (Down input) mid after other (say_push facts holds side output (Up input) before mid one is.say);
}

-- as many inputs as facts, or half as many
pub one_count : (facts : List Decided) (holds : Bool) (side : Side) (output below : ℕ) (numbers : List ℕ) (is : ListsOne facts holds side output below numbers) → length is.inputs ≡ length numbers
one_count facts holds side output below numbers is =
    sym (AllZip-long (λ i shape. (shape ≡ Up i) ⊎ (shape ≡ Down i)) is.inputs (shapes_of (given_of facts []) numbers) is.shapes) ∙ length-map numbers (λ k. (fact_at (given_of facts []) k).claim.shape)

twice_length : (inputs : List ℕ) → length (flat_map (λ i. Up i ∷ Down i ∷ []) inputs) ≡ 2 * length inputs
twice_length [] = refl
twice_length (i ∷ inputs) = omega (arith, twice_length inputs)

pub both_count : (facts : List Decided) (holds : Bool) (side : Side) (output below : ℕ) (numbers : List ℕ) (is : ListsBoth facts holds side output below numbers) → length numbers ≡ 2 * length is.inputs
both_count facts holds side output below numbers is =
    sym (length-map numbers (λ k. (fact_at (given_of facts []) k).claim.shape)) ∙ (ap length is.shapes ∙ twice_length is.inputs)
