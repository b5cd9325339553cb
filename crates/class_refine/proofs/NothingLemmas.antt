-- What facts show of assigned pairs and one more, by what they show of each two.
use Rattle.std.proofs.Common.{◌≡◌, ℕ, List, [], ◌∷◌, ◌++◌, All, Some, refl, sym, ap, subst, ◌∙◌, inl, inr}
use Rattle.std.specs.Prelude.{Contains}
use Rattle.std.proofs.lemmas.List.Elements.{All-contains, Contains-append_left, Contains-push}
use Rattle.circuits.specs.declared.port.Pair.{Pair}
use Rattle.circuits.specs.declared.port.PortKind.TheVariants.{Input, Output}
use Rattle.net_core.specs.Sides.{Graphs}
use Rattle.claim_core.specs.declared.claims.Claim.{Claim}
use Rattle.claim_core.specs.Images.{image_of}
use Rattle.account_core.specs.declared.step.Ban.{Ban}
use Rattle.account_core.specs.declared.step.Step.TheVariants as step
use Rattle.account_core.specs.declared.step.Tallied.{Tallied}
use Rattle.account_core.specs.Given.{Decided, fact_at, given_of}
use Rattle.account_core.specs.Mismatches.{IsImage}
use Rattle.account_core.specs.Ports.{AreOrdered, IsKnown}
use Rattle.ban_book.specs.Vectors.{HasOneInput, HaveNoFacts, IsShownBy}
use Rattle.ban_book.proofs.CarriedLemmas.{IsCarried, carried_by, one_back}
use Rattle.ban_book.proofs.ShownLemmas.{tally_in}
use Rattle.ban_book.specs.Shown.{IsShownBan}
use Rattle.ban_book.proofs.MismatchLemmas.{one_image, pair_of-one}
use Rattle.account_core.specs.Assigned.{AreAssignable}
use Rattle.ban_book.proofs.BlockListLemmas.{among_more}
use Rattle.class_refine.specs.Rows.{AreInputsOf, ShowNothingAt}
use Rattle.class_refine.proofs.InputLemmas.{inputs_known, kinds_differ, one_input, ordered_with}
use Rattle.circuits.proofs.Lists.{cons_cases}

-- A list in order that has an input's pair and an output's, and of which facts show nothing.
record IsCleared (graphs : Graphs) (facts : List Decided) (input output : Pair) : Type 0 where
  pairs : List Pair
  ordered : AreOrdered pairs
  has_input : Contains pairs input
  has_output : Contains pairs output
  nothing : HaveNoFacts graphs facts pairs

-- One that has an output's.
record IsOneCleared (graphs : Graphs) (facts : List Decided) (output : Pair) : Type 0 where
  pairs : List Pair
  has : Contains pairs output
  nothing : HaveNoFacts graphs facts pairs

-- Each two of some pairs are in such a list, and each of an output is.
record AreCleared (graphs : Graphs) (facts : List Decided) (pairs : List Pair) : Type 0 where
  both : (input output : Pair) → Contains pairs input → input.kind ≡ Input → Contains pairs output → output.kind ≡ Output → IsCleared graphs facts input output
  one : (output : Pair) → Contains pairs output → output.kind ≡ Output → IsOneCleared graphs facts output

-- a claim's image under pairs is its image under other ones that have the two
image_in : (few pairs : List Pair) (claim image : Claim) → AreOrdered few → (is : IsCarried pairs claim image) → Contains few is.input → Contains few is.output → IsImage few claim image
image_in few pairs claim image ordered is has_input has_output =
    let output = pair_of-one few is.output Output is.output.from ordered has_output is.output_kind refl in
    let input = pair_of-one few is.input Input is.input.from ordered has_input is.input_kind refl in
    (ap (λ (c : Claim). c.side) is.claim_is, ap (image_of few) is.claim_is ∙ (one_image few is.input is.output is.output.from is.input.from is.value output input ∙ ap (λ (c : Claim). Some c) (sym is.image_is)))

module _ (graphs : Graphs) (facts : List Decided) (pairs : List Pair) (are : AreCleared graphs facts pairs) where
  abbrev fact : ℕ → Decided
  fact k = fact_at (given_of facts []) k

  no_mismatch : (fails holds : ℕ) → HasOneInput (fact fails).claim.shape → IsShownBy graphs facts pairs (step.Mismatch fails holds) → ⊥
  no_mismatch fails holds single shown =
      elim shown.rule.image [
        | inl image ↦
            let is = carried_by pairs (fact fails).claim (fact holds).claim image single in
            let few = are.both is.input is.output is.input_among is.input_kind is.output_among is.output_kind in
            few.nothing.no_mismatch fails holds single (record {
              names = shown.names;
              rule = record { one_fails = shown.rule.one_fails; other_holds = shown.rule.other_holds; image = inl (image_in few.pairs pairs (fact fails).claim (fact holds).claim few.ordered is few.has_input few.has_output) };
            })
        | inr image ↦
            let is = carried_by pairs (fact holds).claim (fact fails).claim image (one_back pairs (fact holds).claim (fact fails).claim image single) in
            let few = are.both is.input is.output is.input_among is.input_kind is.output_among is.output_kind in
            few.nothing.no_mismatch fails holds single (record {
              names = shown.names;
              rule = record { one_fails = shown.rule.one_fails; other_holds = shown.rule.other_holds; image = inr (image_in few.pairs pairs (fact holds).claim (fact fails).claim few.ordered is few.has_input few.has_output) };
            })
      ]

  no_tally : (kind : Tallied) (have lack : List ℕ) → IsShownBy graphs facts pairs (step.Tally kind have lack) → ⊥
  no_tally kind have lack shown =
      let few = are.one shown.rule.pair shown.rule.paired shown.rule.of_outputs in
      few.nothing.no_tally kind have lack (record { names = shown.names; rule = tally_in (given_of facts []) (given_of facts []) graphs pairs few.pairs kind have lack (λ k d below. refl) (λ k d below. refl) shown.rule few.has })

  nothing_of : HaveNoFacts graphs facts pairs
  nothing_of = record { no_mismatch = no_mismatch; no_tally = no_tally }

-- assigned pairs, of whose inputs and any one output facts show nothing
module _ (graphs : Graphs) (facts : List Decided) (assigned inputs : List Pair) (are : AreAssignable graphs assigned) (of : AreInputsOf assigned inputs) (alone : ShowNothingAt graphs facts inputs assigned) where
  nothing_at : (output : Pair) → Contains assigned output → output.kind ≡ Output → HaveNoFacts graphs facts (inputs ++ output ∷ [])
  nothing_at output there kind = All-contains (λ (p : Pair). p.kind ≡ Output → HaveNoFacts graphs facts (inputs ++ p ∷ [])) assigned output alone there kind

  input_of : (input : Pair) → Contains assigned input → input.kind ≡ Input → Contains inputs input
  input_of input there kind = All-contains (λ (p : Pair). p.kind ≡ Input → Contains inputs p) assigned input of.all there kind

  -- with an output's pair, of which facts show nothing either
  with_output : (input output : Pair) → Contains assigned input → input.kind ≡ Input → output.kind ≡ Output → HaveNoFacts graphs facts (inputs ++ output ∷ []) → IsCleared graphs facts input output
  with_output input output there kind of_output nothing = record {
    pairs = inputs ++ output ∷ [];
    ordered = ordered_with graphs inputs output (inputs_known graphs assigned inputs are of) of_output;
    has_input = Contains-append_left inputs (output ∷ []) input (input_of input there kind);
    has_output = Contains-push inputs output;
    nothing = nothing;
  }

  one_output : (output : Pair) → HaveNoFacts graphs facts (inputs ++ output ∷ []) → IsOneCleared graphs facts output
  one_output output nothing = record { pairs = inputs ++ output ∷ []; has = Contains-push inputs output; nothing = nothing }

  assigned_cleared : AreCleared graphs facts assigned
  assigned_cleared = record {
    both = λ input output there kind assigned_output of_output. with_output input output there kind of_output (nothing_at output assigned_output of_output);
    one = λ output there kind. one_output output (nothing_at output there kind);
  }

  pub nothing_assigned : HaveNoFacts graphs facts assigned
  nothing_assigned = nothing_of graphs facts assigned assigned_cleared

  beside_cases : (pair other : Pair) → Contains assigned pair → Contains (pair ∷ assigned) other → Contains assigned other
  beside_cases pair other there in_both = elim (cons_cases assigned pair other in_both) [ inl same ↦ subst (Contains assigned) same there | inr later ↦ later ]

  -- beside them one of them adds nothing
  pub nothing_beside : (pair : Pair) → Contains assigned pair → HaveNoFacts graphs facts (pair ∷ assigned)
  nothing_beside pair there =
      nothing_of graphs facts (pair ∷ assigned) (record {
        both = λ input output a kind b of_output. assigned_cleared.both input output (beside_cases pair input there a) kind (beside_cases pair output there b) of_output;
        one = λ output a kind. assigned_cleared.one output (beside_cases pair output there a) kind;
      })

  -- nor does an output's, if facts show nothing of it and the inputs
  module _ (way : Pair) (kind_is : way.kind ≡ Output) (nothing : HaveNoFacts graphs facts (inputs ++ way ∷ [])) where
    output_nothing : (output : Pair) → Contains (way ∷ assigned) output → output.kind ≡ Output → HaveNoFacts graphs facts (inputs ++ output ∷ [])
    output_nothing output there kind =
        elim (cons_cases assigned way output there) [
          | inl same ↦ subst (λ (p : Pair). HaveNoFacts graphs facts (inputs ++ p ∷ [])) same nothing
          | inr later ↦ nothing_at output later kind
        ]

    assigned_input : (input : Pair) → Contains (way ∷ assigned) input → input.kind ≡ Input → Contains assigned input
    assigned_input input there kind =
        elim (cons_cases assigned way input there) [
          | inl same ↦ absurd (kinds_differ (sym kind ∙ (sym (ap (λ (p : Pair). p.kind) same) ∙ kind_is)))
          | inr later ↦ later
        ]

    pub nothing_of_output : HaveNoFacts graphs facts (way ∷ assigned)
    nothing_of_output =
        nothing_of graphs facts (way ∷ assigned) (record {
          both = λ input output a kind b of_output. with_output input output (assigned_input input a kind) kind of_output (output_nothing output b of_output);
          one = λ output there kind. one_output output (output_nothing output there kind);
        })

  -- nor does an input's, if facts show nothing of it and any one output
  module _ (way : Pair) (known : IsKnown graphs way) (kind_is : way.kind ≡ Input) (nothing : ShowNothingAt graphs facts (way ∷ []) assigned) where
    assigned_output : (output : Pair) → Contains (way ∷ assigned) output → output.kind ≡ Output → Contains assigned output
    assigned_output output there kind =
        elim (cons_cases assigned way output there) [
          | inl same ↦ absurd (kinds_differ (sym kind_is ∙ (ap (λ (p : Pair). p.kind) same ∙ kind)))
          | inr later ↦ later
        ]

    with_way : (output : Pair) → Contains assigned output → output.kind ≡ Output → IsCleared graphs facts way output
    with_way output there kind = record {
      pairs = (way ∷ []) ++ output ∷ [];
      ordered = ordered_with graphs (way ∷ []) output (one_input graphs way known kind_is) kind;
      has_input = Contains-append_left (way ∷ []) (output ∷ []) way (Contains-push [] way);
      has_output = Contains-push (way ∷ []) output;
      nothing = All-contains (λ (p : Pair). p.kind ≡ Output → HaveNoFacts graphs facts ((way ∷ []) ++ p ∷ [])) assigned output nothing there kind;
    }

    way_both : (input output : Pair) → Contains (way ∷ assigned) input → input.kind ≡ Input → Contains assigned output → output.kind ≡ Output → IsCleared graphs facts input output
    way_both input output there kind made_one of_output =
        elim (cons_cases assigned way input there) [
          | inl same ↦ subst (λ (p : Pair). IsCleared graphs facts p output) same (with_way output made_one of_output)
          | inr later ↦ assigned_cleared.both input output later kind made_one of_output
        ]

    pub nothing_of_input : HaveNoFacts graphs facts (way ∷ assigned)
    nothing_of_input =
        nothing_of graphs facts (way ∷ assigned) (record {
          both = λ input output a kind b of_output. way_both input output a kind (assigned_output output b of_output) of_output;
          one = λ output there kind. assigned_cleared.one output (assigned_output output there kind) kind;
        })

-- a ban of some pairs is one of more of them
pub shown_more : (graphs : Graphs) (facts : List Decided) (few more : List Pair) (ban : Ban) → All (Contains more) few → IsShownBan graphs facts few ban → IsShownBan graphs facts more ban
shown_more graphs facts few more ban all shown = record {
  valid = shown.valid;
  within = record { among = among_more ban.pairs few more shown.within.among all };
  no_vector = shown.no_vector;
}
