-- Mismatches by rows: claims that are decided differently show a ban, and where all are decided alike there is none.
use Rattle.std.proofs.Common.{◌≡◌, ℕ, ◌<◌, List, [], ◌∷◌, length, All, Option, None, Some, refl, sym, ap, subst, ◌∙◌, inl, inr, arith}
use Rattle.std.specs.Prelude.{Contains, IfNone}
use Rattle.std.proofs.lemmas.Bool.{false≢true}
use Rattle.std.proofs.lemmas.List.Elements.{All-cons, All-contains, All-nil}
use Rattle.circuits.specs.declared.port.Pair.{Pair}
use Rattle.circuits.specs.declared.port.PortKind.TheVariants.{Input, Output}
use Rattle.net_core.specs.Sides.{Graphs}
use Rattle.net_core.specs.declared.graphs.Side.TheVariants.{First, Second}
use Rattle.claim_core.specs.Images.{moved_value, one_input}
use Rattle.account_core.specs.declared.step.Ban.{Ban}
use Rattle.account_core.specs.declared.step.Step.TheVariants as step
use Rattle.account_core.specs.Given.{Decided, fact_at, given_of}
use Rattle.account_core.specs.Mismatches.{IsImage}
use Rattle.account_core.specs.Ports.{IsKnown}
use Rattle.ban_book.specs.Vectors.{AreDecided, HasOneInput, IsShownBy}
use Rattle.ban_book.proofs.CarriedLemmas.{carried_by, one_back}
use Rattle.ban_book.specs.declared.input_claims.InputClaims.{InputClaims}
use Rattle.ban_book.specs.declared.mismatched.Unlike.{Unlike}
use Rattle.ban_book.specs.Mismatched.{mismatch_of, unlike_of, IsBanBy}
use Rattle.ban_book.specs.Rows.{decided_at, AreAlike, AreRows, HasOneOutput, IsMismatchBan}
use Rattle.ban_book.specs.Shown.{IsShownBan}
use Rattle.ban_book.proofs.MismatchLemmas.{input_before, input_from, input_image, input_to, two_known, two_ordered}
use Rattle.ban_book.proofs.MismatchedLemmas.{mismatch_valid}
use Rattle.ban_book.proofs.RowLemmas.{row_tells, same_said}

-- claims that are decided differently show a ban
pub apart_shown : (graphs : Graphs) (facts : List Decided) (pairs : List Pair) (output : Pair) (one other : List InputClaims) (ban : Ban) → All (IsKnown graphs) pairs → HasOneOutput pairs output → length one ≡ graphs.first.inputs → length other ≡ graphs.second.inputs → IsMismatchBan pairs output one other ban → AreRows facts output one other → IsShownBan graphs facts pairs ban
apart_shown graphs facts pairs output one other ban known has first second is rows =
    let input = is.found.input in
    let value = is.is.value in
    let of_input = is.is.of_input in
    let moved = moved_value output.flip input value in
    let known_input = All-contains (IsKnown graphs) pairs input known is.among in
    let known_output = All-contains (IsKnown graphs) pairs output known has.has in
    let here = row_tells facts First output.from one input.from value rows.first (omega (arith, first, input_from graphs input of_input known_input)) in
    let there = row_tells facts Second output.to other input.to moved rows.second (omega (arith, second, input_to graphs input of_input known_input)) in
    let by : IsBanBy graphs facts (input ∷ output ∷ []) (mismatch_of (input ∷ output ∷ []) (unlike_of (decided_at one input.from value).holds (decided_at one input.from value).number (decided_at other input.to moved).number)) =
    mismatch_valid graphs facts (input ∷ output ∷ []) _ _ (decided_at one input.from value).holds (decided_at other input.to moved).holds (decided_at one input.from value).number (decided_at other input.to moved).number (two_known graphs input output known_input known_output) (two_ordered input output (input_before input output of_input has.of_output)) (refl, input_image input output value of_input has.of_output) here there is.is.is.differ in
    let shown = subst (λ (u : Unlike). IsBanBy graphs facts (input ∷ output ∷ []) (mismatch_of (input ∷ output ∷ []) u)) (sym is.is.is.unlike_is) by in
    subst (IsShownBan graphs facts pairs) (sym is.ban_is) (record {
      valid = shown.valid;
      within = record { among = All-cons (Contains pairs) input (output ∷ []) is.among (All-cons (Contains pairs) output [] has.has (All-nil (Contains pairs))) };
      no_vector = λ vector. vector;
    })

-- where all are decided alike
module _ (graphs : Graphs) (facts : List Decided) (pairs : List Pair) (output : Pair) (one other : List InputClaims) (are : AreDecided graphs facts) (rows : AreRows facts output one other) (known : All (IsKnown graphs) pairs) (has : HasOneOutput pairs output) (first : length one ≡ graphs.first.inputs) (second : length other ≡ graphs.second.inputs) (alike : All (λ pair. pair.kind ≡ Input → AreAlike output one other pair) pairs) where
  abbrev fact : ℕ → Decided
  fact k = fact_at (given_of facts []) k

  alike_facts : (a b : ℕ) → a < length facts → b < length facts → IsImage pairs (fact a).claim (fact b).claim → HasOneInput (fact a).claim.shape → (fact a).holds ≡ (fact b).holds
  alike_facts a b below below_other image single =
      let is = carried_by pairs (fact a).claim (fact b).claim image single in
      let same : is.output ≡ output = All-contains (λ (p : Pair). p.kind ≡ Output → p ≡ output) pairs is.output has.only is.output_among is.output_kind in
      let input = is.input in
      let value = is.value in
      let moved = moved_value output.flip input value in
      let claim_is : (fact a).claim ≡ record { side = First; output = output.from; shape = one_input input.from value } = is.claim_is ∙ ap (λ (p : Pair). record { side = First; output = p.from; shape = one_input input.from value }) same in
      let image_is : (fact b).claim ≡ record { side = Second; output = output.to; shape = one_input input.to moved } = is.image_is ∙ ap (λ (p : Pair). record { side = Second; output = p.to; shape = one_input input.to (moved_value p.flip input value) }) same in
      let known_input = All-contains (IsKnown graphs) pairs input known is.input_among in
      let here = row_tells facts First output.from one input.from value rows.first (omega (arith, first, input_from graphs input is.input_kind known_input)) in
      let there = row_tells facts Second output.to other input.to moved rows.second (omega (arith, second, input_to graphs input is.input_kind known_input)) in
      let so = All-contains (λ (p : Pair). p.kind ≡ Input → AreAlike output one other p) pairs input alike is.input_among is.input_kind in
      same_said graphs facts _ _ _ a are here below claim_is ∙ (so.each value ∙ sym (same_said graphs facts _ _ _ b are there below_other image_is))

  pub alike_no_mismatch : (fails holds : ℕ) → HasOneInput (fact_at (given_of facts []) fails).claim.shape → IsShownBy graphs facts pairs (step.Mismatch fails holds) → ⊥
  alike_no_mismatch fails holds single shown =
      elim shown.rule.image [
        | inl image ↦ false≢true (sym shown.rule.one_fails ∙ (alike_facts fails holds shown.names.0 shown.names.1 image single ∙ shown.rule.other_holds))
        | inr image ↦
            false≢true (sym shown.rule.one_fails ∙ (sym (alike_facts holds fails shown.names.1 shown.names.0 image (one_back pairs (fact holds).claim (fact fails).claim image single)) ∙ shown.rule.other_holds))
      ]

-- what follows of nothing being there
pub none_then : {X : Type 0} (found : Option X) (P Q : Type 0) → IfNone found P → (P → Q) → IfNone found Q
none_then None P Q is then = then is
none_then (Some x) P Q is then = is
