-- What the tried vectors say of all.
use Rattle.std.proofs.Common.{below_more, ap, take_at, rules, sym, ◌∙◌, ◌≡◌, length, arith, refl, subst}
use Rattle.std.proofs.lemmas.Bool.{false≢true}
use Rattle.circuits.proofs.MatchLaws.{AgreeOnAll-from_codes, count-few}
use Rattle.circuits.specs.Literals.{vector_of}
use Rattle.circuits.specs.Matches.{AgreeOn}
use Rattle.circuits.proofs.plain.agree_on_all.Goals as goal

pub returns-then-not-branch : goal.returns-then-not-branch
returns-then-not-branch c =
    let len : length c.as_slice.result.now ≡ c.args.first.now.inputs = search rules in
    (λ h. absurd (false≢true h), λ all. sym c.if-not-branch.true ∙ c.in_ok-agree_on.ensures.1 (all c.as_slice.result.now len))

pub loop-code-preserved : goal.loop-code-preserved
loop-code-preserved c =
    let len : length c.as_mut_slice.result.now ≡ c.inputs-inputs.result = c.as_mut_slice.ensures.len ∙ c.loop-code.invariant.same_length in
    let whole : length c.write_vector.new.out ≡ c.loop-code.vector.len = omega arith in
    let is : c.as_slice.result.now ≡ vector_of c.inputs-inputs.result c.loop-code.code = c.as_slice.ensures.value ∙ (take_at c.write_vector.new.out _ c.loop-code.vector.len whole ∙ (c.write_vector.ensures ∙ ap (λ n. vector_of n c.loop-code.code) len)) in
    record {
      same_length = c.loop-code.invariant.same_length;
      agreed = below_more _ _ c.loop-code.invariant.agreed (subst (λ x. AgreeOn c.args.first.now c.args.second.now c.args.p.now c.args.q.now x) is (c.in_ok-agree_on.ensures.0 c.if-not-branch.false));
    }

pub returns : goal.returns
returns c =
    (λ h. AgreeOnAll-from_codes c.args.first.now c.args.second.now c.args.p.now c.args.q.now c.inputs-inputs.result c.inputs-inputs.ensures (λ code l. c.loop-code.invariant.agreed code (omega (arith, count-few c.inputs-inputs.result c.loop-code.code (omega arith) c.loop-code-test.false))), λ all. refl)
