-- No list is left where none of the numbered ones serves.
use Rattle.std.proofs.Common.{below_more, sym, ◌∙◌, ◌≡◌, subst, ◌≤◌, arith, rules}
use Rattle.std.proofs.lemmas.Bool.{false≢true}
use Rattle.circuits.specs.Bijections.{entries_of}
use Rattle.circuits.specs.Matches.{IsPartOfMatch}
use Rattle.circuits.proofs.Entries.{no_match, count_of_lists}
use Rattle.circuits.proofs.plain.have_npnp_equal_functions.Goals as goal

pub loop-code-preserved : goal.loop-code-preserved
loop-code-preserved c =
    let is : entries_of c.inputs-inputs.result c.loop-code.code ≡ c.as_slice.result.now = search rules in
    below_more _ _ c.loop-code.invariant (λ part. false≢true (sym c.if-branch.false ∙ c.in_ok-is_part_of_match.ensures.1 (subst (λ p. IsPartOfMatch c.args.first.now c.args.second.now p) is part)))

pub returns : goal.returns
returns c =
    let n = c.inputs-inputs.result in
    let few : n ≤ 7 = omega arith in
    (λ h. absurd (false≢true h), λ equal. absurd (no_match c.args.first.now c.args.second.now n c.loop-code.code c.inputs-inputs.ensures few (count_of_lists n c.loop-code.code few c.loop-code-test.false) c.loop-code.invariant equal))
