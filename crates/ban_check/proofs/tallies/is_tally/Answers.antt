-- What the tests come to.
use Rattle.std.proofs.Common.{arith, subst, ap, ◌∙◌, ◌↔◌}
use Rattle.std.specs.Bool.{IsTrue}
use Rattle.circuits.specs.Netlists.{Net}
use Rattle.ban_check.specs.Counted.{HaveTooMany}
use Rattle.ban_check.proofs.BoolLemmas.{refused}
use Rattle.ban_check.proofs.TallyLemmas.{tally_counts, tally_tests}
use Rattle.ban_check.proofs.tallies.is_tally.Goals as goal

pub returns-in_default : goal.returns-in_default
returns-in_default c =
    refused _ (λ tally. let some = (tally_counts c.args.graphs.now c.args.given.now c.args.pairs.now c.args.kind c.args.have.now c.args.lack.now tally).0 in omega (arith, some, c.in_default.len_below))

pub returns-in_default-lack : goal.returns-in_default-lack
returns-in_default-lack c =
    refused _ (λ tally. let some = (tally_counts c.args.graphs.now c.args.given.now c.args.pairs.now c.args.kind c.args.have.now c.args.lack.now tally).1 in omega (arith, some, c.in_default-lack.len_below))

pub returns : goal.returns
returns c =
    let have = c.args.have.now in
    let lack = c.args.lack.now in
    let many = subst (λ n. IsTrue c.have_too_many.result ↔ HaveTooMany n c.args.given.now c.args.kind have lack) (c.inputs.ensures.value ∙ ap (λ (net : Net). net.inputs) c.first.ensures.value) c.have_too_many.ensures in
    tally_tests c.args.graphs.now c.args.given.now c.args.pairs.now c.args.kind have lack c.fact.result.claim c.fact-2.result.claim c.are_paired.result c.say_of.result c.say_of-2.result c.have_too_many.result (omega (arith, c.in-len1-up.len_at_least)) (omega (arith, c.in-len1-up-lack.len_at_least)) c.fact.ensures.claim c.fact-2.ensures.claim c.are_paired.ensures c.say_of.ensures c.say_of-2.ensures many
