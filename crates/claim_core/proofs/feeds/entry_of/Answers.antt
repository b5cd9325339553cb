-- What an input gets, in each form.
use Rattle.std.proofs.Common.{◌<◌, false, length, slice_index_or, sym, ap, ◌∙◌, arith}
use Rattle.claim_core.specs.declared.query.Feed.TheVariants.{Wire}
use Rattle.claim_core.specs.Feeds.{feeds_in, value_at}
use Rattle.claim_core.proofs.ClaimQueryLemmas.{values_count}
use Rattle.claim_core.proofs.FeedLemmas.{straight_at, values_at}
use Rattle.claim_core.proofs.MatchLemmas.{straight_count}
use Rattle.claim_core.proofs.feeds.entry_of.Goals as goal

pub place_of-requires : goal.place_of-requires
place_of-requires c =
    let count = ap (λ f. length (feeds_in f)) c.in-Straight.is ∙ straight_count c.in-Straight.inputs in
    omega (arith, c.requires, count)

pub place_of-requires-in-Valued : goal.place_of-requires-in-Valued
place_of-requires-in-Valued c =
    let count = ap (λ f. length (feeds_in f)) c.in-Valued.is ∙ values_count c.in-Valued.inputs c.in-Valued.shape in
    omega (arith, c.requires, count)

pub returns-in-Straight : goal.returns-in-Straight
returns-in-Straight c =
    let k = c.args.input in
    let d = c.own_bit.result in
    let count = ap (λ f. length (feeds_in f)) c.in-Straight.is ∙ straight_count c.in-Straight.inputs in
    let there : k < c.in-Straight.inputs = omega (arith, c.requires, count) in
    let same = c.own_bit.ensures ∙ ap (λ j. Wire j false) c.place_of.ensures in
    same ∙ sym (ap (λ f. slice_index_or (feeds_in f) k d) c.in-Straight.is ∙ straight_at c.in-Straight.inputs k d there)

pub returns-in-Valued : goal.returns-in-Valued
returns-in-Valued c =
    let k = c.args.input in
    let d = c.value_at.result in
    let shape = c.in-Valued.shape in
    let count = ap (λ f. length (feeds_in f)) c.in-Valued.is ∙ values_count c.in-Valued.inputs shape in
    let there : k < c.in-Valued.inputs = omega (arith, c.requires, count) in
    let same = c.value_at.ensures ∙ ap (value_at shape) c.place_of-in-Valued.ensures in
    same ∙ sym (ap (λ f. slice_index_or (feeds_in f) k d) c.in-Valued.is ∙ values_at c.in-Valued.inputs k shape d there)
