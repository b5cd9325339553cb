-- One reference more, and then all.
use Rattle.std.proofs.Common.{◌<◌, None, length, slice_index_or}
use Rattle.std.specs.Prelude.{option_to_list}
use Rattle.refusal_core.proofs.MarkLemmas.{adds_all_referred, adds_referred, referred_below, still_below}
use Rattle.refusal_core.proofs.marking.mark_references.Goals as goal

pub mark_reference-requires : goal.mark_reference-requires
mark_reference-requires c =
    still_below (option_to_list (slice_index_or c.args.references.now c.loop-reference.reference-index None)) c.args.marks.now.items c.loop-reference.marks.items c.loop-reference.invariant.as_many
    (referred_below (λ k. k < length c.args.marks.now.items) c.args.references.now c.loop-reference.reference-index None c.loop-reference-test.true c.requires)

pub loop-reference-preserved : goal.loop-reference-preserved
loop-reference-preserved c = adds_referred c.args.references.now c.loop-reference.reference-index None c.args.marks.now.items c.loop-reference.marks.items c.mark_reference.new.marks.items c.loop-reference-test.true c.loop-reference.invariant c.mark_reference.ensures

pub returns : goal.returns
returns c = adds_all_referred c.args.references.now c.loop-reference.reference-index c.args.marks.now.items c.loop-reference.marks.items c.loop-reference-test.false c.loop-reference.invariant
