-- One mark more, and then all.
use Rattle.std.proofs.Common.{[], ◌∷◌, ◌++◌, true, take, slice_index_or, ap, sym, ◌∙◌}
use Rattle.std.proofs.lemmas.List.{map_more, take_all}
use Rattle.account_trim.specs.Lowered.{marks_at}
use Rattle.account_trim.proofs.lowering.marks_at.Goals as goal

pub loop-place-preserved : goal.loop-place-preserved
loop-place-preserved c =
    let marks = c.args.marks.now in
    c.in_ok-push.ensures.items
    ∙ (ap (λ l. l ++ c.mark_at.result ∷ []) c.loop-place.invariant
    ∙ (ap (λ m. marks_at marks (take c.loop-place.place-index c.args.places.now) ++ m ∷ []) c.mark_at.ensures
    ∙ sym (map_more (λ place. slice_index_or marks place true) c.args.places.now c.loop-place.place-index 0 c.loop-place-test.true)))

pub returns : goal.returns
returns c = c.loop-place.invariant ∙ ap (marks_at c.args.marks.now) (take_all c.loop-place.place-index c.args.places.now c.loop-place-test.false)
