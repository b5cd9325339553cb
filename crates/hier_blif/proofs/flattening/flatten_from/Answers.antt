use Rattle.std.proofs.Common.{[], ◌∷◌, ◌++◌, refl, ap, ◌∙◌}
use Rattle.hier_blif.specs.Frames.{models_in, frame_left}
use Rattle.hier_blif.proofs.TakeLemmas.{popped, flattening_first, flattening_more, steps_fall, none_left, flattening_done}
use Rattle.hier_blif.proofs.flattening.flatten_from.Goals as goal

pub loop-frame-init : goal.loop-frame-init
loop-frame-init c =
    let top = c.args.top in
    flattening_first (models_in c.args.blocks.now) top _ c.requires.frame c.new.ensures c.new-2.ensures (c.in_ok-push.ensures.ok ∙ ap (λ frames. frames ++ top ∷ []) c.new-3.ensures)

pub take_line-requires-clause-frame : goal.take_line-requires-clause-frame
take_line-requires-clause-frame c =
    (popped (models_in c.args.blocks.now) c.loop-frame.flattening.frames _ c.in-Some.frame c.in-Some.ensures.items c.loop-frame.invariant.frames).1

pub loop-frame-preserved : goal.loop-frame-preserved
loop-frame-preserved c =
    let models = models_in c.args.blocks.now in
    flattening_more models (frame_left models c.args.top) c.in-Some.frame c.loop-frame.flattening _ c.take_line.new.self c.in-Some.ensures.items refl refl c.in_ok-take_line.ensures c.loop-frame.invariant

pub loop-frame-smaller : goal.loop-frame-smaller
loop-frame-smaller c =
    steps_fall (models_in c.args.blocks.now) c.in-Some.frame c.loop-frame.flattening _ c.take_line.new.self c.in-Some.ensures.items c.in_ok-take_line.ensures

pub returns-clause-defs : goal.returns-clause-defs
returns-clause-defs c =
    let models = models_in c.args.blocks.now in
    (flattening_done models (frame_left models c.args.top) c.loop-frame.flattening (none_left c.loop-frame.flattening.frames c.in_default.ensures.variant.1) c.loop-frame.invariant).0

pub returns-clause-places : goal.returns-clause-places
returns-clause-places c =
    let models = models_in c.args.blocks.now in
    (flattening_done models (frame_left models c.args.top) c.loop-frame.flattening (none_left c.loop-frame.flattening.frames c.in_default.ensures.variant.1) c.loop-frame.invariant).1
