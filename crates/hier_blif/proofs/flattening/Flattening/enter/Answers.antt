use Rattle.std.proofs.Common.{◌+◌, refl, ap, ◌∙◌, arith}
use Rattle.hier_blif.specs.declared.model.ModelLine.TheVariants.{Instance}
use Rattle.hier_blif.specs.Frames.{models_in, inner_frame}
use Rattle.hier_blif.proofs.FrameLemmas.{knows_inputs, after_small, instance_below, some_depth}
use Rattle.hier_blif.proofs.TakeLemmas.{takes_instance, size_made, both_pushed}
use Rattle.hier_blif.proofs.flattening.Flattening.enter.Goals as goal

pub inputs_of-requires-clause-names : goal.inputs_of-requires-clause-names
inputs_of-requires-clause-names c =
    knows_inputs (models_in c.args.blocks.now) c.args.frame c.args.line.now c.requires.blocks.named c.requires.frame c.requires.line

pub inner-inner-requires : goal.inner-inner-requires
inner-inner-requires c =
    some_depth (models_in c.args.blocks.now) c.args.frame c.args.line.now c.requires.frame c.requires.line

pub covers_of-requires : goal.covers_of-requires
covers_of-requires c =
    omega (arith, instance_below (models_in c.args.blocks.now) c.args.frame c.args.line.now c.requires.blocks.named c.requires.frame c.requires.line, c.place_of-place.ensures, c.requires.blocks.sizes.entries)

pub after-requires-clause-at : goal.after-requires-clause-at
after-requires-clause-at c =
    let models = models_in c.args.blocks.now in
    let line = c.args.line.now in
    let made = size_made models c.args.frame line c.place_of-place.result c.args.blocks.now.sizes.now c.requires.blocks.named c.requires.frame c.requires.line c.requires.blocks.sizes c.place_of-place.ensures in
    after_small models c.args.frame (Instance line) c.covers_of.result c.requires.frame c.requires.line (c.covers_of.ensures ∙ made)

pub returns : goal.returns
returns c =
    let models = models_in c.args.blocks.now in
    let frame = c.args.frame in
    let line = c.args.line.now in
    let old = c.args.self.now in
    let place = c.place_of-place.ensures in
    let inputs = c.in_ok-inputs.inputs in
    let made = size_made models frame line c.place_of-place.result c.args.blocks.now.sizes.now c.requires.blocks.named c.requires.frame c.requires.line c.requires.blocks.sizes place in
    let there = instance_below models frame line c.requires.blocks.named c.requires.frame c.requires.line in
    let frames = both_pushed old.frames c.push.new.self c.push-2.new.self c.after.result c.inner-inner.result _ _ c.in_ok-push.ensures.ok c.after.ensures c.in_ok-push-2.ensures.ok (c.inner-inner.ensures ∙ ap (λ p. inner_frame frame p inputs) place) in
    takes_instance models frame line _ inputs old _ c.requires.blocks.named there c.requires.frame c.requires.line (ap (λ n. frame.at + n) (c.covers_of.ensures ∙ made)) c.in_ok-inputs.ensures refl refl frames
