use Rattle.std.proofs.Common.{[], ◌∷◌, ◌++◌, refl, ap, ◌∙◌}
use Rattle.hier_blif.specs.declared.model.ModelLine.TheVariants.{Cover}
use Rattle.hier_blif.specs.Frames.{models_in}
use Rattle.hier_blif.proofs.FrameLemmas.{operands_known, after_small}
use Rattle.hier_blif.proofs.TakeLemmas.{takes_cover}
use Rattle.hier_blif.proofs.flattening.Flattening.add_cover.Goals as goal

pub definition-requires-clause-names : goal.definition-requires-clause-names
definition-requires-clause-names c =
    operands_known (models_in c.args.blocks.now) c.args.frame c.args.line.now c.requires.blocks.named c.requires.frame c.requires.line

pub after-requires-clause-at : goal.after-requires-clause-at
after-requires-clause-at c =
    after_small (models_in c.args.blocks.now) c.args.frame (Cover c.args.line.now) 1 c.requires.frame c.requires.line refl

pub returns : goal.returns
returns c =
    let old = c.args.self.now in
    takes_cover (models_in c.args.blocks.now) c.args.frame c.args.line.now _ old _ c.requires.frame c.requires.line refl (c.in_ok-push.ensures.ok ∙ ap (λ def. old.defs ++ def ∷ []) c.in_ok-definition.ensures) c.in_ok-push-2.ensures.ok (c.in_ok-push-3.ensures.ok ∙ ap (λ frame. old.frames ++ frame ∷ []) c.after.ensures)
