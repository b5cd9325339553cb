use Rattle.std.proofs.Common.{[], ◌∷◌, ◌++◌, Some, refl, ap, ◌∙◌, arith}
use Rattle.hier_blif.specs.Frames.{models_in}
use Rattle.hier_blif.proofs.FrameLemmas.{at_small}
use Rattle.hier_blif.proofs.TakeLemmas.{takes_ports}
use Rattle.hier_blif.proofs.flattening.Flattening.take.Goals as goal

pub add_cover-requires-clause-line : goal.add_cover-requires-clause-line
add_cover-requires-clause-line c = c.requires.line ∙ ap Some c.in-Cover.is

pub enter-requires-clause-line : goal.enter-requires-clause-line
enter-requires-clause-line c = c.requires.line ∙ ap Some c.in-Instance.is

pub after-requires-clause-at : goal.after-requires-clause-at
after-requires-clause-at c = omega (arith, at_small (models_in c.args.blocks.now) c.args.frame c.requires.frame)

pub returns-in_ok-push-in_default : goal.returns-in_ok-push-in_default
returns-in_ok-push-in_default c =
    let old = c.args.self.now in
    takes_ports (models_in c.args.blocks.now) c.args.frame c.args.line.now _ old _ c.requires.frame c.in_default.not-Cover c.in_default.not-Instance c.requires.line refl refl refl (c.in_ok-push-in_default.ensures.ok ∙ ap (λ frame. old.frames ++ frame ∷ []) c.after.ensures)
