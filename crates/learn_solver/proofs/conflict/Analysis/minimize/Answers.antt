-- Nothing gave way yet.
use Rattle.std.proofs.Common.{refl}
use Rattle.learn_solver.proofs.MinimizeLemmas.{reduced_start}
use Rattle.learn_solver.proofs.conflict.Analysis.minimize.Goals as goal

pub loop-place-init : goal.loop-place-init
loop-place-init c =
    let a = c.args.self.now in
    record {
      reducing = reduced_start c.args.clauses.now.clauses c.args.trail.now c.args.marked.now a.below a.here a.steps.items c.requires.analysis c.requires.done;
      on_trail = c.requires.on_trail;
      same = refl;
    }
