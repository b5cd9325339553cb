-- What fits a trail fits it at level 0.
use Rattle.std.proofs.Common.{arith, sym, subst, ap}
use Rattle.watch_lists.specs.Watched.{Watching}
use Rattle.learn_solver.specs.Starts.{IsFitting}
use Rattle.learn_solver.proofs.GoneLemmas.{fitting_back}
use Rattle.learn_solver.proofs.search.Search.back_to_root.Goals as goal

pub returns : goal.returns
returns c =
    let old = c.args.self.now in
    let e = c.leave.ensures in
    let fitting = fitting_back old.watches old.trail c.leave.new.self.trail 0 c.requires.fitting e.back (omega (arith, c.level.ensures.value, c.if-level-eq0.false)) in
    record {
      fitting = subst (λ (w : Watching). IsFitting w c.leave.new.self.trail) (sym e.watches) fitting;
      clauses = ap (λ (w : Watching). w.clauses) e.watches;
      variables = e.back.variables;
      tools = e.tools;
    }
