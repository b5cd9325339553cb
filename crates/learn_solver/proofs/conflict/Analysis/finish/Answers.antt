-- What is learned at the end.
use Rattle.std.proofs.Common.{ℕ, List, reverse, sym, subst}
use Rattle.cnf_core.specs.declared.literal.SatLit.{SatLit}
use Rattle.learn_solver.specs.Analyses.{IsLearnedAs}
use Rattle.learn_solver.proofs.LearnLemmas.{IsDone, learned}
use Rattle.learn_solver.proofs.conflict.Analysis.finish.Goals as goal

pub returns : goal.returns
returns c =
    let t = c.args.trail.now in
    let clauses = c.args.clauses.now.clauses in
    let a = c.args.self in
    let marked = c.args.marked.now in
    let level = c.back_level-level.result in
    let done : IsDone clauses t marked a.below a.here a.steps.items = record { trail = c.requires.trail; sound = c.requires.sound; filled = c.requires.filled; reduced = c.requires.minimized } in
    let all = learned clauses t marked a.below a.here level a.steps.items done c.back_level-level.ensures in
    subst (λ (ss : List ℕ). IsLearnedAs clauses t c.in_ok-clause.clause ss level) (sym c.reverse.ensures.items) (subst (λ (ls : List SatLit). IsLearnedAs clauses t ls (reverse a.steps.items) level) (sym c.in_ok-clause.ensures) all)
