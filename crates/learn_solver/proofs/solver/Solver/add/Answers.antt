-- A line more.
use Rattle.std.proofs.Common.{◌≡◌, ◌++◌, ◌∷◌, [], List, None, sym, subst, ap, ◌∙◌}
use Rattle.cnf_core.specs.declared.log.LogLine.{LogLine}
use Rattle.cnf_core.specs.Derivations.{AreDerived, clauses_of, line_fault}
use Rattle.learn_solver.specs.Solvers.{Solving}
use Rattle.learn_solver.proofs.SolverLemmas.{derived_more}
use Rattle.learn_solver.proofs.solver.Solver.add.Goals as goal

pub invariant_of-self-2 : goal.invariant_of-self-2
invariant_of-self-2 g c =
    let old = c.self.inside in
    let formula = g.B.Base.formula old.base.now in
    let line = c.args.line in
    let good = subst (λ (s : Solving). line_fault s.formula (clauses_of s.lines) line ≡ None) (sym c.self.view_is) c.requires in
    let lines = c.push_reserved.ensures.items ∙ ap (λ (ls : List LogLine). ls ++ line ∷ []) c.in_ok-reserve.ensures.items in
    record {
      there = c.self.invariant.there;
      derived = subst (λ (ls : List LogLine). AreDerived formula ls) (sym lines) (derived_more formula old.lines.items line c.self.invariant.derived good);
    }
