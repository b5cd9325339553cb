-- A search that hasn't begun.
use Rattle.std.proofs.Common.{List, [], replicate, sym, subst, ap, ◌∙◌, false, All}
use Rattle.cnf_core.specs.declared.literal.SatLit.{SatLit}
use Rattle.cnf_core.specs.Derivations.{clauses_of}
use Rattle.watch_lists.specs.Watched.{Watching}
use Rattle.learn_solver.specs.Orders.{IsOrder}
use Rattle.learn_solver.specs.Solvers.{HaveVariables}
use Rattle.learn_solver.proofs.StartLemmas.{begun_is}
use Rattle.learn_solver.proofs.SolverLemmas.{lines_known}
use Rattle.learn_solver.proofs.search.begun.Goals as goal
use Rattle.cnf_core.specs.Clauses.{AreKnown}

pub put_lines-requires-clause-known : goal.put_lines-requires-clause-known
put_lines-requires-clause-known g c =
    let formula = g.B.Base.formula c.args.base.now in
    let same = c.in_ok-add_clauses.ensures.variables ∙ (ap (λ (w : Watching). w.variables) c.in_ok-watches.ensures ∙ c.variables-2.ensures) in
    subst (λ n. All (AreKnown n) (clauses_of c.args.lines.now)) (sym same) (lines_known formula c.args.lines.now c.requires.derived)

pub returns : goal.returns
returns g c =
    let formula = g.B.Base.formula c.args.base.now in
    let trail = c.in_ok-trail.ensures ∙ ap (λ n. record { variables = n; entries = []; level = 0; walked = 0 }) c.variables.ensures in
    let same = c.in_ok-add_clauses.ensures.variables ∙ (ap (λ (w : Watching). w.variables) c.in_ok-watches.ensures ∙ c.variables-2.ensures) in
    let have = subst (λ n. HaveVariables n c.add_clauses.new.watches.clauses c.in_ok-occurring.occurring.items) c.variables-3.ensures (subst (λ (cs : List (List SatLit)). HaveVariables c.variables-3.result cs c.in_ok-occurring.occurring.items) c.store.ensures.clauses c.in_ok-occurring.ensures) in
    begun_is (record { formula = formula; ids = c.args.ids.now; lines = c.args.lines.now }) c.in_ok-trail.trail c.add_clauses.new.watches c.put_lines.new.watches (record { occurring = c.in_ok-occurring.occurring; marks = c.in_ok-marks.marks; order = c.in_ok-order.order; restarts = c.new-4.result; focus = c.in_ok-focus.focus }) c.requires.ids c.requires.derived (record { put = c.in_ok-add_clauses.ensures.put; unattached = c.in_ok-add_clauses.ensures.unattached; variables = same }) c.in_ok-put_lines.ensures.put c.in_ok-put_lines.ensures.unattached c.in_ok-put_lines.ensures.variables trail have (c.in_ok-marks.ensures ∙ ap (λ n. replicate n false) c.variables-4.ensures) (subst (λ n. IsOrder n c.in_ok-order.order) c.variables-6.ensures c.in_ok-order.ensures)
