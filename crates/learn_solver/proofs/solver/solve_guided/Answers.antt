-- The search begins with the clauses and the lines that are the solver's; the lines that it charges are different clauses.
use Rattle.std.proofs.Common.{◌≡◌, subst, ap, ◌∙◌}
use Rattle.learn_solver.specs.Solvers.{IsBoundedStop, Solving}
use Rattle.learn_solver.specs.Starts.{IsBegun}
use Rattle.learn_solver.proofs.BoundLemmas.{bounded_by, bounded_stop}
use Rattle.learn_solver.proofs.StepLemmas.{passed_on}
use Rattle.learn_solver.proofs.solver.solve_guided.Goals as goal

pub found_by-requires-clause-begun : goal.found_by-requires-clause-begun
found_by-requires-clause-begun g c =
    let s = c.args.solver.now in
    let formula = g.B.Base.formula c.solver.inside.base.now in
    let lines = c.deref-2.result.now in
    let idle = c.in_ok-search.search in
    let same : record { formula = formula; ids = c.deref.result.now; lines = lines } ≡ s = ap (λ ids. record { formula = formula; ids = ids; lines = lines }) c.deref.ensures.value ∙ (ap (λ ls. record { formula = formula; ids = c.solver.inside.ids.items; lines = ls }) c.deref-2.ensures.value ∙ c.solver.view_is) in
    subst (λ (x : Solving). IsBegun x idle.trail idle.watches idle.tools) same c.in_ok-search.ensures

pub returns-clause-bounded : goal.returns-clause-bounded
returns-clause-bounded g c = bounded_by c.args.solver.now c.found_by.new.solver (g.L.Charge.charging c.args.ledger.now) (g.L.Charge.charging c.found_by.new.ledger) c.in_ok-found.ensures.ended.extended

pub returns-in_err-found-clause-bounded_stop : goal.returns-in_err-found-clause-bounded_stop
returns-in_err-found-clause-bounded_stop g c =
    let old = c.args.solver.now in
    let new = c.found_by.new.solver in
    let first = g.L.Charge.charging c.args.ledger.now in
    let after = g.L.Charge.charging c.found_by.new.ledger in
    let stop = c.in_err-found.field-0.0 in
    passed_on c.from_residual-in_err-found.result stop (IsBoundedStop old.formula.variables first after) c.from_residual-in_err-found.ensures.1 (bounded_stop old new first after stop c.in_err-found.ensures.stop)
