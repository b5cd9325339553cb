-- At first nothing is known, and at last each definition was met.
use Rattle.std.proofs.Common.{arith}
use Rattle.std.proofs.lemmas.Result.{err_from_is_err_and}
use Rattle.net_core.proofs.SearchLaws.{fault_at_root, level_found}
use Rattle.net_core.proofs.levels.visit_all.Goals as goal

pub returns-in_err-explore-clause-fault : goal.returns-in_err-explore-clause-fault
returns-in_err-explore-clause-fault c =
    let p = err_from_is_err_and c.from_residual-in_err-explore.result c.from_residual-in_err-explore.ensures.1 in
    rw (p.1, p.2) (fault_at_root c.args.net.now c.loop-root.root c.loop-root.search.visits.items c.loop-root.search.stack.items c.in_err-explore.field-0.0 (omega arith) c.loop-root.invariant.0 c.in_err-explore.ensures.fault)

pub returns-clause-levels : goal.returns-clause-levels
returns-clause-levels c =
    λ k l. level_found c.args.net.now c.loop-root.root c.loop-root.search.visits.items c.loop-root.search.stack.items k c.loop-root.invariant.0 (omega arith)
