-- The clauses of the lines so far.
use Rattle.std.proofs.Common.{◌≡◌, false, List, sym, subst}
use Rattle.cnf_core.specs.declared.literal.SatLit.{SatLit}
use Rattle.cnf_core.specs.Derivations.{is_empty}
use Rattle.learn_solver.proofs.StartLemmas.{line_clause}
use Rattle.learn_solver.proofs.search.put_lines.Goals as goal
use Rattle.cnf_core.specs.Clauses.{AreKnown}

pub add-requires-clause-known : goal.add-requires-clause-known
add-requires-clause-known c =
    let l = c.loop-line in
    subst (λ n. AreKnown n c.deref.result.now) (sym l.invariant.variables) (subst (AreKnown c.args.watches.now.variables) (sym c.deref.ensures.value) (line_clause (AreKnown c.args.watches.now.variables) c.args.lines.now l.line-index c.line-item.result c.loop-line-test.true c.line-item.is c.requires.known))

pub add-requires-clause-filled : goal.add-requires-clause-filled
add-requires-clause-filled c =
    let l = c.loop-line in
    subst (λ (cl : List SatLit). is_empty cl ≡ false) (sym c.deref.ensures.value) (line_clause (λ cl. is_empty cl ≡ false) c.args.lines.now l.line-index c.line-item.result c.loop-line-test.true c.line-item.is c.requires.filled)
