-- The number is that of a clause.
use Rattle.std.proofs.Common.{◌≡◌, length, ap, arith}
use Rattle.circuits.specs.Netlists.{Net}
use Rattle.claim_core.specs.Queries.{circuit_of}
use Rattle.claim_core.proofs.FormulaLemmas.{count_of}
use Rattle.query_core.proofs.clauses.clause_over.Goals as goal

pub clause_of-requires-clause-there : goal.clause_of-requires-clause-there
clause_of-requires-clause-there c =
    let graphs = c.args.graphs.now in
    let query = c.args.query.now in
    let left : length c.side.result.now.gates ≡ length (circuit_of graphs query.left).gates = ap (λ (n : Net). length n.gates) c.side.ensures in
    let right : length c.side-2.result.now.gates ≡ length (circuit_of graphs query.right).gates = ap (λ (n : Net). length n.gates) c.side-2.ensures in
    omega (arith, c.requires.there, count_of graphs query, left, right)
