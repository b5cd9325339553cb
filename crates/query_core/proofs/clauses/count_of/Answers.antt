use Rattle.std.proofs.Common.{◌≡◌, ◌+◌, ◌*◌, length, ap, ◌∙◌, arith}
use Rattle.circuits.specs.Netlists.{Net}
use Rattle.claim_core.specs.Queries.{circuit_of}
use Rattle.claim_core.specs.Formulas.{query_clauses}
use Rattle.claim_core.proofs.FormulaLemmas.{count_of}
use Rattle.query_core.proofs.clauses.count_of.Goals as goal

pub returns-clause-value : goal.returns-clause-value
returns-clause-value c =
    let graphs = c.args.graphs.now in
    let query = c.args.query.now in
    let left : c.gates.result.now ≡ (circuit_of graphs query.left).gates = c.gates.ensures.value ∙ ap (λ (n : Net). n.gates) c.side-left.ensures in
    let right : c.gates-2.result.now ≡ (circuit_of graphs query.right).gates = c.gates-2.ensures.value ∙ ap (λ (n : Net). n.gates) c.side-right.ensures in
    let whole : 3 + 3 * (length c.gates.result.now + length c.gates-2.result.now) ≡ length (query_clauses graphs query) = omega (arith, count_of graphs query, ap length left, ap length right) in
    whole
