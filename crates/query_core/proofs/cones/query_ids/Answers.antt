-- The numbers were added one after the other.
use Rattle.std.proofs.Common.{rules, ◌≡◌, ◌+◌, ◌*◌, ◌++◌, ◌∷◌, [], length, ap, ◌∙◌, arith}
use Rattle.circuits.specs.Netlists.{Net}
use Rattle.claim_core.specs.Queries.{circuit_of}
use Rattle.claim_core.specs.ConeClauses.{gate_ids}
use Rattle.query_core.proofs.ConeIdLemmas.{built_are}
use Rattle.query_core.proofs.cones.query_ids.Goals as goal

pub returns : goal.returns
returns c =
    let graphs = c.args.graphs.now in
    let query = c.args.query.now in
    let l = length c.gates.result.now in
    let r = length c.gates-2.result.now in
    let left : c.gates.result.now ≡ (circuit_of graphs query.left).gates = c.gates.ensures.value ∙ ap (λ (n : Net). n.gates) c.side-left.ensures in
    let right : c.gates-2.result.now ≡ (circuit_of graphs query.right).gates = c.gates-2.ensures.value ∙ ap (λ (n : Net). n.gates) c.side-right.ensures in
    let added : c.push-3.new.self.items ≡ ((((0 ∷ []) ++ gate_ids 1 c.args.left_gates.now) ++ gate_ids (1 + 3 * l) c.args.right_gates.now) ++ (1 + 3 * l + 3 * r) ∷ []) ++ (1 + 3 * l + 3 * r + 1) ∷ [] = search rules in
    built_are graphs query c.args.left_gates.now c.args.right_gates.now c.push-3.new.self.items (1 + 3 * l) (1 + 3 * l + 3 * r) c.requires.left c.requires.right (omega (arith, ap length left)) (omega (arith, ap length left, ap length right)) added
