-- The clause is one of its gate's three.
use Rattle.std.proofs.Common.{◌≡◌, ◌+◌, ◌*◌, ◌/◌, ◌%◌, ◌<◌, List, length, slice_index_or, sym, ap, ◌∙◌, arith}
use Rattle.circuits.specs.declared.netlist.Gate.{Gate}
use Rattle.cnf_core.specs.Clauses.{clause_at}
use Rattle.claim_core.specs.Formulas.{and_clauses, half_clauses, stand_in, stands_for}
use Rattle.query_core.specs.Variables.{literals_by}
use Rattle.claim_core.proofs.FormulaLemmas.{gate_clause_at}
use Rattle.query_core.proofs.clauses.gate_clause.Goals as goal

pub returns-clause-value : goal.returns-clause-value
returns-clause-value c =
    let half = c.args.half.now in
    let net = half.graph.now in
    let literals = literals_by net half.feed.now half.variables.now in
    let id = c.args.id in
    let none : Gate = record { a = record { 0 = 0 }; b = record { 0 = 0 } } in
    let gate : List Gate → Gate = λ gates. slice_index_or gates (id / 3) none in
    let whole : 3 * (id / 3) + id % 3 ≡ id = omega arith in
    let here : id / 3 < length net.gates = omega (arith, c.requires.there) in
    let v = c.stand_in-v.ensures ∙ ap (λ n. stand_in literals (n + 1 + id / 3)) c.inputs.ensures.value in
    let a = c.stands_for-a.ensures ∙ ap (λ gates. stands_for literals (gate gates).a) c.gates.ensures.value in
    let b = c.stands_for-b.ensures ∙ ap (λ gates. stands_for literals (gate gates).b) c.gates.ensures.value in
    c.and_clause.ensures.value
    ∙ (ap (λ l. clause_at (and_clauses l c.stands_for-a.result c.stands_for-b.result) (id % 3)) v
    ∙ (ap (λ l. clause_at (and_clauses (stand_in literals (net.inputs + 1 + id / 3)) l c.stands_for-b.result) (id % 3)) a
    ∙ (ap (λ l. clause_at (and_clauses (stand_in literals (net.inputs + 1 + id / 3)) (stands_for literals (gate net.gates).a) l) (id % 3)) b
    ∙ (sym (gate_clause_at literals (net.inputs + 1) net.gates none (id / 3) (id % 3) here (omega arith)) ∙ ap (clause_at (half_clauses net literals)) whole))))
