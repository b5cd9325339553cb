-- Which clause it is, by where its number stands.
use Rattle.std.proofs.Common.{◌≡◌, ◌+◌, ◌*◌, ◌-◌, ◌<◌, ◌≤◌, List, [], ◌∷◌, length, ap, ◌∙◌, arith}
use Rattle.cnf_core.specs.declared.literal.SatLit.{SatLit}
use Rattle.cnf_core.specs.Clauses.{clause_at}
use Rattle.query_core.specs.declared.clauses.Half.{Half}
use Rattle.claim_core.specs.Formulas.{half_clauses, output_literal}
use Rattle.query_core.specs.Variables.{literals_by}
use Rattle.claim_core.proofs.FormulaLemmas.{gate_clause_count, clause_of_left, clause_of_right, first_output, second_output}
use Rattle.query_core.proofs.clauses.clause_of.Goals as goal

-- the clauses of a circuit's gates, how many they are, and the literal of its output
abbrev clauses : Half → List (List SatLit)
clauses half = half_clauses half.graph.now (literals_by half.graph.now half.feed.now half.variables.now)

count : (half : Half) → length (clauses half) ≡ 3 * length half.graph.now.gates
count half = gate_clause_count (literals_by half.graph.now half.feed.now half.variables.now) (half.graph.now.inputs + 1) half.graph.now.gates

abbrev output : Half → SatLit
output half = output_literal half.graph.now (literals_by half.graph.now half.feed.now half.variables.now) half.output half.value

pub returns-then-id-of_left-clause-value : goal.returns-then-id-of_left-clause-value
returns-then-id-of_left-clause-value c =
    let l = c.args.left.now in
    let r = c.args.right.now in
    c.gate_clause.ensures.value ∙ clause_of_left (clauses l) (clauses r) (output l) (output r) c.args.id c.if-id-eq0.false (omega (arith, c.if-id-of_left.true, count l, ap length c.gates.ensures.value))

pub returns-then-id-of_left-2-clause-value : goal.returns-then-id-of_left-2-clause-value
returns-then-id-of_left-2-clause-value c =
    let l = c.args.left.now in
    let r = c.args.right.now in
    let left = length (clauses l) in
    let after : left ≤ c.args.id - 1 = omega (arith, c.if-id-of_left.false, count l, ap length c.gates.ensures.value) in
    let at : c.args.id - 1 - 3 * length c.gates.result.now ≡ c.args.id - 1 - left = omega (arith, count l, ap length c.gates.ensures.value) in
    let below : c.args.id - 1 - left < length (clauses r) = omega (arith, c.if-id-of_left-2.true, count l, count r, ap length c.gates.ensures.value, ap length c.gates-2.ensures.value) in
    c.gate_clause-then-id-of_left-2.ensures.value ∙ (ap (clause_at (clauses r)) at ∙ clause_of_right (clauses l) (clauses r) (output l) (output r) c.args.id c.if-id-eq0.false after below)

pub returns-then-id-of_left-3-clause-value : goal.returns-then-id-of_left-3-clause-value
returns-then-id-of_left-3-clause-value c =
    let l = c.args.left.now in
    let r = c.args.right.now in
    let left = length (clauses l) in
    let after : left ≤ c.args.id - 1 = omega (arith, c.if-id-of_left.false, count l, ap length c.gates.ensures.value) in
    let here : c.args.id - 1 - left ≡ length (clauses r) = omega (arith, c.if-id-of_left-3.true, count l, count r, ap length c.gates.ensures.value, ap length c.gates-2.ensures.value) in
    c.one-then-id-of_left-3.ensures.literals ∙ (ap (λ a. a ∷ []) c.output_literal.ensures ∙ first_output (clauses l) (clauses r) (output l) (output r) c.args.id c.if-id-eq0.false after here)

pub returns-clause-value : goal.returns-clause-value
returns-clause-value c =
    let l = c.args.left.now in
    let r = c.args.right.now in
    let left = length (clauses l) in
    let after : left ≤ c.args.id - 1 = omega (arith, c.if-id-of_left.false, count l, ap length c.gates.ensures.value) in
    let here : c.args.id - 1 - left ≡ length (clauses r) + 1 = omega (arith, c.if-id-of_left-2.false, c.if-id-of_left-3.false, c.requires.there, count l, count r, ap length c.gates.ensures.value, ap length c.gates-2.ensures.value) in
    c.one-2.ensures.literals ∙ (ap (λ b. b ∷ []) c.output_literal-2.ensures ∙ second_output (clauses l) (clauses r) (output l) (output r) c.args.id c.if-id-eq0.false after here)
