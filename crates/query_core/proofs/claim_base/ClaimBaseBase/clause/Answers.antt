-- A clause that is present is the query's; that of variable 0 stands in the place of the others.
use Rattle.std.proofs.Common.{◌≡◌, ℕ, ◌<◌, ◌||◌, ◌∷◌, [], refl, All, true, false, length, sym, ap, subst, ◌∙◌, arith}
use Rattle.circuits.specs.Netlists.{Net}
use Rattle.cnf_core.specs.Clauses.{clause_at, variable_of}
use Rattle.claim_core.specs.Queries.{IsQuery}
use Rattle.claim_core.specs.Formulas.{query_clauses}
use Rattle.claim_core.specs.ConeClauses.{left_gates}
use Rattle.claim_core.proofs.LawLemmas.{ordered_side}
use Rattle.query_core.specs.ClaimClauses.{PartialQuery, is_of_marked, is_present, present_formula}
use Rattle.query_core.proofs.ClaimClauseLemmas.{cone_fits, marks_count, present_below, present_count, present_value, absent_value}
use Rattle.query_core.proofs.claim_base.ClaimBaseBase.clause.Goals as goal

pub is_of_marked-requires-clause-marks : goal.is_of_marked-requires-clause-marks
is_of_marked-requires-clause-marks c =
    let inside = c.self.inside in
    marks_count inside.graphs.now inside.query inside.left inside.right inside.cone.gates.items inside.cone.marked inside.whole c.self.invariant
    ∙ sym (ap length c.gates.ensures.value ∙ ap (λ (n : Net). length n.gates) c.side.ensures)

pub clause_over-requires-clause-fits : goal.clause_over-requires-clause-fits
clause_over-requires-clause-fits c =
    let inside = c.self.inside in
    cone_fits inside.graphs.now inside.query inside.left inside.right inside.cone.gates.items inside.cone.marked inside.whole c.self.invariant

-- the value, of the fields
asked : {c : PartialQuery} (inside : PartialQuery) (id : ℕ) → inside ≡ c → id < length (present_formula c).clauses → id < length (query_clauses inside.graphs inside.query)
asked {c} inside id is there = omega (arith, there, present_count c, ap (λ (t : PartialQuery). length (query_clauses t.graphs t.query)) is)

pub clause_over-requires-clause-there : goal.clause_over-requires-clause-there
clause_over-requires-clause-there c = asked _ c.args.id c.self.view_is c.requires

pub returns-then-self-is_of_marked-clause-value : goal.returns-then-self-is_of_marked-clause-value
returns-then-self-is_of_marked-clause-value c =
    let inside = c.self.inside in
    let graphs = inside.graphs.now in
    let query = inside.query in
    let id = c.args.id in
    let t : PartialQuery = record { graphs = graphs; query = query; marked = inside.cone.marked; whole = inside.whole } in
    let there = asked t id c.self.view_is c.requires in
    let count : length c.gates.result.now ≡ left_gates graphs query = ap length c.gates.ensures.value ∙ ap (λ (n : Net). length n.gates) c.side.ensures in
    let is_marked : c.is_of_marked.result ≡ is_of_marked (left_gates graphs query) inside.cone.marked id = c.is_of_marked.ensures ∙ ap (λ n. is_of_marked n inside.cone.marked id) count in
    let is : is_present t id ≡ true = sym (ap (λ b. inside.whole || b) is_marked) ∙ c.if-self-is_of_marked.true in
    let first = c.first-first.ensures.sound in
    let second = c.second-second.ensures.sound in
    c.clause_over.ensures.value
    ∙ (present_value graphs query inside.left inside.right inside.cone.gates.items inside.cone.marked inside.whole id (ordered_side graphs query.left.side first second) (ordered_side graphs query.right.side first second) c.self.invariant there is
    ∙ ap (λ (x : PartialQuery). clause_at (present_formula x).clauses id) c.self.view_is)

pub returns-then-self-is_of_marked-clause-variables : goal.returns-then-self-is_of_marked-clause-variables
returns-then-self-is_of_marked-clause-variables c =
    let t = c.args.self.now in
    let inside = c.self.inside in
    let fits = subst (λ (x : PartialQuery). IsQuery x.graphs x.query) c.self.view_is (cone_fits inside.graphs.now inside.query inside.left inside.right inside.cone.gates.items inside.cone.marked inside.whole c.self.invariant) in
    subst (All (λ l. variable_of l < (present_formula t).variables)) (sym (returns-then-self-is_of_marked-clause-value c)) (present_below t c.args.id fits (asked t c.args.id refl c.requires))

pub returns-clause-value : goal.returns-clause-value
returns-clause-value c =
    let inside = c.self.inside in
    let graphs = inside.graphs.now in
    let query = inside.query in
    let id = c.args.id in
    let t : PartialQuery = record { graphs = graphs; query = query; marked = inside.cone.marked; whole = inside.whole } in
    let count : length c.gates.result.now ≡ left_gates graphs query = ap length c.gates.ensures.value ∙ ap (λ (n : Net). length n.gates) c.side.ensures in
    let is_marked : c.is_of_marked.result ≡ is_of_marked (left_gates graphs query) inside.cone.marked id = c.is_of_marked.ensures ∙ ap (λ n. is_of_marked n inside.cone.marked id) count in
    let is : is_present t id ≡ false = sym (ap (λ b. inside.whole || b) is_marked) ∙ c.if-self-is_of_marked.false in
    c.one.ensures.literals
    ∙ (ap (λ l. l ∷ []) c.of.ensures
    ∙ (absent_value t id (asked t id c.self.view_is c.requires) is ∙ ap (λ (x : PartialQuery). clause_at (present_formula x).clauses id) c.self.view_is))
