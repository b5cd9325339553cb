-- A query's answer is that of a solver for the clauses of its cones.
use Rattle.std.proofs.Common.{◌≡◌, ap, rules, subst, ◌∙◌, arith}
use Rattle.cnf_core.specs.Derivations.{clauses_of}
use Rattle.ask_core.specs.declared.verdict.DenseVerdict.{DenseVerdict}
use Rattle.ask_core.specs.Solved.{IsDenseVerdict, start_of, with_lines_of}
use Rattle.claim_core.specs.Formulas.{formula_of}
use Rattle.cnf_core.specs.Charges.{Charging}
use Rattle.query_core.specs.Ledgers.{Ledgered, charging_of, one_if}
use Rattle.query_core.specs.declared.ledger.Asked.{Asked}
use Rattle.query_core.proofs.ChargingLemmas.{is_opened}
use Rattle.ask_core.proofs.AskLemmas.{cones_asked, cones_joined, cones_met, cones_stopped, short_from}
use Rattle.ask_core.proofs.BoundLemmas.{asks_err, asks_ok, bounded_in}
use Rattle.ask_core.proofs.question.ask_cones.Goals as goal

pub returns-in_err-values-clause-asks : goal.returns-in_err-values-clause-asks
returns-in_err-values-clause-asks g c =
    asks_err _ _ _ _ _ c.in_err-values.field-0.0 (bounded_in _ _ _ _) c.from_residual-in_err-values.ensures.1 (cones_stopped c.args.question.now.graphs.now c.args.question.now.query.now c.args.lemmas.now c.args.question.now.cones.now c.args.ledger.now c.open.new.self c.solve_dense.new.ledger c.requires.question.of_graphs c.requires.question.of_query c.ids-ids.ensures.are c.requires.lemmas c.in_err-values.field-0.0 c.in_ok-open.ensures.some c.in_ok-open.ensures.opened c.in_err-values.ensures.stop)

pub vector_of-requires-clause-meets : goal.vector_of-requires-clause-meets
vector_of-requires-clause-meets g c =
    let new = with_lines_of (start_of (formula_of c.args.question.now.cones.now.graphs c.args.question.now.cones.now.query) c.args.question.now.cones.now.ids c.args.lemmas.now) (charging_of c.solve_dense.new.ledger) in
    let model = subst (λ (v : DenseVerdict). IsDenseVerdict new v) c.in-Model.is c.in_ok-values.ensures.verdict in
    cones_met c.args.question.now.graphs.now c.args.question.now.query.now c.args.lemmas.now c.args.question.now.cones.now c.args.ledger.now c.open.new.self c.solve_dense.new.ledger c.requires.question.of_graphs c.requires.question.of_query c.ids-ids.ensures.are c.requires.lemmas c.in-Model.values c.in_ok-values.ensures.lines model.meets

pub returns-in_ok-vector-in-Model-clause-asks : goal.returns-in_ok-vector-in-Model-clause-asks
returns-in_ok-vector-in-Model-clause-asks g c =
    asks_ok _ _ _ _ _ (bounded_in _ _ _ _) (search rules) (cones_asked c.args.question.now.graphs.now c.args.question.now.query.now c.args.lemmas.now c.args.question.now.cones.now c.args.ledger.now c.open.new.self c.solve_dense.new.ledger c.requires.question.of_graphs c.requires.question.of_query c.ids-ids.ensures.are c.requires.lemmas c.in_ok-open.ensures.some c.in_ok-open.ensures.opened c.in_ok-values.ensures.lines) (search rules)

pub returns-in-Refuted-clause-asks : goal.returns-in-Refuted-clause-asks
returns-in-Refuted-clause-asks g c =
    asks_ok _ _ _ _ _ (bounded_in _ _ _ _) (search rules) (cones_asked c.args.question.now.graphs.now c.args.question.now.query.now c.args.lemmas.now c.args.question.now.cones.now c.args.ledger.now c.open.new.self c.solve_dense.new.ledger c.requires.question.of_graphs c.requires.question.of_query c.ids-ids.ensures.are c.requires.lemmas c.in_ok-open.ensures.some c.in_ok-open.ensures.opened c.in_ok-values.ensures.lines) (search rules)

pub solve_dense-requires-clause-asking : goal.solve_dense-requires-clause-asking
solve_dense-requires-clause-asking g c = record {
  opened = is_opened c.open.new.self c.in_ok-open.ensures.some;
  lines_are = ap (λ (a : Asked). a.lines) c.in_ok-open.ensures.last;
  not_spent = ap (λ (l : Ledgered). l.spent) c.in_ok-open.ensures.opened ∙ c.requires.not_spent;
}

pub solve_dense-requires-clause-short : goal.solve_dense-requires-clause-short
solve_dense-requires-clause-short g c = short_from (clauses_of c.args.lemmas.now) c.requires.lemmas.filled c.requires.lemmas.short

pub solve_dense-requires-clause-same : goal.solve_dense-requires-clause-same
solve_dense-requires-clause-same g c =
    let ledger = c.open.new.self in
    let fresh = ap (λ (l : Ledgered). l.spent) c.in_ok-open.ensures.opened ∙ c.requires.not_spent in
    let none : one_if ledger.spent ≡ 0 = ap one_if fresh in
    let budget = ap (λ (t : Charging (Unit {0})). t.budget) c.new-tab.ensures in
    let made = ap (λ (t : Charging (Unit {0})). t.made) c.new-tab.ensures in
    record {
      budget = budget ∙ c.budget.ensures;
      made = made ∙ omega (arith, c.learned.ensures.value, none);
      none = ap (λ (t : Charging (Unit {0})). t.lines) c.new-tab.ensures;
      within = omega (arith, budget, made, c.learned.ensures.within, c.budget.ensures);
      open_too = ap (λ (t : Charging (Unit {0})). t.opened) c.new-tab.ensures;
      not_spent = ap (λ (t : Charging (Unit {0})). t.spent) c.new-tab.ensures;
    }

pub returns-in-Refuted-clause-joined : goal.returns-in-Refuted-clause-joined
returns-in-Refuted-clause-joined g c =
    let new = with_lines_of (start_of (formula_of c.args.question.now.cones.now.graphs c.args.question.now.cones.now.query) c.args.question.now.cones.now.ids c.args.lemmas.now) (charging_of c.solve_dense.new.ledger) in
    let refuted = subst (λ (v : DenseVerdict). IsDenseVerdict new v) c.in-Refuted.is c.in_ok-values.ensures.verdict in
    cones_joined c.args.question.now.graphs.now c.args.question.now.query.now c.args.lemmas.now c.args.question.now.cones.now c.args.ledger.now c.open.new.self c.solve_dense.new.ledger c.requires.question.of_graphs c.requires.question.of_query c.ids-ids.ensures.are c.requires.lemmas c.in-Refuted.log.lines c.requires.joined c.in_ok-values.ensures.lines refuted.lines_are
