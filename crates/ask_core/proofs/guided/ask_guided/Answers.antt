-- A query's answer is that of a solver for the clauses of its cones.
use Rattle.std.proofs.Common.{Bool, List, rules, sym, subst, ◌∙◌}
use Rattle.cnf_core.specs.declared.stop.Stop.TheVariants.{Memory}
use Rattle.learn_solver.specs.declared.verdict.Finding.{Finding}
use Rattle.learn_solver.specs.Findings.{IsFinding}
use Rattle.claim_core.specs.ConeClauses.{MeetsCones}
use Rattle.query_core.specs.Ledgers.{charging_of}
use Rattle.ask_core.proofs.AskLemmas.{asked_with, made_of_base, meets_cones, stopped_with}
use Rattle.ask_core.proofs.BoundLemmas.{asks_err, asks_ok, bounded_with}
use Rattle.ask_core.proofs.guided.ask_guided.Goals as goal

pub returns-in_err-values-clause-asks : goal.returns-in_err-values-clause-asks
returns-in_err-values-clause-asks g c =
    let of = made_of_base c.args.question.now.graphs.now c.args.question.now.query.now c.args.lemmas.now c.args.question.now.cones.now _ _ _ c.requires.question.of_graphs c.requires.question.of_query c.in_ok-base.ensures c.ids.ensures.value c.ids.ensures.are c.requires.derived c.in_ok-solver.ensures in
    asks_err c.args.question.now.graphs.now c.args.question.now.query.now c.args.ledger.now c.solve_guided.new.ledger _ c.in_err-values.field-0.0 (bounded_with c.args.question.now.graphs.now c.args.question.now.query.now c.args.lemmas.now c.args.ledger.now c.solve_guided.new.ledger) c.from_residual-in_err-values.ensures.1 (stopped_with _ _ _ _ c.solve_guided.new.solver c.args.ledger.now c.open.new.self c.solve_guided.new.ledger _ of c.in_ok-open.ensures.some c.in_ok-open.ensures.opened c.in_err-values.ensures.stop)

pub vector_of-requires-clause-meets : goal.vector_of-requires-clause-meets
vector_of-requires-clause-meets g c =
    let of = made_of_base c.args.question.now.graphs.now c.args.question.now.query.now c.args.lemmas.now c.args.question.now.cones.now _ _ _ c.requires.question.of_graphs c.requires.question.of_query c.in_ok-base.ensures c.ids.ensures.value c.ids.ensures.are c.requires.derived c.in_ok-solver.ensures in
    let model = subst (λ (v : Finding). IsFinding c.solve_guided.new.solver v) c.in-Model.is c.in_ok-values.ensures.found in
    subst (λ (bs : List Bool). MeetsCones c.args.question.now.graphs.now c.args.question.now.query.now bs) (sym (c.from_table-values.ensures ∙ c.into_vec.ensures)) (meets_cones _ _ _ _ c.solve_guided.new.solver (charging_of c.open.new.self) (charging_of c.solve_guided.new.ledger) c.in-Model.values of c.in_ok-values.ensures.lines model.meets)

pub returns-in-Model-clause-asks : goal.returns-in-Model-clause-asks
returns-in-Model-clause-asks g c =
    let of = made_of_base c.args.question.now.graphs.now c.args.question.now.query.now c.args.lemmas.now c.args.question.now.cones.now _ _ _ c.requires.question.of_graphs c.requires.question.of_query c.in_ok-base.ensures c.ids.ensures.value c.ids.ensures.are c.requires.derived c.in_ok-solver.ensures in
    asks_ok c.args.question.now.graphs.now c.args.question.now.query.now c.args.ledger.now c.solve_guided.new.ledger _ (bounded_with c.args.question.now.graphs.now c.args.question.now.query.now c.args.lemmas.now c.args.ledger.now c.solve_guided.new.ledger) (search rules) (asked_with _ _ _ _ c.solve_guided.new.solver c.args.ledger.now c.open.new.self c.solve_guided.new.ledger of c.in_ok-open.ensures.some c.in_ok-open.ensures.opened c.in_ok-values.ensures.lines) (search rules)

pub returns-clause-asks : goal.returns-clause-asks
returns-clause-asks g c =
    let of = made_of_base c.args.question.now.graphs.now c.args.question.now.query.now c.args.lemmas.now c.args.question.now.cones.now _ _ _ c.requires.question.of_graphs c.requires.question.of_query c.in_ok-base.ensures c.ids.ensures.value c.ids.ensures.are c.requires.derived c.in_ok-solver.ensures in
    asks_ok c.args.question.now.graphs.now c.args.question.now.query.now c.args.ledger.now c.solve_guided.new.ledger _ (bounded_with c.args.question.now.graphs.now c.args.question.now.query.now c.args.lemmas.now c.args.ledger.now c.solve_guided.new.ledger) (search rules) (asked_with _ _ _ _ c.solve_guided.new.solver c.args.ledger.now c.open.new.self c.solve_guided.new.ledger of c.in_ok-open.ensures.some c.in_ok-open.ensures.opened c.in_ok-values.ensures.lines) (search rules)

pub returns-in_err-vector-in-Model-clause-asks : goal.returns-in_err-vector-in-Model-clause-asks
returns-in_err-vector-in-Model-clause-asks g c = asks_err _ _ _ _ _ Memory (bounded_with c.args.question.now.graphs.now c.args.question.now.query.now c.args.lemmas.now c.args.ledger.now c.solve_guided.new.ledger) c.from_residual-in_err-vector-in-Model.ensures.1 tt
