-- The empty line is charged, or the budget is spent.
use Rattle.std.proofs.Common.{List, sym, subst, ap, ◌∙◌}
use Rattle.cnf_core.specs.declared.log.LogLine.{LogLine}
use Rattle.cnf_core.specs.Derivations.{IsRefutation}
use Rattle.claim_core.specs.ConeClauses.{AreConeIds}
use Rattle.claim_core.specs.Formulas.{formula_of}
use Rattle.query_core.specs.Ledgers.{Ledgered, opened}
use Rattle.joint_hash.specs.Merging.{AreClosedBy}
use Rattle.ask_core.proofs.BoundLemmas.{asks_err, asks_ok, bounded_in}
use Rattle.shared_lemmas.proofs.StructuralLemmas.{charged_closed, of_cones, refuted_closed, stopped_closed}
use Rattle.shared_lemmas.proofs.structural.answer_by.Goals as goal

pub returns-in_err-charge : goal.returns-in_err-charge
returns-in_err-charge c =
    let graphs = c.args.question.now.graphs.now in
    let query = c.args.question.now.query.now in
    let cones = c.args.question.now.cones.now in
    let lemmas = c.args.refutation.lemmas.items in
    let last = c.args.refutation.last in
    let ledger = c.args.ledger.now in
    let stop = c.in_err-charge.field-0.0 in
    let are = of_cones (λ g q. AreConeIds g q cones.ids) graphs query cones c.requires.question.of_graphs c.requires.question.of_query c.ids-ids.ensures.are in
    let closed = of_cones (λ g q. AreClosedBy (formula_of g q) lemmas last) graphs query cones c.requires.question.of_graphs c.requires.question.of_query c.requires.closed in
    let opened_is = c.in_ok-open.ensures.opened ∙ ap (λ (lines : List LogLine). record ledger { asked = opened query lines ledger.asked }) c.deref.ensures.value in
    asks_err graphs query ledger c.charge.new.self _ stop (bounded_in graphs query ledger c.charge.new.self) c.from_residual-in_err-charge.ensures.1 (stopped_closed graphs query cones.ids lemmas last ledger c.open.new.self c.charge.new.self stop are closed opened_is c.in_err-charge.ensures.refused)

pub returns : goal.returns
returns c =
    let graphs = c.args.question.now.graphs.now in
    let query = c.args.question.now.query.now in
    let cones = c.args.question.now.cones.now in
    let lemmas = c.args.refutation.lemmas.items in
    let last = c.args.refutation.last in
    let ledger = c.args.ledger.now in
    let are = of_cones (λ g q. AreConeIds g q cones.ids) graphs query cones c.requires.question.of_graphs c.requires.question.of_query c.ids-ids.ensures.are in
    let closed = of_cones (λ g q. AreClosedBy (formula_of g q) lemmas last) graphs query cones c.requires.question.of_graphs c.requires.question.of_query c.requires.closed in
    let opened_is = c.in_ok-open.ensures.opened ∙ ap (λ (lines : List LogLine). record ledger { asked = opened query lines ledger.asked }) c.deref.ensures.value in
    let charged = c.in_ok-charge.ensures.charged in
    let right = subst (IsRefutation (formula_of graphs query)) (sym c.in_ok-log.ensures) (refuted_closed graphs query lemmas last closed) in
    let not_spent = ap (λ (l : Ledgered). l.spent) charged ∙ (ap (λ (l : Ledgered). l.spent) opened_is ∙ c.requires.not_spent) in
    asks_ok graphs query ledger c.charge.new.self _ (bounded_in graphs query ledger c.charge.new.self) right (charged_closed graphs query cones.ids lemmas last ledger c.open.new.self c.charge.new.self are closed opened_is charged) not_spent
