-- Two queries that were decided compare the signals.
use Rattle.std.proofs.Common.{Ok, true, false, ap, subst, sym, ◌∙◌}
use Rattle.sweep.specs.Comparing.{Compares, IsFound, pair_query}
use Rattle.sweep.specs.Exposed.{both}
use Rattle.sweep.specs.Asking.{Decides}
use Rattle.sweep.proofs.PairLemmas.{compares_first, compares_second, first_stopped, second_stopped}
use Rattle.sweep.proofs.comparing.compare.Goals as goal

pub returns-in_err-when_true : goal.returns-in_err-when_true
returns-in_err-when_true c =
    first_stopped c.args.exposed.now c.args.pair c.args.ledger.now c.difference.new.ledger c.difference.result c.from_residual.result c.in_err-when_true.field-0.0 c.in_err-when_true.was c.from_residual.ensures.1 c.requires.pair c.requires.compared c.difference.ensures

pub returns-in-Some : goal.returns-in-Some
returns-in-Some c =
    let net = c.args.exposed.now in
    let pair = c.args.pair in
    let found = subst (Decides (IsFound net pair true) (both net) (pair_query net.inputs pair true) c.args.ledger.now c.difference.new.ledger) (c.in_ok-when_true.was ∙ ap Ok c.in-Some.is) c.difference.ensures in
    compares_first net pair c.args.ledger.now c.difference.new.ledger c.in-Some.vector c.requires.exposed c.requires.pair c.requires.compared found

pub returns-in_err-when_false-in-None : goal.returns-in_err-when_false-in-None
returns-in_err-when_false-in-None c =
    second_stopped c.args.exposed.now c.args.pair c.args.ledger.now c.difference.new.ledger c.difference-in-None.new.ledger c.difference.result c.difference-in-None.result c.from_residual-in_err-when_false-in-None.result c.in_err-when_false-in-None.field-0.0 (c.in_ok-when_true.was ∙ ap Ok c.in-None.is) c.in_err-when_false-in-None.was c.from_residual-in_err-when_false-in-None.ensures.1 c.requires.pair c.requires.compared c.difference.ensures c.difference-in-None.ensures

pub returns-in_ok-when_false-in-None : goal.returns-in_ok-when_false-in-None
returns-in_ok-when_false-in-None c =
    let net = c.args.exposed.now in
    let pair = c.args.pair in
    let first = subst (Decides (IsFound net pair true) (both net) (pair_query net.inputs pair true) c.args.ledger.now c.difference.new.ledger) (c.in_ok-when_true.was ∙ ap Ok c.in-None.is) c.difference.ensures in
    let second = subst (Decides (IsFound net pair false) (both net) (pair_query net.inputs pair false) c.difference.new.ledger c.difference-in-None.new.ledger) c.in_ok-when_false-in-None.was c.difference-in-None.ensures in
    subst (λ x. Compares net pair c.args.ledger.now c.difference-in-None.new.ledger (Ok x)) (sym c.comparison_by.ensures) (compares_second net pair c.args.ledger.now c.difference.new.ledger c.difference-in-None.new.ledger c.in_ok-when_false-in-None.when_false c.requires.exposed c.requires.pair c.requires.compared first second)
