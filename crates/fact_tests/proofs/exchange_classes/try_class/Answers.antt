-- A class was tried.
use Rattle.std.proofs.Common.{sym, subst, arith}
use Rattle.fact_tests.specs.Exchanges.{IsTried}
use Rattle.fact_tests.specs.Outputs.{function_at, inputs_in}
use Rattle.fact_tests.proofs.ClassLemmas.{tried_is}
use Rattle.fact_tests.proofs.exchange_classes.try_class.Goals as goal

pub returns-clause-tried : goal.returns-clause-tried
returns-clause-tried g c =
    let graphs = c.args.output.now.graphs.now in
    let n = inputs_in graphs in
    let f = function_at graphs c.args.output.now.number in
    subst (IsTried n f c.args.classes.now c.args.entry c.args.tries.now.class) (sym c.found_by.ensures)
    (tried_is n f c.args.classes.now c.args.entry c.args.tries.now.class _ c.in_ok-others.others (omega (arith, c.if-number-classes.false)) c.in_ok-others.ensures.joined)
