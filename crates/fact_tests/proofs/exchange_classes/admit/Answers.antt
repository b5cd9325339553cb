-- An input more of a class of two or more.
use Rattle.std.proofs.Common.{arith}
use Rattle.std.proofs.lemmas.Result.{IfOk-weaker}
use Rattle.fact_tests.specs.Exchanges.{IsJoined, IsNext}
use Rattle.fact_tests.specs.Outputs.{function_at, inputs_in}
use Rattle.fact_tests.proofs.ClassLemmas.{next_joins}
use Rattle.fact_tests.proofs.exchange_classes.admit.Goals as goal

pub returns-in-Some-clause-joined : goal.returns-in-Some-clause-joined
returns-in-Some-clause-joined g c =
    let graphs = c.args.output.now.graphs.now in
    let n = inputs_in graphs in
    let f = function_at graphs c.args.output.now.number in
    IfOk-weaker c.follow.result (IsNext n f c.in-Some.others c.args.entry) (IsJoined n f c.args.class c.args.entry)
    (λ next follows. next_joins n f c.args.entry.0 c.args.class c.in-Some.others c.args.entry next c.in-Some.is c.requires.class (omega arith) follows) c.follow.ensures.follows
