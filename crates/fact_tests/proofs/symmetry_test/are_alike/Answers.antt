-- Unateness tells the inputs apart, or the first swap fails, or the second one decides.
use Rattle.std.proofs.Common.{sym, ◌∙◌}
use Rattle.std.proofs.lemmas.Bool.{false≢true}
use Rattle.std.proofs.lemmas.Result.{IfOk-weaker}
use Rattle.std.specs.Bool.{Decides}
use Rattle.claim_core.specs.Claims.{ShapeHolds}
use Rattle.fact_tests.specs.Outputs.{IsAlike, function_at, inputs_in}
use Rattle.fact_tests.proofs.AlikeLemmas.{never_alike}
use Rattle.fact_tests.proofs.ClaimFacts.{alike_never, alike_then}
use Rattle.fact_tests.proofs.Serving.{served_one, serves_last}
use Rattle.fact_tests.proofs.symmetry_test.are_alike.Goals as goal

pub returns-then-not-may_be_alike-clause-told : goal.returns-then-not-may_be_alike-clause-told
returns-then-not-may_be_alike-clause-told g c =
    let graphs = c.args.output.now.graphs.now in
    never_alike (inputs_in graphs) (function_at graphs c.args.output.now.number) c.args.exchange.first c.args.exchange.second c.args.exchange.inverted
    c.requires.order c.requires.first c.requires.second (sym c.may_be_alike.ensures ∙ c.if-not-may_be_alike.true)

pub returns-then-not-holds-clause-told : goal.returns-then-not-holds-clause-told
returns-then-not-holds-clause-told g c =
    let graphs = c.args.output.now.graphs.now in
    alike_never graphs.first c.args.output.now.number c.args.exchange.first.0 c.args.exchange.second.0 c.args.exchange.inverted _ c.half_swap-one.result c.half_swap-one.ensures.shape
    (λ holds. false≢true (sym c.if-not-holds.true ∙ c.in_ok-holds.ensures.told.1 holds))

pub returns-clause-serves : goal.returns-clause-serves
returns-clause-serves g c =
    serves_last _ _ _ _ _ _ _ (served_one _ _ _ _ _ c.in_ok-holds.ensures.serves) c.holds-2.ensures.serves

pub returns-clause-told : goal.returns-clause-told
returns-clause-told g c =
    let graphs = c.args.output.now.graphs.now in
    let k = c.args.output.now.number in
    let one = c.in_ok-holds.ensures.told.0 c.if-not-holds.false in
    IfOk-weaker c.holds-2.result (λ holds. Decides holds (ShapeHolds graphs.first k c.half_swap-other.result)) (λ alike. Decides alike (IsAlike (inputs_in graphs) (function_at graphs k) c.args.exchange.first.0 c.args.exchange.second.0 c.args.exchange.inverted))
    (λ second decides. alike_then graphs.first k c.args.exchange.first.0 c.args.exchange.second.0 c.args.exchange.inverted _ second c.half_swap-one.result c.half_swap-other.result c.half_swap-one.ensures.shape c.half_swap-other.ensures.shape one decides) c.holds-2.ensures.told
