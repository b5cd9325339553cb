use Rattle.std.proofs.Common.{◌↔◌, IfOk, sym, subst}
use Rattle.std.specs.Bool.{IsTrue}
use Rattle.account_core.specs.Steps.{HasShown}
use Rattle.account_core.specs.Vectors.{ShowsDifference}
use Rattle.ban_check.proofs.steps.has_shown.Goals as goal

pub returns-in-Vector-clause-shown : goal.returns-in-Vector-clause-shown
returns-in-Vector-clause-shown c =
    let graphs = c.args.evaluator.now in
    let pairs = c.args.pairs.now in
    let told = subst (λ bits. IfOk c.shows_difference.result (λ shown. IsTrue shown ↔ ShowsDifference graphs pairs c.in-Vector.output bits)) c.deref.ensures.value c.shows_difference.ensures.shows in
    subst (λ step. IfOk c.shows_difference.result (λ shown. IsTrue shown ↔ HasShown graphs pairs step)) (sym c.in-Vector.is) told
