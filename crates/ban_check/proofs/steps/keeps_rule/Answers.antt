-- The step of a cover, of what was lent.
use Rattle.std.proofs.Common.{◌↔◌, IfOk, sym, subst}
use Rattle.std.specs.Bool.{IsTrue}
use Rattle.account_core.specs.Covers.{IsCover}
use Rattle.account_core.specs.Steps.{KeepsRule}
use Rattle.ban_check.specs.PairIndices.{Beside}
use Rattle.ban_check.proofs.steps.keeps_rule.Goals as goal

pub returns-in_ok-references-in-Cover : goal.returns-in_ok-references-in-Cover
returns-in_ok-references-in-Cover c =
    let graphs = c.args.graphs.now in
    let given = c.args.given.now in
    let pairs = c.args.pairs.now in
    let kind = c.in-Cover.kind in
    let result = c.is_cover.result in
    let one = subst (λ (beside : Beside). IfOk result (λ keeps. IsTrue keeps ↔ IsCover graphs beside.given beside.pairs kind c.deref-in-Cover.result.now c.deref-in-Cover-2.result.now c.deref-in-Cover-3.result.now)) c.in_ok-references-in-Cover.ensures c.is_cover.ensures in
    let two = subst (λ from. IfOk result (λ keeps. IsTrue keeps ↔ IsCover graphs given pairs kind from c.deref-in-Cover-2.result.now c.deref-in-Cover-3.result.now)) c.deref-in-Cover.ensures.value one in
    let three = subst (λ to. IfOk result (λ keeps. IsTrue keeps ↔ IsCover graphs given pairs kind c.in-Cover.from to c.deref-in-Cover-3.result.now)) c.deref-in-Cover-2.ensures.value two in
    let four = subst (λ refs. IfOk result (λ keeps. IsTrue keeps ↔ IsCover graphs given pairs kind c.in-Cover.from c.in-Cover.to refs)) c.deref-in-Cover-3.ensures.value three in
    subst (λ step. IfOk result (λ keeps. IsTrue keeps ↔ KeepsRule graphs given pairs step)) (sym c.in-Cover.is) four
