-- A vector is found where one breaks the shape, and it breaks it.
use Rattle.std.proofs.Common.{subst, ap, ◌∙◌}
use Rattle.std.proofs.lemmas.Result.{IfOk-weaker}
use Rattle.std.specs.Prelude.{IfSome, IfOk}
use Rattle.claim_core.specs.Claims.{BreaksShape}
use Rattle.sim_signature.specs.Signatures.{IsOneOf, Signed}
use Rattle.sim_signature.proofs.Signing.{one-breaks}
use Rattle.sim_signature.proofs.signatures.Signatures.fall.Goals as goal

pub returns-clause-breaks : goal.returns-clause-breaks
returns-clause-breaks c =
    let s : Signed = c.args.self.now in
    let lanes = c.breaking-lanes.result in
    let from = c.args.from in
    let of = c.deref.ensures.value ∙ ap (λ (s : Signed). s.blocks) c.self.view_is in
    let one = subst (λ blocks. IfOk c.vector_in.result (λ found. IfSome found (IsOneOf blocks lanes from))) of c.vector_in.ensures.one in
    IfOk-weaker c.vector_in.result (λ found. IfSome found (IsOneOf s.blocks lanes from)) (λ found. IfSome found (BreaksShape s.net c.args.output c.args.shape)) (λ found is. one-breaks s c.args.output c.args.shape from lanes found c.breaking-lanes.ensures is) one

pub returns-clause-seen : goal.returns-clause-seen
returns-clause-seen c =
    IfOk-weaker c.vector_in.result _ _ (λ found some w v h l breaks. some w v h l ((c.breaking-lanes.ensures w v h l).1 breaks)) c.vector_in.ensures.some
