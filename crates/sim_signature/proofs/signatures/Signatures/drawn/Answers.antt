-- Of at most six inputs all vectors are there.
use Rattle.std.proofs.Common.{sym, subst, ap, ◌∙◌, ◌≡◌, ◌≤◌, arith}
use Rattle.std.proofs.lemmas.Result.{IfOk-weaker}
use Rattle.circuits.specs.Literals.{vector_of}
use Rattle.sim_signature.specs.Signatures.{HasAllVectors, Signed}
use Rattle.sim_signature.proofs.Signing.{has-all}
use Rattle.sim_signature.proofs.signatures.Signatures.drawn.Goals as goal

pub returns-clause-all : goal.returns-clause-all
returns-clause-all c =
    let net = c.args.graph.now in
    let made : Signed = record { net = net; first = c.args.first; count = c.args.count; blocks = c.in_ok-inputs.inputs.items } in
    IfOk-weaker c.on.result (λ signatures. signatures ≡ made) (λ signatures. net.inputs ≤ 6 → HasAllVectors signatures)
    (λ signatures is few. subst HasAllVectors (sym is) (has-all made few
    (λ w v h l. c.in_ok-inputs.ensures.all (omega (arith, few, c.inputs.ensures.value)) w v h l ∙ ap (λ n. vector_of n v) c.inputs.ensures.value))) c.on.ensures.is
