-- All vectors were tried.
use Rattle.std.proofs.Common.{◌≡◌, ◌∙◌, true, replicate, ap, subst, sym}
use Rattle.std.specs.List.{Contains}
use Rattle.circuits.specs.Netlists.{Net}
use Rattle.claim_core.specs.Claims.{ShapeFails}
use Rattle.sim_signature.proofs.Wanted.{all_marked}
use Rattle.sim_signature.proofs.hunting.hunt_all.Goals as goal

pub returns-clause-all : goal.returns-clause-all
returns-clause-all c shape placed fails =
    let net : Net = c.args.graph.now in
    let signatures = c.in_ok-signatures.ensures in
    let marked : c.deref.result.now ≡ replicate net.inputs true = c.deref.ensures.value ∙ (c.in_ok-inputs.ensures.items_if_clones_equal (λ y e. e) ∙ ap (λ n. replicate n true) c.inputs.ensures.value) in
    let wanted = c.in_ok-claims.ensures.found shape (all_marked net.inputs c.deref.result.now shape marked placed) in
    c.in_ok-sight_all.ensures.hunted.found shape (subst (λ list. Contains list shape) (sym c.deref-2.ensures.value) wanted, signatures.all c.requires.few, subst (λ (net : Net). ShapeFails net c.args.output shape) (sym signatures.of.net_is) fails)
