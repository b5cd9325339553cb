-- A round adds broken claims alone.
use Rattle.std.proofs.Common.{subst}
use Rattle.std.specs.List.{All}
use Rattle.circuits.specs.Netlists.{Net}
use Rattle.claim_core.specs.Claims.{IsPlaced}
use Rattle.sim_signature.specs.Sightings.{AreBroken}
use Rattle.sim_signature.proofs.hunting.hunt_drawn.Goals as goal

pub loop-preserved : goal.loop-preserved
loop-preserved c =
    let same = c.in_ok-signatures.ensures.of.net_is in
    let said = c.in_ok-left-2.ensures in
    let output = c.args.output in (
      subst (λ (net : Net). AreBroken net output c.loop.sightings.items → AreBroken net output c.sight_all.new.sightings.items) same said.hunted.good c.loop.invariant.0,
      subst (λ (net : Net). All (IsPlaced net.inputs) c.in_ok-left-2.left.items) same said.placed,
    )
