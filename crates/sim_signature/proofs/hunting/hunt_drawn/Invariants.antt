-- What was sighted is broken, and the claims that are left are placed.
use Rattle.std.specs.List.{All}
use Rattle.claim_core.specs.Claims.{IsPlaced}
use Rattle.sim_signature.specs.Sightings.{AreBroken}
use Rattle.sim_signature.proofs.hunting.hunt_drawn.Given as goal

abbrev pub invariant-loop : goal.invariant-loop
invariant-loop l = AreBroken l.graph l.output l.sightings.items × All (IsPlaced l.graph.inputs) l.left.items
