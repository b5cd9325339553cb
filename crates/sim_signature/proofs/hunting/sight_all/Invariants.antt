-- The claims so far were hunted.
use Rattle.std.proofs.Common.{take}
use Rattle.std.specs.List.{All, Contains}
use Rattle.claim_core.specs.Claims.{IsPlaced}
use Rattle.sim_signature.specs.Sightings.{AreLeft, Hunted}
use Rattle.sim_signature.proofs.hunting.sight_all.Given as goal

abbrev pub invariant-loop-shape : goal.invariant-loop-shape
invariant-loop-shape l = All (IsPlaced l.signatures.net.inputs) l.left.items × Hunted l.signatures l.output (Contains (take l.shape-index l.claims)) l.fn.sightings.items l.sightings.items × AreLeft (take l.shape-index l.claims) l.sightings.items l.left.items
