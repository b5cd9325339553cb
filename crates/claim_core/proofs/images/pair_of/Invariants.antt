-- The first pair of the port is among those that are left.
use Rattle.std.proofs.Common.{◌≡◌, drop, find}
use Rattle.claim_core.specs.Images.{is_of}
use Rattle.claim_core.proofs.images.pair_of.Given as goal

abbrev pub invariant-loop-pair : goal.invariant-loop-pair
invariant-loop-pair l = find (is_of l.kind l.port) (drop l.pair-index l.pairs) ≡ find (is_of l.kind l.port) l.pairs
