use Rattle.std.proofs.Common.{◌≡◌, All, take, length}
use Rattle.hier_blif.specs.Sizes.{IsSizeAt}
use Rattle.hier_blif.proofs.sizes.sizes_of.Given as goal

abbrev pub invariant-loop-place : goal.invariant-loop-place
invariant-loop-place l =
    (length l.sizes.items ≡ length l.scope.models.now) × All (IsSizeAt l.scope.models.now l.sizes.items) (take l.place-index l.order)
