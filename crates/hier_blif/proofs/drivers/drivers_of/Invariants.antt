use Rattle.std.proofs.Common.{◌≡◌, All, take, length}
use Rattle.hier_blif.specs.Drivers.{IsDrivenAt}
use Rattle.hier_blif.proofs.drivers.drivers_of.Given as goal

abbrev pub invariant-loop-place : goal.invariant-loop-place
invariant-loop-place l =
    (length l.drivers ≡ length l.scope.models.now) × All (IsDrivenAt l.scope.models.now l.drivers) (take l.place-index l.order)
