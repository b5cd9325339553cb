use Rattle.std.proofs.Common.{◌≡◌, drop}
use Rattle.shelf_core.specs.Safe.{look_up}
use Rattle.shelf_core.proofs.safe_shelf.place_of.Given as goal

-- the files that were passed do not have the name
abbrev pub invariant-loop-place : goal.invariant-loop-place
invariant-loop-place l = look_up (drop l.place l.files) l.name ≡ look_up l.files l.name
