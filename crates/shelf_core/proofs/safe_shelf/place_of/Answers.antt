use Rattle.std.proofs.Common.{sym, ◌∙◌}
use Rattle.shelf_core.proofs.Files.{is_place}
use Rattle.shelf_core.proofs.safe_shelf.place_of.Goals as goal

pub returns-then-is_called-clause-place : goal.returns-then-is_called-clause-place
returns-then-is_called-clause-place c =
    is_place _ _ _ c.index-files-place.result c.loop-place-test.true c.index-files-place.is (sym c.is_called.ensures ∙ c.if-is_called.true) c.loop-place.invariant
