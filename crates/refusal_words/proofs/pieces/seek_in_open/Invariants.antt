use Rattle.std.specs.Prelude.{◌≡◌}
use Rattle.shelf_core.specs.State.{Reading}
use Rattle.refusal_words.specs.Files.{SameFiles}
use Rattle.refusal_words.proofs.pieces.seek_in_open.Given as goal

abbrev pub invariant-loop : goal.invariant-loop
invariant-loop g l =
    ((g.S.Shelf.state l.shelf).mode ≡ Reading)
    × SameFiles (g.S.Shelf.state l.fn.shelf) (g.S.Shelf.state l.shelf)
