use Rattle.std.proofs.Common.{◌≤◌, ◌-◌, Ok, drop, length}
use Rattle.run_steps.specs.Writing.{WritesOn}
use Rattle.run_steps.proofs.writing.append_pieces.Given as goal

-- the first n bytes were written
abbrev pub invariant-loop-done : goal.invariant-loop-done
invariant-loop-done g l =
    (l.done ≤ length l.buffer.items)
    × WritesOn g.S.Shelf.tells l.buffer.items (drop l.done l.buffer.items) (g.S.Shelf.state l.fn.shelf) (g.S.Shelf.state l.shelf) (Ok tt)

abbrev pub decreases-loop-done : goal.decreases-loop-done
decreases-loop-done g l = length l.buffer.items - l.done
