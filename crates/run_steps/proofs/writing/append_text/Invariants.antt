use Rattle.std.proofs.Common.{◌++◌, Ok}
use Rattle.run_steps.specs.Writing.{WritesOn}
use Rattle.run_steps.proofs.writing.append_text.Given as goal

-- what stands in the buffer and the parts that are left are still to be written
abbrev pub invariant-loop-text : goal.invariant-loop-text
invariant-loop-text g l =
    WritesOn g.S.Shelf.tells (g.P.Parts.left l.fn.text) (l.buffer.items ++ g.P.Parts.left l.text) (g.S.Shelf.state l.fn.shelf) (g.S.Shelf.state l.shelf) (Ok tt)

abbrev pub decreases-loop-text : goal.decreases-loop-text
decreases-loop-text g l = g.P.Parts.steps l.text
