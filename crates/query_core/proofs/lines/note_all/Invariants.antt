-- The lines so far, and those that are left, are those of all.
use Rattle.std.proofs.Common.{◌≡◌, ◌++◌, drop, map}
use Rattle.query_core.proofs.lines.note_all.Given as goal

abbrev pub invariant-loop-line : goal.invariant-loop-line
invariant-loop-line l =
    map (λ line. line.value) l.noted.items ++ drop l.line-index l.lines ≡ map (λ line. line.value) l.fn.noted.items ++ l.lines
