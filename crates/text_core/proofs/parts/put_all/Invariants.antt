-- What is printed and what is left make the whole, and what stood there stays.
use Rattle.std.proofs.Common.{◌≡◌, ◌++◌}
use Rattle.text_core.specs.Extends.{Extends}
use Rattle.text_core.proofs.parts.put_all.Given as goal

abbrev pub invariant-loop-rest : goal.invariant-loop-rest
invariant-loop-rest g l =
    (l.out.items ++ g.P.Parts.left l.rest ≡ l.initial.out.items ++ g.P.Parts.left l.initial.rest)
    × Extends l.initial.out.items l.out.items

abbrev pub decreases-loop-rest : goal.decreases-loop-rest
decreases-loop-rest g l = g.P.Parts.steps l.rest
