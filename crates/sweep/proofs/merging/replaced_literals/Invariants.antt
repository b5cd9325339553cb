-- The literals so far are replaced.
use Rattle.std.proofs.Common.{◌≡◌, map, take}
use Rattle.sweep.specs.Merging.{replaced}
use Rattle.sweep.proofs.merging.replaced_literals.Given as goal

abbrev pub invariant-loop-literal : goal.invariant-loop-literal
invariant-loop-literal l = l.others.items ≡ map (replaced l.replacements) (take l.literal-index l.literals)
