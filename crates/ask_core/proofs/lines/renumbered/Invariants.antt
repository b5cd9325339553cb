use Rattle.std.proofs.Common.{◌≡◌, map, take}
use Rattle.ask_core.specs.Renamings.{renumbered}
use Rattle.ask_core.proofs.lines.renumbered.Given as goal

abbrev pub invariant-loop-hint : goal.invariant-loop-hint
invariant-loop-hint l = l.copy ≡ map (renumbered l.numbers l.next) (take l.hint-index l.hints)
