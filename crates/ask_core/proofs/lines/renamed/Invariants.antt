use Rattle.std.proofs.Common.{◌≡◌, map, take}
use Rattle.ask_core.specs.Renamings.{renamed}
use Rattle.ask_core.proofs.lines.renamed.Given as goal

abbrev pub invariant-loop-literal : goal.invariant-loop-literal
invariant-loop-literal l = l.copy ≡ map (renamed l.names) (take l.literal-index l.clause)
