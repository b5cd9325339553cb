-- The outputs so far are stood for.
use Rattle.std.proofs.Common.{◌≡◌, map, take}
use Rattle.circuits.specs.Expansion.{stands_for}
use Rattle.net_core.proofs.expanding.stand_ins.Given as goal

abbrev pub invariant-loop-output : goal.invariant-loop-output
invariant-loop-output l = l.all.items ≡ map (stands_for l.literals) (take l.output-index l.outputs)
