use Rattle.std.proofs.Common.{◌≡◌, ◌++◌, drop, map, take}
use Rattle.std.specs.Option.{option_map}
use Rattle.refusal_core.specs.Numbered.{at}
use Rattle.refusal_core.proofs.renumbering.put_references.Given as goal

abbrev pub invariant-loop-place : goal.invariant-loop-place
invariant-loop-place l = l.list ≡ map (option_map (at l.numbers)) (take l.place l.fn.list) ++ drop l.place l.fn.list
