use Rattle.std.proofs.Common.{◌≡◌, ◌++◌, drop, map, take}
use Rattle.refusal_core.specs.Numbered.{numbered_ban}
use Rattle.refusal_core.proofs.renumbering.renumber_all.Given as goal

abbrev pub invariant-loop-place : goal.invariant-loop-place
invariant-loop-place l = l.bans.items ≡ map (numbered_ban l.numbers.facts l.numbers.bans) (take l.place l.fn.bans.items) ++ drop l.place l.fn.bans.items
