use Rattle.std.proofs.Common.{◌≡◌, map, take}
use Rattle.hier_blif.proofs.whole.copy_names.Given as goal

abbrev pub invariant-loop-name : goal.invariant-loop-name
invariant-loop-name l = l.copy ≡ map (λ name. name.now) (take l.name-index l.names.keys)
