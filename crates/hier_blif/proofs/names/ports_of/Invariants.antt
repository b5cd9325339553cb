use Rattle.std.proofs.Common.{◌≡◌, take}
use Rattle.std.specs.List.{flat_map}
use Rattle.hier_blif.specs.Names.{ports_on}
use Rattle.hier_blif.proofs.names.ports_of.Given as goal

abbrev pub invariant-loop-line : goal.invariant-loop-line
invariant-loop-line l = l.ports.items ≡ flat_map ports_on (take l.line-index l.lines)
