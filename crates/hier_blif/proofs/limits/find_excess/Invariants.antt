use Rattle.std.proofs.Common.{◌≡◌, ◌+◌, length, take}
use Rattle.std.specs.List.{flat_map}
use Rattle.net_core.specs.Limits.{most_ports}
use Rattle.hier_blif.specs.Limits.{words_on}
use Rattle.hier_blif.proofs.limits.find_excess.Given as goal

abbrev pub invariant-loop-line : goal.invariant-loop-line
invariant-loop-line l = l.left + length (flat_map (words_on l.kind) (take l.line-index l.lines)) ≡ most_ports
