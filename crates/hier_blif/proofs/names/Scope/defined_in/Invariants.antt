use Rattle.std.proofs.Common.{◌≡◌, take}
use Rattle.std.specs.List.{flat_map}
use Rattle.hier_blif.specs.Names.{defined_on}
use Rattle.hier_blif.proofs.names.Scope.defined_in.Given as goal

abbrev pub invariant-loop-line : goal.invariant-loop-line
invariant-loop-line l = l.words.items ≡ flat_map (defined_on l.self.models.now) (take l.line-index l.model.lines)
