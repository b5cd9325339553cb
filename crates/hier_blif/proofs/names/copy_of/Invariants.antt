use Rattle.std.proofs.Common.{take}
use Rattle.blif_reader.specs.Numbers.{names_of}
use Rattle.hier_blif.specs.Scopes.{HasKeys}
use Rattle.hier_blif.proofs.names.copy_of.Given as goal

abbrev pub invariant-loop-name : goal.invariant-loop-name
invariant-loop-name l = HasKeys (λ name. name.now) (take l.name-index l.names.keys) (names_of l.copy)
