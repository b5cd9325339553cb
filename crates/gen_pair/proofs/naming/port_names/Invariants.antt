-- The names so far.
use Rattle.std.proofs.Common.{◌≡◌}
use Rattle.gen_pair.specs.Names.{port_names}
use Rattle.gen_pair.proofs.naming.port_names.Given as goal

abbrev pub invariant-loop-position : goal.invariant-loop-position
invariant-loop-position l = l.names ≡ port_names l.letter l.position
