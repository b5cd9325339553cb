-- The names so far are printed.
use Rattle.std.proofs.Common.{◌≡◌, map, take}
use Rattle.print_laws.specs.Printable.{symbol_name}
use Rattle.run_steps.proofs.naming.symbol_names.Given as goal

abbrev pub invariant-loop-name : goal.invariant-loop-name
invariant-loop-name l = l.printed ≡ map symbol_name (take l.name-index l.names)
