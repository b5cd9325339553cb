use Rattle.std.proofs.Common.{◌≡◌, length}
use Rattle.hier_blif.proofs.drivers.no_drivers.Given as goal

abbrev pub invariant-loop-table : goal.invariant-loop-table
invariant-loop-table l = length l.drivers ≡ l._table
