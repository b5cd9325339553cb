-- The entries so far, continued by those of the digits left, are the whole list.
use Rattle.std.proofs.Common.{◌≡◌, ◌-◌, ◌++◌}
use Rattle.circuits.specs.Bijections.{entries_of}
use Rattle.circuits.proofs.plain.entries.Given as goal

abbrev pub invariant-loop-i : goal.invariant-loop-i
invariant-loop-i l = l.entries.items ++ entries_of (l.n - l.i) l.rest ≡ entries_of l.n l.code
