-- The slots so far have no name.
use Rattle.std.proofs.Common.{◌≡◌, replicate, None}
use Rattle.aiger_reader.proofs.symbols.empty_slots.Given as goal

abbrev pub invariant-loop : goal.invariant-loop
invariant-loop l = l.slots.items ≡ replicate l.counter None
