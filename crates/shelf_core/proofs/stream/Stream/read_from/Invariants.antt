use Rattle.std.proofs.Common.{◌≤◌}
use Rattle.std.specs.Prelude.{vec_len}
use Rattle.shelf_core.proofs.stream.Stream.read_from.Given as goal

-- what was taken is within the bound
abbrev pub invariant-loop : goal.invariant-loop
invariant-loop g l = vec_len l.bytes ≤ l.bound
