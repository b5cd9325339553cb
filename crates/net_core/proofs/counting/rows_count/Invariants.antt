-- The gates of the rows so far are counted.
use Rattle.std.proofs.Common.{◌≡◌, ◌-◌, ◌^◌, min, take}
use Rattle.std.specs.List.{sum_by}
use Rattle.circuits.specs.Expansion.{row_gates}
use Rattle.net_core.proofs.counting.rows_count.Given as goal

abbrev pub invariant-loop-row : goal.invariant-loop-row
invariant-loop-row l = l.count ≡ min (sum_by row_gates (take l.row-index l.rows)) (2 ^ 64 - 1)
