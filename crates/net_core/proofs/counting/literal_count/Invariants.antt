-- The literals of the positions so far are counted.
use Rattle.std.proofs.Common.{◌≡◌, ◌≤◌, count_by, take}
use Rattle.circuits.specs.Expansion.{gives_literal}
use Rattle.net_core.proofs.counting.literal_count.Given as goal

abbrev pub invariant-loop-trit : goal.invariant-loop-trit
invariant-loop-trit l =
    (l.count ≡ count_by gives_literal (take l.trit-index l.row)) × (l.count ≤ l.trit-index)
