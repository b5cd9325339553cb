use Rattle.std.proofs.Common.{◌≡◌, map}
use Rattle.std.specs.List.{range_with_len}
use Rattle.account_convert.specs.Tables.{due_of}
use Rattle.account_convert.proofs.dues.list.Given as goal

abbrev pub invariant-loop-place : goal.invariant-loop-place
invariant-loop-place l = l.dues.items ≡ map (due_of l.table) (range_with_len 0 l.place)
