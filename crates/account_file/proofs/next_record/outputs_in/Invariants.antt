use Rattle.std.proofs.Common.{◌≡◌, ◌≤◌, count_by, take}
use Rattle.account_file.specs.Order.{is_output}
use Rattle.account_file.proofs.next_record.outputs_in.Given as goal

abbrev pub invariant-loop-pair : goal.invariant-loop-pair
invariant-loop-pair l = (l.count ≡ count_by is_output (take l.pair-index l.pairs)) × (l.count ≤ l.pair-index)
