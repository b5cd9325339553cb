-- A last group, and a group with a number after it.
use Rattle.std.proofs.Common.{◌-◌, arith}
use Rattle.aiger_reader.proofs.DeltaLemmas.{last_group, group_before, no_group_after, four_groups, power_more, last_in_range}
use Rattle.aiger_reader.proofs.deltas.+next_groups.Goals as goal

pub returns-then-byte-lt128-clause-number : goal.returns-then-byte-lt128-clause-number
returns-then-byte-lt128-clause-number t c =
    last_group c.args.most c.in_ok-byte.byte c.from.result c.args.cursor.now.bytes c.next_byte.new.cursor.bytes c.in_ok-byte.ensures.byte (omega arith) (omega arith) (omega arith)

pub returns-then-byte-lt128-clause-range : goal.returns-then-byte-lt128-clause-range
returns-then-byte-lt128-clause-range t c =
    last_in_range c.args.most c.from.result (omega arith) (omega arith)

pub returns-in_err-high-clause-none : goal.returns-in_err-high-clause-none
returns-in_err-high-clause-none t c =
    rw c.from_residual-in_err-high.ensures (λ n rest all. no_group_after c.args.most (c.args.most - 1) c.in_ok-byte.byte n c.args.cursor.now.bytes c.next_byte.new.cursor.bytes rest c.in_ok-byte.ensures.byte (omega arith) (omega arith) c.in_err-high.ensures.none all)

pub overflow_mul-result : goal.overflow_mul-result
overflow_mul-result t c =
    omega (arith, four_groups (c.args.most - 1) c.in_ok-high.high (omega arith) c.in_ok-high.ensures.range)

pub overflow_add-result : goal.overflow_add-result
overflow_add-result t c =
    omega (arith, four_groups (c.args.most - 1) c.in_ok-high.high (omega arith) c.in_ok-high.ensures.range)

pub returns-clause-number : goal.returns-clause-number
returns-clause-number t c =
    group_before c.args.most (c.args.most - 1) c.in_ok-byte.byte c.from-2.result c.in_ok-high.high c.args.cursor.now.bytes c.next_byte.new.cursor.bytes c.next_groups.new.cursor.bytes c.in_ok-byte.ensures.byte (omega arith) (omega arith) (omega arith) c.in_ok-high.ensures.number

pub returns-clause-range : goal.returns-clause-range
returns-clause-range t c =
    omega (arith, power_more c.args.most (c.args.most - 1) (omega arith), c.in_ok-high.ensures.range)
