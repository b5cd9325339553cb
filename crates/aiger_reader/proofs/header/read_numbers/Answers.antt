-- The numbers on the first line after the keyword.
use Rattle.std.proofs.Common.{ap, sym, ◌∙◌, arith}
use Rattle.aiger_reader.specs.Words.{numbers_on}
use Rattle.aiger_reader.specs.Headers.{header_numbers, line_after}
use Rattle.aiger_reader.proofs.HeaderLemmas.{too_few, numbers_read}
use Rattle.aiger_reader.proofs.header.read_numbers.Goals as goal

pub returns-in_err-count-clause-none : goal.returns-in_err-count-clause-none
returns-in_err-count-clause-none c =
    rw c.from_residual-in_err-count.ensures (λ h writes. c.in_err-count.ensures.none (header_numbers h) (omega (arith, writes.few)) writes.small (ap numbers_on (sym c.in_ok-line.ensures.line) ∙ writes.written))

pub returns-then-count-lt5-clause-none : goal.returns-then-count-lt5-clause-none
returns-then-count-lt5-clause-none c = λ h writes.
    too_few (line_after c.args.input.now) c.fill.new.row c.in_ok-count.count h (ap numbers_on c.in_ok-line.ensures.line ∙ c.in_ok-count.ensures.numbers) (omega arith) writes

pub returns-clause-numbers : goal.returns-clause-numbers
returns-clause-numbers c =
    numbers_read (line_after c.args.input.now) c.fill.new.row c.in_ok-count.count c.is_any_above_zero.result (ap numbers_on c.in_ok-line.ensures.line ∙ c.in_ok-count.ensures.numbers) (omega arith) (omega (arith, c.in_ok-count.ensures.within)) (omega arith) c.in_ok-count.ensures.small c.is_any_above_zero.ensures
