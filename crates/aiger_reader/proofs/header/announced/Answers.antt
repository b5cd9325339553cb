-- The form and the numbers are those of a header, and no file without them has one.
use Rattle.std.proofs.Common.{rules}
use Rattle.aiger_reader.proofs.HeaderLemmas.{not_counted, header_read}
use Rattle.aiger_reader.proofs.header.announced.Goals as goal

pub returns-in_err-binary-clause-none : goal.returns-in_err-binary-clause-none
returns-in_err-binary-clause-none c =
    rw c.from_residual.ensures (λ h has. c.in_err-binary.ensures.neither h.binary has.begins)

pub returns-in_err-numbers-clause-none : goal.returns-in_err-numbers-clause-none
returns-in_err-numbers-clause-none c =
    rw c.from_residual-in_err-numbers.ensures (λ h has. c.in_err-numbers.ensures.none h has.numbers)

pub returns-then-not-is_counted-clause-none : goal.returns-then-not-is_counted-clause-none
returns-then-not-is_counted-clause-none c =
    not_counted c.args.input.now c.in_ok-binary.binary c.in_ok-numbers.numbers c.in_ok-binary.ensures.form c.in_ok-numbers.ensures.numbers (search rules)

pub returns-clause-header : goal.returns-clause-header
returns-clause-header c =
    let writes = c.in_ok-numbers.ensures.numbers in
    record {
      properties = writes.properties;
      header = header_read c.args.input.now c.in_ok-binary.binary c.in_ok-numbers.numbers c.in_ok-binary.ensures.form writes (search rules);
      property = writes.property;
    }
