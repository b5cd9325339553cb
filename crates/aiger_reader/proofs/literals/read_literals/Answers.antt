-- The literals of the line, in range and plain.
use Rattle.std.proofs.Common.{◌≤◌, IsTrue, All, refl, sym, subst, arith, rules}
use Rattle.aiger_reader.proofs.LiteralLemmas.{row_written, out_of_range, bad_line}
use Rattle.aiger_reader.proofs.literals.read_literals.Goals as goal

pub returns-in_default-clause-fault : goal.returns-in_default-clause-fault
returns-in_default-clause-fault c = bad_line c.args.line.now.bytes c.args.greatest c.args.defining _ c.in_default.ensures.none

pub returns-then-not-are_in_range-clause-fault : goal.returns-then-not-are_in_range-clause-fault
returns-then-not-are_in_range-clause-fault c =
    out_of_range c.args.line.now.bytes c.args.greatest c.read_capped.new.row c.args.defining _ c.in-Some.ensures.row (omega arith) (search rules)

pub returns-then-not-defining-clause-row : goal.returns-then-not-defining-clause-row
returns-then-not-defining-clause-row c =
    let small : All (λ literal. literal ≤ c.args.greatest) c.read_capped.new.row = search rules in
    record {
      written = row_written c.args.line.now.bytes c.args.greatest c.read_capped.new.row c.in-Some.ensures.row small;
      in_range = small;
      plain = search rules;
    }

pub returns-then-not-is_plain-clause-fault : goal.returns-then-not-is_plain-clause-fault
returns-then-not-is_plain-clause-fault c =
    let small : All (λ literal. literal ≤ c.args.greatest) c.read_capped.new.row = search rules in
    let written = row_written c.args.line.now.bytes c.args.greatest c.read_capped.new.row c.in-Some.ensures.row small in
    (c.read_capped.new.row, omega arith, written, λ good. let no = c.if-not-is_plain.ensures.1 (good.plain (subst IsTrue (sym c.if-not-defining.false) refl)) in cc no)

pub returns-clause-row : goal.returns-clause-row
returns-clause-row c =
    let small : All (λ literal. literal ≤ c.args.greatest) c.read_capped.new.row = search rules in
    record {
      written = row_written c.args.line.now.bytes c.args.greatest c.read_capped.new.row c.in-Some.ensures.row small;
      in_range = small;
      plain = λ _. c.if-not-is_plain.ensures.0 refl;
    }
