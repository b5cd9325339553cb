-- That many lines are passed.
use Rattle.aiger_reader.specs.Reading.{IsAtLine}
use Rattle.aiger_reader.proofs.numbering.offset_of_line.Given as goal

abbrev pub invariant-loop : goal.invariant-loop
invariant-loop l = IsAtLine l.input l.counter l.cursor
