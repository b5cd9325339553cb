-- The numbers so far and those that are left are those of the line.
use Rattle.std.proofs.Common.{◌≡◌, ◌++◌, map, take, Some}
use Rattle.aiger_reader.specs.Words.{numbers_on, AreSmall}
use Rattle.aiger_reader.proofs.header.fill.Given as goal

abbrev pub invariant-loop-count : goal.invariant-loop-count
invariant-loop-count l = record {
  front : numbers_on l.fn.line.bytes ≡ map Some (take l.count l.row) ++ numbers_on l.line.bytes;
  small : AreSmall (take l.count l.row);
}
