-- The numbers so far and those that are left are those of the line, up to the limit.
use Rattle.std.proofs.Common.{◌≡◌, ◌++◌, map, take, Some}
use Rattle.aiger_reader.specs.Reading.{capped_on}
use Rattle.aiger_reader.proofs.literals.read_capped.Given as goal

abbrev pub invariant-loop-number : goal.invariant-loop-number
invariant-loop-number l =
    capped_on l.limit l.fn.line.bytes ≡ map Some (take l.number-index l.row) ++ capped_on l.limit l.line.bytes
