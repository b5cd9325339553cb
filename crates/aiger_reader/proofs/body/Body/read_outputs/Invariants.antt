-- That many lines of the role are read.
use Rattle.std.proofs.Common.{[]}
use Rattle.aiger_reader.specs.Numbers.{header_of}
use Rattle.aiger_reader.specs.Reading.{input_lines_of, IsBodyReading, HasCounts}
use Rattle.aiger_reader.proofs.body.Body.read_outputs.Given as goal

abbrev pub invariant-loop : goal.invariant-loop
invariant-loop l = record {
  reading : IsBodyReading l.input l.header l.self;
  counts : HasCounts l.self.literals (input_lines_of (header_of l.header [])) l.counter 0;
}
