-- That many lines of the role are read.
use Rattle.aiger_reader.specs.Reading.{IsBodyReading, HasCounts}
use Rattle.aiger_reader.proofs.body.Body.read_inputs.Given as goal

abbrev pub invariant-loop : goal.invariant-loop
invariant-loop l = record {
  reading : IsBodyReading l.input l.header l.self;
  counts : HasCounts l.self.literals l.counter 0 0;
}
