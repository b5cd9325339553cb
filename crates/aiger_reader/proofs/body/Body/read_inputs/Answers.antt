-- One input more.
use Rattle.std.proofs.Common.{◌≡◌, [], length, refl, arith, rules}
use Rattle.aiger_reader.specs.declared.body.Literals.{Literals}
use Rattle.aiger_reader.specs.Numbers.{header_of}
use Rattle.aiger_reader.proofs.ReadingLemmas.{input_line}
use Rattle.aiger_reader.proofs.body.Body.read_inputs.Goals as goal

pub loop-preserved : goal.loop-preserved
loop-preserved c =
    let i = c.loop in
    let now = c.next_definition.new.self in
    let known = c.in_ok-next_definition.ensures in
    let wide : length c.next_definition.new.row ≡ 1 = omega arith in
    let after : Literals = record { inputs = c.push.new.self; outputs = now.literals.outputs; gates = now.literals.gates } in
    record {
      reading = input_line c.args.input.now (header_of c.args.header []) i.self.literals now.literals after now.rest now.signals.items i.counter now.count c.next_definition.new.row known.literals i.invariant.counts wide known.reading c.in_ok-push.ensures.items refl refl;
      counts = search rules;
    }
