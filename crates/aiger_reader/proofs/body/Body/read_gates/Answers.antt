-- One gate more.
use Rattle.std.proofs.Common.{◌≡◌, [], length, refl, arith, rules}
use Rattle.aiger_reader.specs.declared.body.Literals.{Literals}
use Rattle.aiger_reader.specs.Numbers.{header_of}
use Rattle.aiger_reader.proofs.ReadingLemmas.{gate_line}
use Rattle.aiger_reader.proofs.body.Body.read_gates.Goals as goal

pub loop-preserved : goal.loop-preserved
loop-preserved c =
    let now = c.next_definition.new.self in
    let known = c.in_ok-next_definition.ensures in
    let wide : length c.next_definition.new.row ≡ 3 = omega arith in
    let after : Literals = record { inputs = now.literals.inputs; outputs = now.literals.outputs; gates = c.push.new.self } in
    record {
      reading = gate_line c.args.input.now (header_of c.args.header []) c.loop.self.literals now.literals after now.rest now.signals.items now.count c.next_definition.new.row known.literals wide known.reading refl refl c.in_ok-push.ensures.items;
      counts = search rules;
    }
