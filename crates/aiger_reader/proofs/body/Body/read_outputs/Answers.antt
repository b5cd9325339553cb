-- One output more.
use Rattle.std.proofs.Common.{◌≡◌, [], length, ap, refl, arith, rules}
use Rattle.aiger_reader.specs.declared.body.Literals.{Literals}
use Rattle.aiger_reader.specs.Numbers.{header_of}
use Rattle.aiger_reader.proofs.ReadingLemmas.{output_line}
use Rattle.aiger_reader.proofs.body.Body.read_outputs.Goals as goal

pub loop-preserved : goal.loop-preserved
loop-preserved c =
    let i = c.loop in
    let body = i.self in
    let now = c.next_row.new.self in
    let known = c.in_ok-next_row.ensures in
    let wide : length c.next_row.new.row ≡ 1 = omega arith in
    let after : Literals = record { inputs = now.literals.inputs; outputs = c.push.new.self; gates = now.literals.gates } in
    record {
      reading = output_line c.args.input.now (header_of c.args.header []) body.literals now.literals after body.rest now.rest body.signals.items now.signals.items i.counter body.count now.count c.next_row.new.row known.literals (ap (λ v. v.items) known.signals) known.count i.invariant.counts (omega arith) wide i.invariant.reading known.row refl c.in_ok-push.ensures.items refl;
      counts = search rules;
    }
