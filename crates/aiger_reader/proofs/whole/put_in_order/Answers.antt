-- The line of a gate on a cycle is there, and there are few gates.
use Rattle.std.proofs.Common.{arith}
use Rattle.aiger_reader.specs.Numbers.{header_of}
use Rattle.aiger_reader.proofs.WholeLemmas.{few_gates, loop_there}
use Rattle.aiger_reader.proofs.whole.put_in_order.Goals as goal

pub offset_of_line-requires : goal.offset_of_line-requires
offset_of_line-requires c =
    let net = c.requires.netlist in
    let looped = c.order.ensures.cycle c.in-Err-Cycle.definition (cc) in
    let there = loop_there c.args.input.now (header_of c.args.header net.1.0) c.args.net.now net.0 c.in-Err-Cycle.definition net.1.1 looped in
    omega (arith, there, c.gate_line.ensures)

pub unreachable-requires : goal.unreachable-requires
unreachable-requires c =
    let net = c.requires.netlist in
    omega (arith, few_gates c.args.input.now c.args.header c.args.net.now net.0 net.1, c.order.ensures.too_many (cc))
