-- What the parts say of the whole.
use Rattle.std.proofs.Common.{arith}
use Rattle.std.proofs.lemmas.Result.{IfErr-weaker}
use Rattle.circuits.proofs.LevelOrders.{IsOrderOf-outputs}
use Rattle.net_file.proofs.StopLemmas.{stop_as, stop_passed}
use Rattle.aiger_reader.specs.Numbers.{header_of}
use Rattle.aiger_reader.proofs.WholeLemmas.{lines_fault, names_fault}
use Rattle.aiger_reader.proofs.NetlistLemmas.{net_sizes}
use Rattle.aiger_reader.proofs.whole.read_file.Goals as goal

pub returns-in_err-body-clause-stop : goal.returns-in_err-body-clause-stop
returns-in_err-body-clause-stop c =
    stop_passed c.read_body.result _ _ _ _ c.in_err-body.was c.from_residual-in_err-body.ensures.1 c.read_body.ensures.stop (lines_fault c.args.input.now c.in_ok-header.header c.in_ok-header.ensures.begun)

pub read_net-requires-clause-lines : goal.read_net-requires-clause-lines
read_net-requires-clause-lines c =
    let known = c.in_ok-body.ensures in
    record { body = known.body; sound = known.sound; left = known.rest }

pub name_ports-requires-clause-outputs : goal.name_ports-requires-clause-outputs
name_ports-requires-clause-outputs c =
    let net = c.in_ok-net.ensures.netlist in
    let sizes = net_sizes c.args.input.now (header_of c.in_ok-header.header net.0) c.in_ok-net.net _ net.1 in
    omega (arith, sizes.outputs, IsOrderOf-outputs c.in_ok-net.net c.in_ok-graph.graph c.in_ok-graph.ensures.order)

pub returns-clause-stop : goal.returns-clause-stop
returns-clause-stop c =
    IfErr-weaker c.name_ports.result _ _ (λ why. stop_as _ _ why (names_fault c.args.input.now c.in_ok-header.header c.in_ok-net.net c.read_net.new.body.rest c.in_ok-net.ensures.netlist c.in_ok-graph.ensures.acyclic c.in_ok-net.ensures.end)) c.name_ports.ensures.stop
