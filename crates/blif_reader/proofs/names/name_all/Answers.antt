use Rattle.std.proofs.Common.{sym, subst}
use Rattle.net_file.specs.declared.fault.NetKind.TheVariants as fault
use Rattle.blif_reader.specs.Numbers.{names_of, IsRepeatedPort}
use Rattle.blif_reader.proofs.NumberLemmas.{AddsPort, named_more, repeated, at_place}
use Rattle.blif_reader.proofs.names.name_all.Goals as goal

pub returns-then-not-branch-clause-stop : goal.returns-then-not-branch-clause-stop
returns-then-not-branch-clause-stop c =
    let ports = c.args.ports.now in
    let port = c.port-item.result in
    let adds = subst (λ t. AddsPort t port (names_of c.loop-port.named.inputs) (names_of c.loop-port.named.outputs) (names_of c.add_port.new.named.inputs) (names_of c.add_port.new.named.outputs)) c.if-not-branch.true (c.in_ok-add_port.ensures.inputs, c.in_ok-add_port.ensures.outputs) in
    let here = at_place ports c.loop-port.port-index port c.loop-port-test.true c.port-item.is in
    let is = repeated ports c.loop-port.port-index port _ _ _ _ c.loop-port-test.true here c.loop-port.invariant adds in
    subst (IsRepeatedPort ports fault.DuplicatePort) (sym c.at.ensures.value) is

pub loop-port-preserved : goal.loop-port-preserved
loop-port-preserved c =
    let ports = c.args.ports.now in
    let port = c.port-item.result in
    let adds = subst (λ t. AddsPort t port (names_of c.loop-port.named.inputs) (names_of c.loop-port.named.outputs) (names_of c.add_port.new.named.inputs) (names_of c.add_port.new.named.outputs)) c.if-not-branch.false (c.in_ok-add_port.ensures.inputs, c.in_ok-add_port.ensures.outputs) in
    let here = at_place ports c.loop-port.port-index port c.loop-port-test.true c.port-item.is in
    named_more ports c.loop-port.port-index port _ _ _ _ c.loop-port-test.true here c.loop-port.invariant adds
