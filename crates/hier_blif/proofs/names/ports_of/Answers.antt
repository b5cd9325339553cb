use Rattle.std.proofs.Common.{[]}
use Rattle.hier_blif.specs.Names.{ports_on}
use Rattle.hier_blif.proofs.PushLemmas.{flat_more, flat_all}
use Rattle.hier_blif.proofs.names.ports_of.Goals as goal

pub loop-line-preserved : goal.loop-line-preserved
loop-line-preserved c =
    flat_more ports_on [] c.args.lines.now c.loop-line.line-index c.line-item.result c.loop-line.ports.items _ c.loop-line-test.true c.line-item.is c.loop-line.invariant c.in_ok-add_ports_on.ensures

pub returns : goal.returns
returns c = flat_all ports_on [] c.args.lines.now c.loop-line.line-index _ c.loop-line-test.false c.loop-line.invariant
