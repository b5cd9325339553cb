use Rattle.std.proofs.Common.{ap, ◌∙◌}
use Rattle.std.proofs.lemmas.List.{take_all}
use Rattle.account_core.specs.Covers.{ways, row}
use Rattle.ban_book.proofs.ListLemmas.{flat_taken}
use Rattle.ban_book.proofs.block.ways_of.Goals as goal

pub loop-port-preserved : goal.loop-port-preserved
loop-port-preserved c =
    flat_taken (λ from. row c.args.kind from c.args.to.now) c.args.from.now c.loop-port.port-index _ c.loop-port.list.items c.add_row.new.list.items c.loop-port-test.true c.loop-port.invariant c.in_ok-add_row.ensures

pub returns : goal.returns
returns c =
    c.loop-port.invariant ∙ ap (λ l. ways c.args.kind l c.args.to.now) (take_all c.loop-port.port-index c.args.from.now c.loop-port-test.false)
