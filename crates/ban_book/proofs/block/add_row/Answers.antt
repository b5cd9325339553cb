use Rattle.std.proofs.Common.{◌++◌, ap, sym, ◌∙◌, append-nil}
use Rattle.std.proofs.lemmas.List.{take_all}
use Rattle.ban_book.proofs.BlockLemmas.{row_more}
use Rattle.ban_book.proofs.block.add_row.Goals as goal
use Rattle.account_core.specs.Covers.{row}

pub loop-port-init : goal.loop-port-init
loop-port-init c = sym (append-nil c.args.list.now.items)

pub loop-port-preserved : goal.loop-port-preserved
loop-port-preserved c =
    row_more c.args.kind c.args.from c.args.to.now c.loop-port.port-index _ c.args.list.now.items c.loop-port.list.items c.push.new.self.items c.push-in-loop-port.new.self.items c.way.result c.way-in-loop-port.result c.loop-port-test.true c.loop-port.invariant c.way.ensures c.way-in-loop-port.ensures c.in_ok-push.ensures.items c.in_ok-push-2.ensures.items

pub returns : goal.returns
returns c =
    c.loop-port.invariant ∙ ap (λ l. c.args.list.now.items ++ row c.args.kind c.args.from l) (take_all c.loop-port.port-index c.args.to.now c.loop-port-test.false)
