use Rattle.ban_book.proofs.Marked.{marked_none}
use Rattle.ban_book.proofs.block.marked.Goals as goal

pub loop-port-init : goal.loop-port-init
loop-port-init c = marked_none c.new-ports.result c.new-ports.ensures

pub loop-port-preserved : goal.loop-port-preserved
loop-port-preserved c = (c.in_ok-add_marked.ensures.ascends, c.in_ok-add_marked.ensures.below)
