use Rattle.std.proofs.Common.{◌++◌, ◌∷◌, [], ◌∙◌, sym, ap}
use Rattle.ban_book.proofs.block.ports_up_to.Goals as goal
use Rattle.circuits.proofs.Lists.{range_more}

pub loop-port-preserved : goal.loop-port-preserved
loop-port-preserved c =
    c.in_ok-push.ensures.ok ∙ (ap (λ l. l ++ c.loop-port.port ∷ []) c.loop-port.invariant ∙ sym (range_more c.loop-port.port))
