use Rattle.std.proofs.Common.{[], ◌∷◌, ◌++◌, ap, sym, ◌∙◌}
use Rattle.gen_pair.proofs.hidden.numbers.Goals as goal
use Rattle.circuits.proofs.Lists.{range_more}

pub loop-number-preserved : goal.loop-number-preserved
loop-number-preserved c =
    let number = c.loop-number.number in
    c.in_ok-push.ensures.items ∙ ap (λ ns. ns ++ number ∷ []) c.loop-number.invariant ∙ sym (range_more number)
