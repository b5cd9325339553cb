use Rattle.std.proofs.Common.{◌++◌, ◌∷◌, [], ◌+◌, ◌∙◌, ap, map, drop, false, arith}
use Rattle.ban_book.proofs.BlockListLemmas.{made_more}
use Rattle.vector_bans.proofs.difference.definite.Goals as goal
use Rattle.word_sim.specs.ThreeValues.{of_bit}

pub loop-place-preserved : goal.loop-place-preserved
loop-place-preserved c =
    ap (λ l. l ++ map of_bit (drop (c.loop-place.place + 1) c.args.vector.now)) (c.in_ok-push.ensures.ok ∙ ap (λ v. c.loop-place.values ++ v ∷ []) (c.of_bit.ensures ∙ ap of_bit c.get.ensures)) ∙ made_more of_bit c.args.vector.now c.loop-place.values c.loop-place.place false (omega (arith, c.loop-place-test.true, c.len-place-end.ensures)) c.loop-place.invariant
