-- One number more.
use Rattle.std.proofs.Common.{◌≡◌, ◌+◌, [], ◌∷◌, ◌++◌, ap, ◌∙◌, arith}
use Rattle.ask_core.proofs.BaseLemmas.{numbers_more}
use Rattle.ask_core.proofs.dense_search.places.Goals as goal

pub loop-place-preserved : goal.loop-place-preserved
loop-place-preserved c =
    let old = c.loop-place.places.items in
    numbers_more [] old c.push.new.self.items 0 c.loop-place.place c.loop-place.invariant (c.in_ok-push.ensures.items ∙ ap (λ n. old ++ n ∷ []) (let e : c.loop-place.place ≡ 0 + c.loop-place.place = omega arith in e))
