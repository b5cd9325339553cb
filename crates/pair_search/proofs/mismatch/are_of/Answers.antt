use Rattle.std.proofs.Common.{[], ◌∷◌, All, Contains, subst}
use Rattle.std.proofs.lemmas.List.{take_all}
use Rattle.std.proofs.lemmas.List.Elements.{All-more}
use Rattle.pair_search.proofs.mismatch.are_of.Goals as goal

pub loop-pair-preserved : goal.loop-pair-preserved
loop-pair-preserved c =
    All-more (Contains (c.args.one ∷ c.args.other ∷ [])) c.args.pairs.now c.loop-pair.pair-index _ c.loop-pair-test.true c.loop-pair.invariant (c.is_of.ensures c.if-not-is_of.false)

pub returns : goal.returns
returns c = λ t. subst (All (Contains (c.args.one ∷ c.args.other ∷ []))) (take_all c.loop-pair.pair-index c.args.pairs.now c.loop-pair-test.false) c.loop-pair.invariant
