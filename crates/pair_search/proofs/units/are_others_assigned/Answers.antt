use Rattle.std.proofs.Common.{◌∷◌, All, Contains, subst}
use Rattle.std.proofs.lemmas.List.{take_all}
use Rattle.std.proofs.lemmas.List.Elements.{All-more}
use Rattle.pair_domains.specs.Trails.{assigned_in}
use Rattle.pair_search.proofs.units.are_others_assigned.Goals as goal

pub loop-pair-preserved : goal.loop-pair-preserved
loop-pair-preserved c =
    All-more (Contains (c.args.way ∷ assigned_in c.args.domains.now.entries)) c.args.pairs.now c.loop-pair.pair-index _ c.loop-pair-test.true c.loop-pair.invariant (c.is_assigned_or.ensures c.if-not-is_assigned_or.false)

pub returns : goal.returns
returns c = λ t. subst (All (Contains (c.args.way ∷ assigned_in c.args.domains.now.entries))) (take_all c.loop-pair.pair-index c.args.pairs.now c.loop-pair-test.false) c.loop-pair.invariant
