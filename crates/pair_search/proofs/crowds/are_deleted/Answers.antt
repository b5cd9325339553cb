use Rattle.std.proofs.Common.{All, subst}
use Rattle.std.proofs.lemmas.List.{take_all}
use Rattle.std.proofs.lemmas.List.Elements.{All-more}
use Rattle.pair_domains.specs.Trails.{IsDeleted}
use Rattle.pair_search.proofs.crowds.are_deleted.Goals as goal

pub remains-requires : goal.remains-requires
remains-requires c = c.requires c.loop-way.way-index _ c.loop-way-test.true

pub loop-way-preserved : goal.loop-way-preserved
loop-way-preserved c =
    All-more (IsDeleted c.args.domains.now.entries) c.args.ways.now c.loop-way.way-index _ c.loop-way-test.true c.loop-way.invariant (c.remains.ensures.gone c.if-remains.false)

pub returns : goal.returns
returns c = λ t. subst (All (IsDeleted c.args.domains.now.entries)) (take_all c.loop-way.way-index c.args.ways.now c.loop-way-test.false) c.loop-way.invariant
