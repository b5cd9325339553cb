-- What is gathered of the first ways, and of one more.
use Rattle.std.proofs.Common.{subst}
use Rattle.std.proofs.lemmas.List.{take_all}
use Rattle.pair_search.specs.Named.{AreAllGathered}
use Rattle.pair_search.proofs.NamedLemmas.{gathered_none, gathered_one}
use Rattle.pair_search.proofs.gather.gather.Goals as goal

pub loop-way-init : goal.loop-way-init
loop-way-init c = gathered_none c.args.bans.now c.args.view.now.domains.now.entries c.args.view.now.assigned.now c.args.conflict.now.items c.args.skipped _ c.new-noted.ensures.items c.requires.part

pub gather_way-requires-clause-known : goal.gather_way-requires-clause-known
gather_way-requires-clause-known c = c.requires.known c.loop-way.way-index _ c.loop-way-test.true

pub gather_way-requires-clause-named : goal.gather_way-requires-clause-named
gather_way-requires-clause-named c = c.requires.named c.loop-way.way-index _ c.loop-way-test.true

pub loop-way-preserved : goal.loop-way-preserved
loop-way-preserved c =
    gathered_one c.args.bans.now c.args.view.now.domains.now.entries c.args.view.now.assigned.now c.args.conflict.now.items c.loop-way.conflict.items c.gather_way.new.conflict.items c.args.ways.now c.args.skipped c.loop-way.noted.items _ c.loop-way.way-index _ c.in_ok-number.number c.loop-way-test.true c.in_ok-push.ensures.items c.loop-way.invariant c.in_ok-number.ensures.adds.part c.in_ok-number.ensures.adds.stays c.in_ok-number.ensures.gathered

pub returns-clause-gathered : goal.returns-clause-gathered
returns-clause-gathered c =
    subst (λ l. AreAllGathered c.args.bans.now c.args.view.now.domains.now.entries l c.args.skipped c.loop-way.conflict.items c.loop-way.noted.items) (take_all c.loop-way.way-index c.args.ways.now c.loop-way-test.false) c.loop-way.invariant.each
