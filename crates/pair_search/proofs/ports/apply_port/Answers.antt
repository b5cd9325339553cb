use Rattle.std.proofs.Common.{refl}
use Rattle.pair_domains.specs.declared.entry.Entry.{Entry}
use Rattle.pair_domains.specs.declared.entry.Fate.TheVariants.{Assigned}
use Rattle.pair_domains.specs.declared.entry.Cause.TheVariants.{LastWay}
use Rattle.pair_search.proofs.PortLemmas.{last_way}
use Rattle.pair_search.proofs.StepLemmas.{one_more_of, propagates_none, propagates_one}
use Rattle.pair_search.proofs.ports.apply_port.Goals as goal

pub returns-in_ok-assign-clause-propagates : goal.returns-in_ok-assign-clause-propagates
returns-in_ok-assign-clause-propagates c =
    let d = c.args.domains.now in
    let way = c.way_of-way.result in
    let e : Entry = record { pair = way; fate = Assigned (LastWay c.args.port.side) } in
    propagates_one c.args.bans.now d c.assign.new.self e (one_more_of d c.assign.new.self e c.in_ok-assign.ensures.assigned) c.entries-lawful.ensures.lawful c.way_of-way.ensures.known (c.is_free.ensures.is c.if-is_free.true) refl c.requires.justified (last_way d.inputs d.outputs d.entries c.args.port c.in-Some.number way c.way_of-way.ensures.value c.way_of-way.ensures.kind c.way_of-way.ensures.port c.in-Some.ensures.before c.in_default-remaining.ensures.none) (λ graphs facts. tt)

pub returns-in-Some-remaining-clause-propagates : goal.returns-in-Some-remaining-clause-propagates
returns-in-Some-remaining-clause-propagates c = propagates_none c.args.bans.now c.args.domains.now c.requires.justified

pub returns-else-is_free-clause-propagates : goal.returns-else-is_free-clause-propagates
returns-else-is_free-clause-propagates c = propagates_none c.args.bans.now c.args.domains.now c.requires.justified
