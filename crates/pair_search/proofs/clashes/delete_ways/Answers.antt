use Rattle.std.proofs.Common.{◌∙◌, sym, arith}
use Rattle.pair_domains.proofs.TableLemmas.{in_range}
use Rattle.pair_search.proofs.StepLemmas.{ports_after, propagates_none, propagates_two, share_of, stays_assigned}
use Rattle.pair_search.proofs.clashes.delete_ways.Goals as goal

pub loop-number-init : goal.loop-number-init
loop-number-init c = propagates_none c.args.bans.now c.args.domains.now c.requires.justified

pub way_of-way-requires-clause-there : goal.way_of-way-requires-clause-there
way_of-way-requires-clause-there c =
    let d = c.args.domains.now in
    omega (arith, in_range d.inputs d.outputs c.args.pair c.requires.known c.args.side, c.port_on.ensures, ports_after c.args.bans.now d c.loop-number.domains c.args.pair.kind c.loop-number.invariant)

pub way_of-way-requires-clause-below : goal.way_of-way-requires-clause-below
way_of-way-requires-clause-below c =
    omega (arith, c.loop-number-test.true, c.ports-count.ensures, ports_after c.args.bans.now c.args.domains.now c.loop-number.domains c.args.pair.kind c.loop-number.invariant)

pub delete_way-requires-clause-justified : goal.delete_way-requires-clause-justified
delete_way-requires-clause-justified c = c.loop-number.invariant.justified

pub delete_way-requires-clause-assigned : goal.delete_way-requires-clause-assigned
delete_way-requires-clause-assigned c = stays_assigned c.args.bans.now c.args.domains.now c.loop-number.domains c.args.pair c.loop-number.invariant c.requires.assigned

pub delete_way-requires-clause-kind : goal.delete_way-requires-clause-kind
delete_way-requires-clause-kind c = sym c.way_of-way.ensures.kind

pub delete_way-requires-clause-share : goal.delete_way-requires-clause-share
delete_way-requires-clause-share c = share_of c.args.side c.args.pair c.way_of-way.result (sym c.port_on.ensures ∙ sym c.way_of-way.ensures.port)

pub loop-number-preserved : goal.loop-number-preserved
loop-number-preserved c = propagates_two c.args.bans.now c.args.domains.now c.loop-number.domains c.delete_way.new.domains c.loop-number.invariant c.in_ok-delete_way.ensures
