use Rattle.std.proofs.Common.{rules}
use Rattle.pair_search.proofs.StepLemmas.{known_after, propagates_two, stays_assigned}
use Rattle.pair_search.proofs.propagation.follow_assigned.Goals as goal

pub delete_ways-requires-2-clause-justified : goal.delete_ways-requires-2-clause-justified
delete_ways-requires-2-clause-justified c = c.in_ok-delete_ways.ensures.justified

pub delete_ways-requires-2-clause-known : goal.delete_ways-requires-2-clause-known
delete_ways-requires-2-clause-known c = known_after c.args.bans.now c.args.domains.now c.delete_ways.new.domains c.args.pair c.in_ok-delete_ways.ensures (c.is_assigned.ensures.known c.if-not-is_assigned.false)

pub delete_ways-requires-2-clause-assigned : goal.delete_ways-requires-2-clause-assigned
delete_ways-requires-2-clause-assigned c = stays_assigned c.args.bans.now c.args.domains.now c.delete_ways.new.domains c.args.pair c.in_ok-delete_ways.ensures (c.is_assigned.ensures.assigned c.if-not-is_assigned.false)

pub returns : goal.returns
returns c =
    let bans = c.args.bans.now in
    let start = c.args.domains.now in
    let second = c.delete_ways-2.new.domains in
    record {
      propagates = propagates_two bans start second c.apply_bans.new.domains (propagates_two bans start c.delete_ways.new.domains second c.in_ok-delete_ways.ensures c.in_ok-delete_ways-2.ensures) c.in_ok-found.ensures.propagates;
      conflict = search rules;
    }
