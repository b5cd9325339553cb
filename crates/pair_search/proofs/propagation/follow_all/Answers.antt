use Rattle.std.proofs.Common.{rules}
use Rattle.pair_search.proofs.StepLemmas.{propagates_two}
use Rattle.pair_search.proofs.propagation.follow_all.Goals as goal

pub returns-in-Some-found : goal.returns-in-Some-found
returns-in-Some-found c = record {
  propagates = propagates_two c.args.bans.now c.args.domains.now c.loop-queue.domains c.follow.new.domains c.loop-queue.invariant c.in_ok-found.ensures.propagates;
  conflict = search rules;
}

pub loop-queue-preserved : goal.loop-queue-preserved
loop-queue-preserved c =
    propagates_two c.args.bans.now c.args.domains.now c.loop-queue.domains c.follow.new.domains c.loop-queue.invariant c.in_ok-found.ensures.propagates
