use Rattle.std.proofs.Common.{rules}
use Rattle.pair_search.proofs.StepLemmas.{propagates_two}
use Rattle.pair_search.proofs.propagation.apply_bans.Goals as goal

pub returns-in-Some : goal.returns-in-Some
returns-in-Some c = record {
  propagates = propagates_two c.args.bans.now c.args.domains.now c.loop-place.domains c.apply_watcher.new.domains c.loop-place.invariant c.in_ok-conflict.ensures.propagates;
  conflict = search rules;
}

pub loop-place-preserved : goal.loop-place-preserved
loop-place-preserved c =
    propagates_two c.args.bans.now c.args.domains.now c.loop-place.domains c.apply_watcher.new.domains c.loop-place.invariant c.in_ok-conflict.ensures.propagates
