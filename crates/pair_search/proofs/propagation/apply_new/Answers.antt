use Rattle.std.proofs.Common.{rules}
use Rattle.pair_search.proofs.StepLemmas.{propagates_two}
use Rattle.pair_search.proofs.propagation.apply_new.Goals as goal

pub returns-in-Some : goal.returns-in-Some
returns-in-Some c = record {
  propagates = propagates_two c.args.bans.now c.args.domains.now c.loop-number.domains c.apply_ban.new.domains c.loop-number.invariant c.in_ok-conflict.ensures.propagates;
  conflict = search rules;
}

pub loop-number-preserved : goal.loop-number-preserved
loop-number-preserved c =
    propagates_two c.args.bans.now c.args.domains.now c.loop-number.domains c.apply_ban.new.domains c.loop-number.invariant c.in_ok-conflict.ensures.propagates
