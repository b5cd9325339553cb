use Rattle.std.proofs.Common.{rules}
use Rattle.pair_search.proofs.StepLemmas.{propagates_two}
use Rattle.pair_search.proofs.propagation.follow_deleted.Goals as goal

pub returns : goal.returns
returns c = record {
  propagates = propagates_two c.args.bans.now c.args.domains.now c.follow_port.new.domains c.follow_port-2.new.domains c.in_ok-conflict.ensures.propagates c.in_ok-found.ensures.propagates;
  conflict = search rules;
}
