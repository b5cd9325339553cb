use Rattle.std.proofs.Common.{rules}
use Rattle.pair_search.proofs.propagation.propagate.Goals as goal

pub returns-in-Some-2 : goal.returns-in-Some-2
returns-in-Some-2 c = record { propagates = c.in_ok-conflict.ensures.propagates; conflict = search rules }
