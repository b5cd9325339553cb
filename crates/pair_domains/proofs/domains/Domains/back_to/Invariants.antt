use Rattle.std.proofs.Common.{length}
use Rattle.pair_domains.proofs.KeptLemmas.{IsGoingBack}
use Rattle.pair_domains.proofs.domains.Domains.back_to.Given as goal

abbrev pub invariant-loop-self : goal.invariant-loop-self
invariant-loop-self l = IsGoingBack l.fn.self l.self l.count

abbrev pub decreases-loop-self : goal.decreases-loop-self
decreases-loop-self l = length l.self.entries
