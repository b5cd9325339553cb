use Rattle.std.proofs.Common.{take}
use Rattle.pair_search.proofs.NamedLemmas.{AreGathered}
use Rattle.pair_search.proofs.gather.gather.Given as goal

abbrev pub invariant-loop-way : goal.invariant-loop-way
invariant-loop-way l = AreGathered l.bans l.view.domains.now.entries l.view.assigned.now l.fn.conflict.items l.conflict.items (take l.way-index l.ways) l.skipped l.noted.items
