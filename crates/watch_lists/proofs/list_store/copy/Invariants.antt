use Rattle.watch_lists.proofs.SpanLemmas.{AreCopied}
use Rattle.watch_lists.proofs.list_store.copy.Given as goal

abbrev pub invariant-loop-k : goal.invariant-loop-k
invariant-loop-k l = AreCopied l.fn.watches.items l.watches.items l.from l.to l.k
