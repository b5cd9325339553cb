-- The variables of the literals so far are listed.
use Rattle.std.proofs.Common.{length}
use Rattle.ask_core.proofs.BaseLemmas.{IsListing}
use Rattle.ask_core.proofs.occurring.list_all.Given as goal

abbrev pub invariant-loop-literal : goal.invariant-loop-literal
invariant-loop-literal l = IsListing (length l.fn.marked) l.fn.names.items l.names.items l.marked l.clause l.literal-index
