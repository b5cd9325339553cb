use Rattle.std.proofs.Common.{length}
use Rattle.account_convert.proofs.PutDropLemmas.{IsPutting}
use Rattle.account_convert.proofs.binary_writer.put_drops.Given as goal

abbrev pub invariant-loop-number : goal.invariant-loop-number
invariant-loop-number l = IsPutting l.of l.record_number l.fn.due l.due l.fn.out.items l.out.items

abbrev pub decreases-loop-number : goal.decreases-loop-number
decreases-loop-number l = length l.due
