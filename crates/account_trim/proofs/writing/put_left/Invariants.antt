use Rattle.account_trim.proofs.WriteLemmas.{IsWriting}
use Rattle.account_trim.proofs.writing.put_left.Given as goal

abbrev pub invariant-loop-place : goal.invariant-loop-place
invariant-loop-place l = IsWriting l.lower l.marks l.links l.fn.records.items l.fn.out.items l.place l.records.items l.out.items l.count
