use Rattle.account_bytes.proofs.ListLemmas.{HasPut}
use Rattle.account_bytes.proofs.lists.put_list.Given as goal

abbrev pub invariant-loop-item : goal.invariant-loop-item
invariant-loop-item g l = HasPut g.T.ByteForm.bytes g.T.ByteForm.fits l.list l.item-index l.fn.out.items l.out.items
