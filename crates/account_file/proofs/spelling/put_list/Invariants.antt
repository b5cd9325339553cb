use Rattle.account_file.proofs.ListLemmas.{Written}
use Rattle.account_file.proofs.spelling.put_list.Given as goal

abbrev pub invariant-loop-item : goal.invariant-loop-item
invariant-loop-item g l = Written g.T.Spell.word g.T.Spell.fits l.list l.item-index l.fn.out.items l.out.items
