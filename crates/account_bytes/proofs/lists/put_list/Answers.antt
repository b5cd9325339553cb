-- One value more, and then all.
use Rattle.std.proofs.Common.{◌++◌, ap, subst, ◌∙◌}
use Rattle.account_bytes.proofs.ListLemmas.{fit_all, put_all, put_begun, put_next}
use Rattle.account_bytes.proofs.lists.put_list.Goals as goal

pub loop-item-init : goal.loop-item-init
loop-item-init g c = put_begun g.T.ByteForm.bytes g.T.ByteForm.fits c.args.list.now c.args.out.now.items c.put_count.new.out.items c.in_ok-put_count.ensures.bytes

pub loop-item-preserved : goal.loop-item-preserved
loop-item-preserved g c =
    let text = c.in_ok-put.ensures.bytes ∙ ap (λ x. c.loop-item.out.items ++ g.T.ByteForm.bytes x) c.item-item.is in
    put_next g.T.ByteForm.bytes g.T.ByteForm.fits c.args.list.now c.loop-item.item-index c.item-item.result c.args.out.now.items c.loop-item.out.items c.put.new.out.items c.loop-item-test.true c.loop-item.invariant text (subst g.T.ByteForm.fits c.item-item.is c.in_ok-put.ensures.fits)

pub returns-clause-bytes : goal.returns-clause-bytes
returns-clause-bytes g c = put_all g.T.ByteForm.bytes g.T.ByteForm.fits c.args.list.now c.loop-item.item-index c.args.out.now.items c.loop-item.out.items c.loop-item-test.false c.loop-item.invariant

pub returns-clause-fits : goal.returns-clause-fits
returns-clause-fits g c = fit_all g.T.ByteForm.bytes g.T.ByteForm.fits c.args.list.now c.loop-item.item-index c.args.out.now.items c.loop-item.out.items c.loop-item-test.false c.in_ok-put_count.ensures.few c.loop-item.invariant
