-- No value yet, one more, or none where one should be.
use Rattle.std.proofs.Common.{◌≡◌, ◌+◌, [], ◌∷◌, length, ap, sym, subst, ◌∙◌, arith, length-append}
use Rattle.byte_form.specs.Codes.{HasItems}
use Rattle.byte_form.proofs.CodeLemmas.{no_items}
use Rattle.account_bytes.proofs.ListLemmas.{items_stop, pushed_items}
use Rattle.account_bytes.proofs.lists.read_items.Goals as goal

pub loop-item-init : goal.loop-item-init
loop-item-init g c =
    let bytes = g.T.ByteForm.bytes in
    let Fits = g.T.ByteForm.fits in
    let text = c.args.text.now in record {
      has = subst (λ xs. HasItems bytes Fits text xs text) (sym c.in_ok-items.ensures) (no_items bytes Fits text);
      count = ap length c.in_ok-items.ensures;
    }

pub loop-item-preserved : goal.loop-item-preserved
loop-item-preserved g c =
    let l = c.loop-item in
    let item = c.in_ok-item.item in
    let longer = c.in_ok-push.ensures.ok in
    let count : length c.push.new.self ≡ length l.items + length (item ∷ []) = ap length longer ∙ length-append l.items (item ∷ []) in record {
      has = pushed_items g.T.ByteForm.bytes g.T.ByteForm.fits c.args.text.now l.text c.read.new.text l.items c.push.new.self item longer l.invariant.has c.in_ok-item.ensures;
      count = omega (arith, l.invariant.count, count);
    }

pub returns-in_err-item : goal.returns-in_err-item
returns-in_err-item g c =
    let l = c.loop-item in
    items_stop g.T.ByteForm.bytes g.T.ByteForm.fits c.args.count c.args.text.now l.text c.read.new.text c.read.new.text l.items c.read.result c.from_residual-in_err-item.result _ c.in_err-item.was c.from_residual-in_err-item.ensures.1 c.read.ensures l.invariant.has (omega (arith, l.invariant.count))
