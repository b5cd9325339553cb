use Rattle.std.proofs.Common.{◌≡◌, length}
use Rattle.byte_form.specs.Codes.{HasItems}
use Rattle.account_bytes.proofs.lists.read_items.Given as goal

abbrev pub invariant-loop-item : goal.invariant-loop-item
invariant-loop-item g l = record {
  has : HasItems g.T.ByteForm.bytes g.T.ByteForm.fits l.fn.text l.items l.text;
  count : length l.items ≡ l._item;
}
