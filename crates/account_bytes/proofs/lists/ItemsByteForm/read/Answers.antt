-- The values after a list's length.
use Rattle.account_bytes.proofs.ListLemmas.{list_read}
use Rattle.account_bytes.proofs.lists.ItemsByteForm.read.Goals as goal

pub returns : goal.returns
returns g c = list_read g.T.ByteForm.bytes g.T.ByteForm.fits c.args.text.now c.read.new.text c.read_items.new.text c.in_ok-count.count c.read_items.result g.met.T.ByteForm.code c.in_ok-count.ensures c.read_items.ensures
