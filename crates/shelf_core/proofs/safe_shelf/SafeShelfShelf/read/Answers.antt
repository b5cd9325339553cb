use Rattle.shelf_core.proofs.Pieces.{read_is}
use Rattle.shelf_core.proofs.safe_shelf.SafeShelfShelf.read.Goals as goal

pub returns-clause-reads : goal.returns-clause-reads
returns-clause-reads c = rw c.in-Reading.is (read_is _ c.in-Reading.place c.in-Reading.at _ _ _ _ (rw (← c.deref.ensures.value) c.bytes_at.ensures) c.copy_some-count.ensures.within c.copy_some-count.ensures.read c.copy_some-count.ensures.some c.copy_some-count.ensures.copied)
