-- A whole frame.
use Rattle.account_bytes.proofs.EntryLemmas.{frame_read}
use Rattle.account_bytes.proofs.reading.read_entry.Goals as goal

pub returns : goal.returns
returns c = frame_read c.args.text.now c.next_frame.new.text c.in-Some.tag c.in-Some.body.now c.entry_of.result c.in-Some.ensures.frame c.entry_of.ensures
