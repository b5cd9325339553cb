-- A claim or its vector isn't there.
use Rattle.account_bytes.specs.Entries.{BodyFits, entry_body, entry_tag}
use Rattle.account_bytes.proofs.EntryLemmas.{FailsFit, fails_bytes, fails_none}
use Rattle.account_bytes.specs.Reading.{OfTag}
use Rattle.account_bytes.proofs.ReadLemmas.{passed}
use Rattle.account_bytes.proofs.reading.read_fails.Goals as goal

pub returns-in_err-claim : goal.returns-in_err-claim
returns-in_err-claim c =
    passed fails_bytes FailsFit entry_body (OfTag entry_tag BodyFits 1) c.args.text.now c.read.new.text c.args.text.now c.read.new.text c.read.result c.from_residual.result _ c.in_err-claim.was c.from_residual.ensures.1 c.read.ensures (fails_none c.args.text.now)
