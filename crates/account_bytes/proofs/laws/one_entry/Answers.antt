use Rattle.account_bytes.proofs.EntryLemmas.{entry_code}
use Rattle.account_bytes.proofs.laws.one_entry.Goals as goal

pub returns : goal.returns
returns c = entry_code
