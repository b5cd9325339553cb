use Rattle.account_file.proofs.BinaryLemmas.{record_code}
use Rattle.account_file.proofs.laws.one_record_in_bytes.Goals as goal

pub returns : goal.returns
returns c = record_code
