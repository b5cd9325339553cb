-- Its records are taken, up to the end.
use Rattle.account_write.proofs.RefusalLemmas.{none_ports_accepted}
use Rattle.account_write.proofs.laws.none_ports_is_accepted.Goals as goal

pub returns : goal.returns
returns c = none_ports_accepted
