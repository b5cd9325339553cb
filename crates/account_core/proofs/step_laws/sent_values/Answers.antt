-- Each place has one pair of an input that goes there, or none.
use Rattle.account_core.proofs.SentOnly.{sent_is, sent_only}
use Rattle.account_core.proofs.step_laws.sent_values.Goals as goal

pub returns : goal.returns
returns c = record { are = sent_is; only = sent_only }
