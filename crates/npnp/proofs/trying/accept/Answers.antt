-- A check says nothing else of an account that is accepted.
use Rattle.std.proofs.Common.{ap, ◌∙◌, Ok, Err}
use Rattle.run_steps.proofs.TryingLemmas.{no_refusal_answered, no_rejection_answered}
use Rattle.npnp.proofs.trying.accept.Goals as goal

pub unreachable-requires : goal.unreachable-requires
unreachable-requires c = no_refusal_answered _ _ c.check.result c.requires c.check.ensures.accepted (c.in-Ok-None.is ∙ ap Ok c.in-Ok-None.field-0-is)

pub unreachable-requires-in-Err-Rejected : goal.unreachable-requires-in-Err-Rejected
unreachable-requires-in-Err-Rejected c = no_rejection_answered _ _ _ _ c.check.result c.requires c.check.ensures.rejected (c.in-Err-Rejected.is ∙ ap Err c.in-Err-Rejected.field-0-is)
