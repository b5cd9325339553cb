-- A graph's ports are numbers of 32 bits; the account is accepted.
use Rattle.std.proofs.Common.{arith}
use Rattle.run_steps.proofs.AnswerLemmas.{answer_matched}
use Rattle.npnp.proofs.matching.matched.Goals as goal

pub of_match-requires-clause-inputs : goal.of_match-requires-clause-inputs
of_match-requires-clause-inputs c = omega (arith, c.requires.is_match.inputs.entries, c.first-first.ensures.sound.signals)

pub of_match-requires-clause-outputs : goal.of_match-requires-clause-outputs
of_match-requires-clause-outputs c = omega (arith, c.requires.is_match.outputs.entries, c.first-first.ensures.sound.outputs)

pub returns : goal.returns
returns c = answer_matched _ _ _ _ c.requires c.in_ok-account.ensures.records c.in_ok-account.ensures.writable
