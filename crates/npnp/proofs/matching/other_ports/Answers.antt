-- The account that the numbers of ports differ is accepted, so there is no match.
use Rattle.run_steps.proofs.AnswerLemmas.{answer_other_ports}
use Rattle.npnp.proofs.matching.other_ports.Goals as goal

pub returns : goal.returns
returns c = answer_other_ports _ _ c.first-first.ensures.sound c.second-second.ensures.sound c.requires c.in_ok-of_other_ports.ensures.records
