-- The matching that is accepted is a match of the graphs.
use Rattle.check_steps.proofs.report.report_named.Goals as goal

pub put_match-requires-clause-inputs : goal.put_match-requires-clause-inputs
put_match-requires-clause-inputs c = (c.requires c.in-AcceptedMatch.matching c.in-AcceptedMatch.is).same_inputs

pub put_match-requires-clause-outputs : goal.put_match-requires-clause-outputs
put_match-requires-clause-outputs c = (c.requires c.in-AcceptedMatch.matching c.in-AcceptedMatch.is).same_outputs
