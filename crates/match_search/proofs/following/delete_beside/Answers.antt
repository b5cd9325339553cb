use Rattle.match_search.proofs.StepLemmas.{steps_stop, way_start}
use Rattle.match_search.proofs.following.delete_beside.Goals as goal

pub returns-in_err-ways-clause-steps : goal.returns-in_err-ways-clause-steps
returns-in_err-ways-clause-steps g c = steps_stop c.from_residual.ensures.1 (way_start c.requires.may)
