-- Under a match an output's inputs go to its partner's.
use Rattle.account_core.proofs.ImageLemmas.{correspond}
use Rattle.account_core.proofs.TallyLemmas.{tally_contradicts}
use Rattle.account_core.proofs.step_laws.tally_excludes.Goals as goal

pub returns : goal.returns
returns c = λ graphs given pairs kind have lack. tally_contradicts graphs given pairs kind have lack (correspond graphs)
