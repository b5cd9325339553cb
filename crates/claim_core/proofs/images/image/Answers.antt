-- There is no image exactly where a port has no pair.
use Rattle.claim_core.proofs.ImageLemmas.{none_lacks}
use Rattle.claim_core.proofs.images.image.Goals as goal

pub returns-clause-none : goal.returns-clause-none
returns-clause-none c = none_lacks c.args.pairs.now c.args.claim.now c.moved_claim.result c.moved_claim.ensures
