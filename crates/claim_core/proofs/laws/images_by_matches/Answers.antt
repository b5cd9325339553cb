use Rattle.claim_core.proofs.ImageLaws.{image_holds, image_placed}
use Rattle.claim_core.proofs.laws.images_by_matches.Goals as goal

pub returns : goal.returns
returns c = record { holds = image_holds; placed = image_placed }
