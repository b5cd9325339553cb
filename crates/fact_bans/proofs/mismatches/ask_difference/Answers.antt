use Rattle.fact_bans.proofs.CarryLemmas.{carry_one}
use Rattle.fact_bans.proofs.mismatches.ask_difference.Goals as goal

pub unlike_by-requires-clause-claim : goal.unlike_by-requires-clause-claim
unlike_by-requires-clause-claim g c =
    (carry_one _ _ _ _ _ c.requires.input c.requires.output c.carry-carried.ensures.claim c.carry-carried.ensures.image).claim_placed

pub unlike_by-requires-clause-image : goal.unlike_by-requires-clause-image
unlike_by-requires-clause-image g c =
    (carry_one _ _ _ _ _ c.requires.input c.requires.output c.carry-carried.ensures.claim c.carry-carried.ensures.image).image_placed

pub returns-clause-shown : goal.returns-clause-shown
returns-clause-shown g c =
    c.unlike_by.ensures.shown _ (carry_one _ _ _ _ _ c.requires.input c.requires.output c.carry-carried.ensures.claim c.carry-carried.ensures.image)
