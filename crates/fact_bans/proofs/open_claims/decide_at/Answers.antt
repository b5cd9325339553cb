use Rattle.std.proofs.Common.{refl, subst}
use Rattle.net_core.specs.Sides.{Graphs}
use Rattle.claim_core.specs.Claims.{IsClaim}
use Rattle.fact_bans.proofs.ServeLemmas.{served_one, served_same, serves_memory, serves_ok}
use Rattle.fact_bans.proofs.open_claims.decide_at.Goals as goal

pub decide-requires-clause-placed : goal.decide-requires-clause-placed
decide-requires-clause-placed g c =
    subst (λ (gr : Graphs). IsClaim gr c.in-Some.claim) c.requires.may.graphs_are (rw c.in-Some.is at c.claim_at.ensures)

pub returns-in_default-clause-serves : goal.returns-in_default-clause-serves
returns-in_default-clause-serves g c =
    serves_ok _ _ _ _ _ _ refl (served_same _ _ c.facts-facts.ensures.lawful c.requires.may.suits)

pub returns-clause-serves : goal.returns-clause-serves
returns-clause-serves g c = serves_ok _ _ _ _ _ _ refl (served_one _ _ _ _ _ c.in_ok-decided.ensures.serves)
