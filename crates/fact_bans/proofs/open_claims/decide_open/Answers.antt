use Rattle.std.proofs.Common.{refl}
use Rattle.fact_bans.proofs.AskingLemmas.{same_none, same_then}
use Rattle.fact_bans.proofs.ServeLemmas.{ask_later, served_one, served_same, served_then, serves_err, serves_memory, serves_ok}
use Rattle.fact_bans.proofs.open_claims.decide_open.Goals as goal

pub loop-place-init : goal.loop-place-init
loop-place-init g c = (same_none, served_same _ _ c.facts-facts.ensures.lawful c.requires.may.suits)

pub decide_at-requires : goal.decide_at-requires
decide_at-requires g c = record { may = ask_later _ _ _ _ _ c.requires.may c.loop-place.invariant.1 }

pub loop-place-preserved : goal.loop-place-preserved
loop-place-preserved g c =
    (same_then c.loop-place.invariant.0 c.in_ok-decide_at.ensures.same, served_then _ _ _ _ _ _ c.loop-place.invariant.1 (served_one _ _ _ _ _ c.in_ok-decide_at.ensures.serves))

pub returns-in_err-first-clause-serves : goal.returns-in_err-first-clause-serves
returns-in_err-first-clause-serves g c =
    serves_memory _ _ _ _ _ c.from_residual.ensures.1 (served_same _ _ c.facts-facts.ensures.lawful c.requires.may.suits)

pub returns-in_err-second-clause-serves : goal.returns-in_err-second-clause-serves
returns-in_err-second-clause-serves g c =
    serves_memory _ _ _ _ _ c.from_residual-in_err-second.ensures.1 (served_same _ _ c.facts-facts.ensures.lawful c.requires.may.suits)

pub returns-in_err-decide_at-clause-serves : goal.returns-in_err-decide_at-clause-serves
returns-in_err-decide_at-clause-serves g c =
    serves_err _ _ _ _ _ _ _ c.in_err-decide_at.field-0.0 c.from_residual-in_err-decide_at.ensures.1 c.loop-place.invariant.1 c.in_err-decide_at.ensures.serves

pub returns-clause-serves : goal.returns-clause-serves
returns-clause-serves g c = serves_ok _ _ _ _ _ _ refl c.loop-place.invariant.1
