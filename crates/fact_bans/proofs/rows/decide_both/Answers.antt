use Rattle.std.proofs.Common.{refl}
use Rattle.fact_bans.proofs.FactLemmas.{decided_grows}
use Rattle.fact_bans.proofs.ServeLemmas.{served_one, served_then, serves_err, serves_ok}
use Rattle.fact_bans.proofs.rows.decide_both.Goals as goal

pub returns-in_err-down-clause-serves : goal.returns-in_err-down-clause-serves
returns-in_err-down-clause-serves g c =
    serves_err _ _ _ _ _ _ _ c.in_err-down.field-0.0 c.from_residual-in_err-down.ensures.1 (served_one _ _ _ _ _ c.in_ok-up.ensures.serves) c.in_err-down.ensures.serves

pub returns-clause-serves : goal.returns-clause-serves
returns-clause-serves g c =
    serves_ok _ _ _ _ _ _ refl (served_then _ _ _ _ _ _ (served_one _ _ _ _ _ c.in_ok-up.ensures.serves) (served_one _ _ _ _ _ c.in_ok-down.ensures.serves))

pub returns-clause-decided : goal.returns-clause-decided
returns-clause-decided g c = record {
  up = decided_grows _ _ _ _ _ c.in_ok-down.ensures.serves.grows c.in_ok-up.ensures.decided;
  down = c.in_ok-down.ensures.decided;
}
