use Rattle.fact_bans.proofs.MakingLemmas.{made_same, makes_stop}
use Rattle.fact_bans.proofs.refusal.bans_in.Goals as goal

pub returns-in_err-ways-clause-makes : goal.returns-in_err-ways-clause-makes
returns-in_err-ways-clause-makes g c =
    makes_stop _ _ _ _ _ _ _ _ c.from_residual.ensures.1 (made_same _ _ _ _ c.requires.may)
