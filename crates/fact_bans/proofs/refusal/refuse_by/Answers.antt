use Rattle.std.proofs.Common.{refl}
use Rattle.fact_bans.proofs.MakingLemmas.{made_same, makes_ok, makes_stop}
use Rattle.fact_bans.proofs.refusal.refuse_by.Goals as goal

pub returns-in_err-block-clause-makes : goal.returns-in_err-block-clause-makes
returns-in_err-block-clause-makes g c =
    makes_stop _ _ _ _ _ _ _ _ c.from_residual.ensures.1 (made_same _ _ _ _ c.requires.may)

pub returns-in_default-clause-makes : goal.returns-in_default-clause-makes
returns-in_default-clause-makes g c = makes_ok _ _ _ _ _ _ _ _ _ refl (made_same _ _ _ _ c.requires.may)
