use Rattle.std.proofs.Common.{refl}
use Rattle.fact_bans.proofs.CarryLemmas.{carry_two}
use Rattle.fact_bans.proofs.MakingLemmas.{made_same, makes_ok, makes_stop}
use Rattle.fact_bans.proofs.exchanges.by_values.Goals as goal

pub returns-in_err-look_at_swaps-clause-makes : goal.returns-in_err-look_at_swaps-clause-makes
returns-in_err-look_at_swaps-clause-makes g c =
    makes_stop _ _ _ _ _ _ _ _ c.from_residual.ensures.1 (made_same _ _ _ _ c.requires.may)

pub returns-in_default-clause-makes : goal.returns-in_default-clause-makes
returns-in_default-clause-makes g c = makes_ok _ _ _ _ _ _ _ _ _ refl (made_same _ _ _ _ c.requires.may)

pub keep_carried-requires-clause-carry : goal.keep_carried-requires-clause-carry
keep_carried-requires-clause-carry g c = carry_two _ _ _ _ _ c.requires.pairs c.requires.before c.requires.apart c.carried-carried.ensures.claim c.carried-carried.ensures.image
