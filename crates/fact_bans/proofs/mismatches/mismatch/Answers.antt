use Rattle.std.proofs.Common.{refl}
use Rattle.fact_bans.proofs.CarryLemmas.{carry_one}
use Rattle.fact_bans.proofs.MakingLemmas.{made_same, makes_ok}
use Rattle.fact_bans.proofs.mismatches.mismatch.Goals as goal

pub returns-in_default-clause-makes : goal.returns-in_default-clause-makes
returns-in_default-clause-makes g c = makes_ok _ _ _ _ _ _ _ _ _ refl (made_same _ _ _ _ c.requires.may)

pub keep_carried-requires-clause-carry : goal.keep_carried-requires-clause-carry
keep_carried-requires-clause-carry g c = carry_one _ _ _ _ _ c.requires.input c.requires.output c.carry-carried.ensures.claim c.carry-carried.ensures.image
