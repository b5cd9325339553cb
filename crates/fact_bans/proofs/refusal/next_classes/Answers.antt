use Rattle.std.proofs.Common.{refl}
use Rattle.fact_bans.proofs.ServeLemmas.{served_same, serves_memory, serves_ok}
use Rattle.fact_bans.proofs.refusal.next_classes.Goals as goal

pub returns-in_err-classes_of-clause-serves : goal.returns-in_err-classes_of-clause-serves
returns-in_err-classes_of-clause-serves g c =
    serves_memory _ _ _ _ _ c.from_residual.ensures.1 (served_same _ _ c.facts-facts.ensures.lawful c.requires.may.suits)

pub returns-then-tried-ne1-clause-serves : goal.returns-then-tried-ne1-clause-serves
returns-then-tried-ne1-clause-serves g c =
    serves_ok _ _ _ _ _ _ refl (served_same _ _ c.facts-facts.ensures.lawful c.requires.may.suits)
