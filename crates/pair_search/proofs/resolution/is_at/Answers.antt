use Rattle.std.proofs.Common.{Contains, sym, subst, ◌∙◌}
use Rattle.std.proofs.lemmas.Bool.{false≢true}
use Rattle.std.proofs.lemmas.List.{get_or_default}
use Rattle.pair_search.proofs.resolution.is_at.Goals as goal

pub returns-clause-yes : goal.returns-clause-yes
returns-clause-yes c =
    λ t d. subst (Contains c.args.pairs.now) (get_or_default c.args.assigned.now c.args.place _ d c.requires) (c.contains.ensures.0 t)

pub returns-clause-no : goal.returns-clause-no
returns-clause-no c =
    λ f d there. false≢true (sym f ∙ c.contains.ensures.1 (subst (Contains c.args.pairs.now) (get_or_default c.args.assigned.now c.args.place d _ c.requires) there))
