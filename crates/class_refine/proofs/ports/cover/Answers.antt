use Rattle.class_refine.proofs.StableLemmas.{covers_conflict}
use Rattle.class_refine.proofs.ports.cover.Goals as goal

pub returns-clause-found : goal.returns-clause-found
returns-clause-found c = covers_conflict c.conflict_set_of.new.book _ c.in_ok-set.set c.in_ok-set.ensures.conflict
