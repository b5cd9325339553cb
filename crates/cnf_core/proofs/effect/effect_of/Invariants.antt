use Rattle.cnf_core.proofs.EffectLemmas.{IsLooked}
use Rattle.cnf_core.proofs.effect.effect_of.Given as goal

abbrev pub invariant-loop-literal : goal.invariant-loop-literal
invariant-loop-literal g l =
    IsLooked (g.A.Assignment.made l.assignment) l.clause (g.A.Assignment.can_ask l.assignment) l.literal-index l.left
