use Rattle.claim_core.specs.Formulas.{formula_of}
use Rattle.joint_hash.specs.Merging.{AreLemmas}
use Rattle.joint_hash.proofs.needed.add_needed.Given as goal

abbrev pub invariant-loop-turn : goal.invariant-loop-turn
invariant-loop-turn l = AreLemmas (formula_of l.cones.graphs l.cones.query) l.lemmas.items
