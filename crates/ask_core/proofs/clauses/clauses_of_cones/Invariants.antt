-- The clauses of the numbers so far.
use Rattle.std.proofs.Common.{map, take}
use Rattle.cnf_core.specs.Clauses.{clause_at}
use Rattle.claim_core.specs.Formulas.{formula_of}
use Rattle.ask_core.specs.Renamings.{AreOver}
use Rattle.ask_core.proofs.clauses.clauses_of_cones.Given as goal

abbrev pub invariant-loop-id : goal.invariant-loop-id
invariant-loop-id l = AreOver (formula_of l.cones.graphs l.cones.query).variables (map (clause_at (formula_of l.cones.graphs l.cones.query).clauses) (take l.id-index l.cones.ids)) l.clauses.items
