-- The clauses of the numbers, and those of the lemmas so far.
use Rattle.std.proofs.Common.{map, take, ◌++◌}
use Rattle.cnf_core.specs.Clauses.{clause_at}
use Rattle.cnf_core.specs.Derivations.{clauses_of}
use Rattle.claim_core.specs.Formulas.{formula_of}
use Rattle.ask_core.specs.Renamings.{AreOver}
use Rattle.ask_core.proofs.clauses.all_clauses.Given as goal

abbrev pub invariant-loop-line : goal.invariant-loop-line
invariant-loop-line l = AreOver (formula_of l.cones.graphs l.cones.query).variables (map (clause_at (formula_of l.cones.graphs l.cones.query).clauses) l.cones.ids ++ clauses_of (take l.line-index l.lemmas)) l.clauses.items
