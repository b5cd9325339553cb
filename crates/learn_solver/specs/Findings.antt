-- What a search found.
use Rattle.cnf_core.specs.Derivations.{IsRefutation}
use Rattle.learn_solver.specs.declared.verdict.Finding.{Finding}
use Rattle.learn_solver.specs.declared.verdict.Finding.TheVariants.{Model, Refuted}
use Rattle.learn_solver.specs.Solvers.{IsModel, Solving}

-- a model of the wanted clauses, or the solver's lines refute the formula
abbrev pub IsFinding : Solving → Finding → Type 0
IsFinding solving (Model values) = IsModel solving values
IsFinding solving Refuted = IsRefutation solving.formula solving.lines
