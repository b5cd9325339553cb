-- There are fewer clauses than lines can have numbers.
use Rattle.std.proofs.Common.{arith}
use Rattle.ask_core.proofs.base.DenseBaseBase.count.Goals as goal

pub returns-clause-few : goal.returns-clause-few
returns-clause-few c = omega (arith, c.len.ensures, c.self.inside.clauses.ok.0, c.self.invariant.fewer)
