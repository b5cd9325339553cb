use Rattle.hier_blif.proofs.LimitLemmas.{many_inputs}
use Rattle.hier_blif.proofs.limits.check_limits.Goals as goal

pub returns-in-Some : goal.returns-in-Some
returns-in-Some c = record {
  few = tt;
  fault = many_inputs c.args.lines.now c.in-Some.at c.fault_at.result c.in-Some.ensures c.fault_at.ensures;
}
