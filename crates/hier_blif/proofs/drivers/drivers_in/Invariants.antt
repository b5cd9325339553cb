use Rattle.hier_blif.specs.Drivers.{IsDriving}
use Rattle.hier_blif.proofs.drivers.drivers_in.Given as goal

abbrev pub invariant-loop-line : goal.invariant-loop-line
invariant-loop-line l = IsDriving l.scope.models.now l.model.lines l.line-index l.before l.driven
