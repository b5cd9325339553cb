use Rattle.hier_blif.specs.NameFaults.{name_faults}
use Rattle.hier_blif.proofs.FindLemmas.{passed_on}
use Rattle.hier_blif.proofs.names.check_names.Goals as goal

pub returns-in_err-_scope : goal.returns-in_err-_scope
returns-in_err-_scope c =
    passed_on (name_faults c.args.models.now) c.scope_of.result c.from_residual.result _ c.in_err-_scope.was c.from_residual.ensures.1 c.scope_of.ensures.names
