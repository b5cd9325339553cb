use Rattle.hier_blif.specs.declared.fault.HierKind.TheVariants as wrong
use Rattle.hier_blif.specs.NameFaults.{model_faults}
use Rattle.hier_blif.proofs.FindLemmas.{told_at}
use Rattle.hier_blif.proofs.LookUpLemmas.{is_there, not_there}
use Rattle.hier_blif.proofs.names.Scope.check_model.Goals as goal

pub returns-then-place_of-self : goal.returns-then-place_of-self
returns-then-place_of-self c =
    is_there c.args.self.now.models.now c.args.line.now c.place_of.result c.place_of.ensures c.if-place_of-self.true

pub returns : goal.returns
returns c =
    let models = c.args.self.now.models.now in
    let line = c.args.line.now in
    told_at (model_faults models line) wrong.NoModel c.at.result c.fault_at.result c.fault_at.ensures (not_there models line c.place_of.result c.at.result c.place_of.ensures c.if-place_of-self.false c.at.ensures.value)
