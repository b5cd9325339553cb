use Rattle.std.proofs.Common.{arith}
use Rattle.hier_blif.specs.NameFaults.{undefined_faults}
use Rattle.hier_blif.specs.Scopes.{HasNames}
use Rattle.hier_blif.proofs.FindLemmas.{left_more, left_stop, left_none}
use Rattle.hier_blif.proofs.PushLemmas.{zip_length, zip_at}
use Rattle.hier_blif.proofs.names.Scope.check_read.Goals as goal

pub bounds-names-place : goal.bounds-names-place
bounds-names-place c =
    let models = c.args.self.now.models.now in
    omega (arith, zip_length (HasNames models) models c.args.names.now c.requires.names, c.loop-place-test.true)

pub check_read_of-requires : goal.check_read_of-requires
check_read_of-requires c =
    let models = c.args.self.now.models.now in
    record {
      scope = c.requires.scope;
      names = zip_at (HasNames models) models c.args.names.now c.loop-place.place c.model-item.result c.index-names-place.result c.requires.names c.loop-place-test.true c.model-item.is c.index-names-place.is;
    }

pub loop-place-preserved : goal.loop-place-preserved
loop-place-preserved c =
    let models = c.args.self.now.models.now in
    left_more (undefined_faults models) models c.loop-place.place c.model-item.result c.loop-place-test.true c.model-item.is c.loop-place.invariant c.in_ok-check_read_of.ensures

pub returns-in_err-check_read_of : goal.returns-in_err-check_read_of
returns-in_err-check_read_of c =
    let models = c.args.self.now.models.now in
    left_stop (undefined_faults models) models c.loop-place.place c.model-item.result c.check_read_of.result c.from_residual.result _ c.loop-place-test.true c.model-item.is c.loop-place.invariant c.in_err-check_read_of.was c.from_residual.ensures.1 c.check_read_of.ensures

pub returns : goal.returns
returns c =
    let models = c.args.self.now.models.now in
    left_none (undefined_faults models) models c.loop-place.place c.loop-place-test.false c.loop-place.invariant
