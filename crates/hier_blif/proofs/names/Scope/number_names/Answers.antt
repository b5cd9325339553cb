use Rattle.std.proofs.Common.{◌+◌, take, refl, sym, subst}
use Rattle.std.specs.List.{AllZip}
use Rattle.std.proofs.lemmas.Option.{slice_get_read}
use Rattle.hier_blif.specs.NameFaults.{redefined_faults}
use Rattle.hier_blif.specs.Scopes.{HasNames}
use Rattle.hier_blif.proofs.FindLemmas.{left_more, left_stop, left_none}
use Rattle.hier_blif.proofs.PushLemmas.{zip_more, zip_all}
use Rattle.hier_blif.proofs.names.Scope.number_names.Goals as goal

pub number_names_of-requires : goal.number_names_of-requires
number_names_of-requires c = record {
  scope = c.requires;
  there = slice_get_read c.args.self.now.models.now _ c.loop-place.place c.model-item.result refl c.loop-place-test.true c.model-item.is;
}

pub loop-place-preserved : goal.loop-place-preserved
loop-place-preserved c =
    let models = c.args.self.now.models.now in
    let k = c.loop-place.place in
    let model = c.model-item.result in
    let told = c.in_ok-number_names_of.ensures in
    (left_more (redefined_faults models) models k model c.loop-place-test.true c.model-item.is c.loop-place.invariant.0 told.faults, subst (AllZip (HasNames models) (take (k + 1) models)) (sym c.in_ok-push.ensures.items) (zip_more (HasNames models) models c.loop-place.all.items k model c.in_ok-number_names_of.field-0 c.loop-place-test.true c.model-item.is c.loop-place.invariant.1 told.names))

pub returns-in_err-number_names_of-clause-faults : goal.returns-in_err-number_names_of-clause-faults
returns-in_err-number_names_of-clause-faults c =
    let models = c.args.self.now.models.now in
    left_stop (redefined_faults models) models c.loop-place.place c.model-item.result c.number_names_of.result c.from_residual.result _ c.loop-place-test.true c.model-item.is c.loop-place.invariant.0 c.in_err-number_names_of.was c.from_residual.ensures.1 c.number_names_of.ensures.faults

pub returns : goal.returns
returns c =
    let models = c.args.self.now.models.now in
    record {
      faults = left_none (redefined_faults models) models c.loop-place.place c.loop-place-test.false c.loop-place.invariant.0;
      names = zip_all (HasNames models) models c.loop-place.all.items c.loop-place.place c.loop-place-test.false c.loop-place.invariant.1;
    }
