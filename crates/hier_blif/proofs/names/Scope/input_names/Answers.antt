use Rattle.std.proofs.Common.{arith}
use Rattle.std.proofs.lemmas.List.{get_or_default}
use Rattle.hier_blif.specs.Models.{no_name, empty_model}
use Rattle.hier_blif.specs.Scopes.{model_at, HasPorts}
use Rattle.hier_blif.proofs.PushLemmas.{zip_length, zip_at}
use Rattle.hier_blif.proofs.names.Scope.input_names.Goals as goal

pub index-requires : goal.index-requires
index-requires c =
    let scope = c.args.self.now in
    omega (arith, zip_length HasPorts scope.models.now scope.ports.items c.requires.scope.ports, c.requires.there, scope.ports.ok.0)

pub returns : goal.returns
returns c =
    let scope = c.args.self.now in
    let models = scope.models.now in
    let place = c.args.place in
    let model = model_at models place in
    (zip_at HasPorts models scope.ports.items place model c.index.result.now c.requires.scope.ports c.requires.there (get_or_default models place (empty_model 0 no_name) model c.requires.there) c.index.ensures).inputs
