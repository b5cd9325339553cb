use Rattle.std.proofs.Common.{◌≡◌, ◌++◌, [], sym, subst, ◌∙◌, arith}
use Rattle.std.proofs.lemmas.Option.{slice_get_within, get_or_from_slice_get}
use Rattle.text_core.specs.Piece.{Piece}
use Rattle.blif_reader.specs.Names.{is_redefined}
use Rattle.blif_reader.specs.Numbers.{names_of}
use Rattle.hier_blif.specs.declared.fault.HierKind.TheVariants as wrong
use Rattle.hier_blif.specs.Stops.{Finds}
use Rattle.hier_blif.specs.Names.{inputs_of}
use Rattle.hier_blif.specs.NameFaults.{at_words, found_in, redefined_faults}
use Rattle.hier_blif.specs.Scopes.{HasKeys, HasPorts}
use Rattle.hier_blif.proofs.FindLemmas.{passed_on}
use Rattle.hier_blif.proofs.PushLemmas.{zip_length, zip_at}
use Rattle.hier_blif.proofs.KeyLemmas.{keys_as_words}
use Rattle.hier_blif.proofs.names.Scope.number_names_of.Goals as goal

pub index-requires : goal.index-requires
index-requires c =
    let scope = c.args.self.now in
    omega (arith, zip_length HasPorts scope.models.now scope.ports.items c.requires.scope.ports, slice_get_within scope.models.now c.args.place c.args.model.now c.requires.there, scope.ports.ok.0)

pub returns-in_err-add_defined-clause-faults : goal.returns-in_err-add_defined-clause-faults
returns-in_err-add_defined-clause-faults c =
    let scope = c.args.self.now in
    let models = scope.models.now in
    let model = c.args.model.now in
    let place = c.args.place in
    let below = slice_get_within models place model c.requires.there in
    let ports = zip_at HasPorts models scope.ports.items place model c.index.result.now c.requires.scope.ports below (sym (get_or_from_slice_get models place model model c.requires.there)) c.index.ensures in
    let has = keys_as_words c.index.result.now.inputs.keys (inputs_of model) (names_of c.in_ok-names.names) ports.inputs c.in_ok-names.ensures in
    let found = subst (λ words. Finds (at_words wrong.Redefined (found_in (is_redefined (inputs_of model)) words)) c.add_defined.result) (c.deref.ensures.value ∙ c.in_ok-defined.ensures) (c.add_defined.ensures.faults (inputs_of model) has) in
    passed_on (redefined_faults models model) c.add_defined.result c.from_residual-in_err-add_defined.result _ c.in_err-add_defined.was c.from_residual-in_err-add_defined.ensures.1 found

pub returns : goal.returns
returns c =
    let scope = c.args.self.now in
    let models = scope.models.now in
    let model = c.args.model.now in
    let place = c.args.place in
    let below = slice_get_within models place model c.requires.there in
    let ports = zip_at HasPorts models scope.ports.items place model c.index.result.now c.requires.scope.ports below (sym (get_or_from_slice_get models place model model c.requires.there)) c.index.ensures in
    let has = keys_as_words c.index.result.now.inputs.keys (inputs_of model) (names_of c.in_ok-names.names) ports.inputs c.in_ok-names.ensures in
    let defined = c.deref.ensures.value ∙ c.in_ok-defined.ensures in
    record {
      faults = subst (λ words. at_words wrong.Redefined (found_in (is_redefined (inputs_of model)) words) ≡ []) defined (c.in_ok-add_defined.ensures.faults (inputs_of model) has);
      names = subst (λ words. HasKeys (λ (word : Piece). word.bytes) (inputs_of model ++ words) (names_of c.add_defined.new.names)) defined (c.in_ok-add_defined.ensures.names (inputs_of model) has);
    }
