use Rattle.std.proofs.Common.{ap, sym, ◌∙◌}
use Rattle.std.specs.List.{list_any, list_all}
use Rattle.std.specs.Str.{bytes_eq}
use Rattle.text_core.specs.Piece.{Piece}
use Rattle.blif_reader.specs.Numbers.{names_of}
use Rattle.hier_blif.specs.Names.{inputs_of}
use Rattle.hier_blif.specs.Scopes.{model_at}
use Rattle.hier_blif.proofs.LookUpLemmas.{ports_read, no_ports_read, all_named}
use Rattle.hier_blif.proofs.names.Scope.binds_inputs.Goals as goal

pub returns-in-Some : goal.returns-in-Some
returns-in-Some c =
    let scope = c.args.self.now in
    let place = c.args.place in
    let ports = c.in-Some.ports.now in
    let formals = names_of c.args.formals.now in
    let has = ports_read scope.models.now scope.ports.items c.deref.result.now place ports c.deref.ensures.value c.requires.ports c.in-Some.ensures.lookup.3.0 c.in-Some.ensures.lookup.1 in
    c.has_all.ensures
    ∙ all_named (λ name. list_any (bytes_eq name) formals) (inputs_of (model_at scope.models.now place)) (names_of ports.inputs) has.inputs

pub returns-in-None : goal.returns-in-None
returns-in-None c =
    let scope = c.args.self.now in
    let none = no_ports_read scope.models.now scope.ports.items c.deref.result.now c.args.place c.deref.ensures.value c.requires.ports c.in-None.ensures.lookup.3 in
    sym (ap (λ model. list_all (λ (input : Piece). list_any (bytes_eq input.bytes) (names_of c.args.formals.now)) (inputs_of model)) none)
