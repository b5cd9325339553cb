use Rattle.std.proofs.Common.{ap, sym, ◌∙◌}
use Rattle.std.specs.List.{list_any}
use Rattle.std.specs.Str.{bytes_eq}
use Rattle.blif_reader.specs.Numbers.{names_of}
use Rattle.hier_blif.specs.Bindings.{formal_of}
use Rattle.hier_blif.specs.Names.{outputs_of, is_among}
use Rattle.hier_blif.specs.Scopes.{model_at}
use Rattle.hier_blif.proofs.LookUpLemmas.{ports_read, no_ports_read, among_named}
use Rattle.hier_blif.proofs.names.Scope.is_output.Goals as goal

pub returns-in-Some : goal.returns-in-Some
returns-in-Some c =
    let scope = c.args.self.now in
    let place = c.args.place in
    let ports = c.in-Some.ports.now in
    let formal = formal_of c.args.word.now.bytes in
    let has = ports_read scope.models.now scope.ports.items c.deref.result.now place ports c.deref.ensures.value c.requires.ports c.in-Some.ensures.lookup.3.0 c.in-Some.ensures.lookup.1 in
    c.is_one_of.ensures
    ∙ (ap (λ name. list_any (bytes_eq name) (names_of ports.outputs)) (c.formal_of.ensures ∙ ap formal_of c.bytes.ensures.value) ∙ among_named formal (outputs_of (model_at scope.models.now place)) (names_of ports.outputs) has.outputs)

pub returns-in-None : goal.returns-in-None
returns-in-None c =
    let scope = c.args.self.now in
    let none = no_ports_read scope.models.now scope.ports.items c.deref.result.now c.args.place c.deref.ensures.value c.requires.ports c.in-None.ensures.lookup.3 in
    sym (ap (λ model. is_among (formal_of c.args.word.now.bytes) (outputs_of model)) none)
