use Rattle.std.proofs.Common.{ap, sym, ◌∙◌}
use Rattle.hier_blif.specs.Names.{has_name}
use Rattle.hier_blif.specs.Scopes.{number_of}
use Rattle.hier_blif.proofs.LookUpLemmas.{some_place, no_place}
use Rattle.hier_blif.proofs.names.Scope.place_of.Goals as goal

pub returns-in-Some : goal.returns-in-Some
returns-in-Some c =
    let name = c.args.line.now.model.bytes in
    let models = c.args.self.now.models.now in
    let found = sym (c.requires.places name) ∙ (ap (number_of c.args.self.now.places) (sym c.bytes.ensures.value) ∙ (sym c.get.ensures ∙ c.in-Some.is)) in
    some_place (has_name name) models c.in-Some.place found

pub returns-in-None : goal.returns-in-None
returns-in-None c =
    let name = c.args.line.now.model.bytes in
    let models = c.args.self.now.models.now in
    let found = sym (c.requires.places name) ∙ (ap (number_of c.args.self.now.places) (sym c.bytes.ensures.value) ∙ (sym c.get.ensures ∙ c.in-None.is)) in
    no_place (has_name name) models found
