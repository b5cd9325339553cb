use Rattle.std.proofs.Common.{[], subst, ◌∙◌}
use Rattle.blif_reader.specs.Names.{is_undefined}
use Rattle.blif_reader.specs.Numbers.{names_of}
use Rattle.hier_blif.specs.declared.fault.HierKind.TheVariants as wrong
use Rattle.hier_blif.specs.Stops.{Finds}
use Rattle.hier_blif.specs.Names.{inputs_of, defined_in}
use Rattle.hier_blif.specs.NameFaults.{where_wrong}
use Rattle.hier_blif.proofs.KeyLemmas.{undefined_told}
use Rattle.hier_blif.proofs.names.Scope.check_read_of.Goals as goal

pub returns : goal.returns
returns c =
    let models = c.args.self.now.models.now in
    let model = c.args.model.now in
    let test = is_undefined (inputs_of model) (defined_in models model) [] in
    subst (λ words. Finds (where_wrong wrong.Undefined test words) c.check_known.result) (c.deref.ensures.value ∙ c.in_ok-read.ensures) (c.check_known.ensures test (λ word. undefined_told models model (names_of c.args.names.now) word c.requires.names))
