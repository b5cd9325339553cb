use Rattle.std.proofs.Common.{ap, ◌∙◌}
use Rattle.std.specs.Str.{bytes_eq}
use Rattle.hier_blif.specs.Scopes.{number_of}
use Rattle.hier_blif.proofs.EntryLemmas.{lookup_kept}
use Rattle.hier_blif.proofs.numbers.NameNumbers.get.Goals as goal

pub returns : goal.returns
returns c =
    let name = c.args.name.now in
    c.copied.ensures
    ∙ (c.get.ensures.value ∙ (lookup_kept (bytes_eq name) c.self.inside.inside.entries ∙ ap (λ numbers. number_of numbers name) c.self.view_is))
