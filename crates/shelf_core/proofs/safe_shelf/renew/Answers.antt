use Rattle.std.proofs.Common.{ap, ◌∙◌}
use Rattle.shelf_core.proofs.Files.{renewed}
use Rattle.shelf_core.proofs.safe_shelf.renew.Goals as goal

pub returns-in-Some-clause-others : goal.returns-in-Some-clause-others
returns-in-Some-clause-others c =
    renewed _ _ _ c.new-empty.result _ c.in-Some.place (ap (λ file. file.0) c.new-empty.ensures ∙ c.in_ok-from_str.ensures.ok) c.in_ok-insert.ensures.items (rw c.deref.ensures.value at c.in-Some.ensures.place) c.remove.ensures.items
