-- The number 0 says no place.
use Rattle.std.proofs.Common.{ℕ, Option, None, List, slice_set, ap, ◌∙◌}
use Rattle.std.proofs.lemmas.List.{map-set}
use Rattle.pair_domains.specs.Packed.{place_of}
use Rattle.pair_domains.proofs.places.Places.clear.Goals as goal

pub returns : goal.returns
returns c = map-set place_of c.self.inside.numbers.items c.args.number 0 ∙ ap (λ (ps : List (Option ℕ)). slice_set ps c.args.number None) c.self.view_is
