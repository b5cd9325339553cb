-- A place and one says that place.
use Rattle.std.proofs.Common.{◌≡◌, ℕ, suc, ◌+◌, Option, Some, List, map, slice_set, ap, ◌∙◌, arith}
use Rattle.std.proofs.lemmas.List.{map-set}
use Rattle.pair_domains.specs.Packed.{place_of}
use Rattle.pair_domains.proofs.places.Places.put.Goals as goal

pub returns-clause-put : goal.returns-clause-put
returns-clause-put c =
    let place = c.args.place in
    let next : place + 1 ≡ suc place = omega arith in
    map-set place_of c.self.inside.numbers.items c.args.number (place + 1)
    ∙ (ap (λ n. slice_set (map place_of c.self.inside.numbers.items) c.args.number (place_of n)) next ∙ ap (λ (ps : List (Option ℕ)). slice_set ps c.args.number (Some place)) c.self.view_is)
