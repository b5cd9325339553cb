-- No pair has a place yet.
use Rattle.std.proofs.Common.{map, ap, ◌∙◌}
use Rattle.pair_domains.specs.Packed.{place_of}
use Rattle.pair_domains.proofs.PackedLemmas.{no_places}
use Rattle.pair_domains.proofs.places.Places.new.Goals as goal

pub returns : goal.returns
returns c = ap (map place_of) (c.in_ok-vec.ensures.items_if_clones_equal (λ y e. e)) ∙ no_places c.args.count
