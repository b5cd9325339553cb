-- Numbers that say no place.
use Rattle.std.proofs.Common.{◌≡◌, ℕ, zero, suc, List, ◌∷◌, map, replicate, Option, None, refl, ap}
use Rattle.pair_domains.specs.Packed.{place_of}

pub no_places : (count : ℕ) → map place_of (replicate count 0) ≡ replicate count None
no_places zero = refl
no_places (suc count) = ap (λ (ps : List (Option ℕ)). None ∷ ps) (no_places count)
