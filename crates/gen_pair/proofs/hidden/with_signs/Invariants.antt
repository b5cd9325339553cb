-- The places so far have signs.
use Rattle.std.proofs.Common.{◌≡◌, map, take}
use Rattle.gen_pair.specs.Shuffles.{signed_places}
use Rattle.gen_pair.proofs.hidden.with_signs.Given as goal

abbrev pub invariant-loop-place : goal.invariant-loop-place
invariant-loop-place l = record {
  places : map (λ port. port.0) l.ports ≡ take l.place-index l.places;
  drawn : (l.ports, l.random) ≡ signed_places l.places l.place-index l.initial.random;
}
