-- The records so far, and those that are left.
use Rattle.std.proofs.Common.{◌≡◌, ◌++◌, drop}
use Rattle.account_trim.specs.Links.{links_from, links_of}
use Rattle.account_trim.specs.Places.{places_of, with_all}
use Rattle.account_trim.proofs.links.link_all.Given as goal

abbrev pub invariant-loop-place : goal.invariant-loop-place
invariant-loop-place l =
    (l.links ++ links_from l.graphs l.places l.place (drop l.place l.records) ≡ links_of l.graphs l.records)
    × (with_all l.graphs l.places l.place (drop l.place l.records) ≡ places_of l.graphs l.records)
