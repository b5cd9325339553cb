-- The references so far.
use Rattle.std.proofs.Common.{◌≡◌, ◌++◌, take}
use Rattle.std.specs.List.{flat_map}
use Rattle.account_trim.proofs.LinkLemmas.{referred}
use Rattle.account_trim.proofs.links.add_all_referred.Given as goal

abbrev pub invariant-loop-reference : goal.invariant-loop-reference
invariant-loop-reference l = l.names ≡ l.fn.names ++ flat_map (referred l.place l.places) (take l.reference-index l.references)
