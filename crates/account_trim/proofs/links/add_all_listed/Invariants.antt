-- The numbers so far.
use Rattle.std.proofs.Common.{◌≡◌, ◌++◌, take}
use Rattle.std.specs.List.{flat_map}
use Rattle.account_trim.specs.Links.{listed}
use Rattle.account_trim.proofs.links.add_all_listed.Given as goal

abbrev pub invariant-loop-number : goal.invariant-loop-number
invariant-loop-number l = l.names ≡ l.fn.names ++ flat_map (listed l.place l.places) (take l.number-index l.numbers)
