-- What the inputs so far give is listed.
use Rattle.std.proofs.Common.{◌≡◌, take}
use Rattle.std.specs.List.{flat_map}
use Rattle.ban_book.specs.Rows.{one_of}
use Rattle.ban_book.proofs.tallies.list_one.Given as goal

abbrev pub invariant-loop-claims : goal.invariant-loop-claims
invariant-loop-claims l = l.numbers ≡ flat_map (one_of l.holds) (take l.claims-index l.row)
