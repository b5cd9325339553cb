-- The hints so far.
use Rattle.std.proofs.Common.{◌≡◌, ◌++◌, take}
use Rattle.std.specs.List.{flat_map}
use Rattle.account_trim.specs.Links.{hinted}
use Rattle.account_trim.proofs.links.add_line_names.Given as goal

abbrev pub invariant-loop-hint : goal.invariant-loop-hint
invariant-loop-hint l = l.names ≡ l.fn.names ++ flat_map (hinted l.places l.place) (take l.hint-index l.line.hints)
