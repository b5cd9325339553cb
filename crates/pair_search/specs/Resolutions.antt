-- Covers in which one way leads into a ban that is known (hyper-resolution over the ways of a port).
use Rattle.std.specs.Prelude.{List, ◌∷◌, Option, None, Some, IfSome}
use Rattle.circuits.specs.declared.port.Pair.{Pair}
use Rattle.account_core.specs.declared.step.Ban.{Ban}
use Rattle.ban_book.specs.Covering.{Covers}
use Rattle.pair_search.specs.declared.resolved.Resolved.{Resolved}

-- the way that is resolved on
abbrev pub left_out : Option Resolved → Option Pair
left_out None = None
left_out (Some resolved) = Some resolved.way

-- the way that is resolved on leads into its ban beside pairs
abbrev pub LeadsIntoBan : List Ban → List Pair → Option Resolved → Type 0
LeadsIntoBan bans pairs resolved = IfSome resolved (λ it. Covers bans (it.way ∷ pairs) it.ban)
