-- Bans that facts show, whatever bans stand before them.
use Rattle.std.specs.Prelude.{◌≡◌, ℕ, Bool, true, false, List}
use Rattle.circuits.specs.declared.port.Pair.{Pair}
use Rattle.net_core.specs.Sides.{Graphs}
use Rattle.account_core.specs.declared.step.Ban.{Ban}
use Rattle.account_core.specs.declared.step.Step.TheVariants as step
use Rattle.account_core.specs.Given.{Decided, given_of}
use Rattle.account_core.specs.Steps.{IsValidBan}
use Rattle.ban_book.specs.declared.mismatched.Unlike.{Unlike}

-- The ban is of these pairs, and valid in view of the facts.
pub record IsBanBy (graphs : Graphs) (facts : List Decided) (pairs : List Pair) (ban : Ban) : Type 0 where
  pub pairs_are : ban.pairs ≡ pairs
  pub valid : (bans : List Ban) → IsValidBan graphs (given_of facts bans) ban

-- the numbers of two facts, sorted by which of them holds
abbrev pub unlike_of : Bool → ℕ → ℕ → Unlike
unlike_of true one other = record { fails = other; holds = one }
unlike_of false one other = record { fails = one; holds = other }

-- the ban of pairs that carry a claim to one that is decided otherwise
abbrev pub mismatch_of : List Pair → Unlike → Ban
mismatch_of pairs unlike = record { pairs = pairs; step = step.Mismatch unlike.fails unlike.holds }
