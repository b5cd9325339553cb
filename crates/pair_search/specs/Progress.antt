-- How much of a search is left: a number in a mixed radix that has a digit for each level, how many pairs are open
-- where it ends (levels of decisions: Marques-Silva and Sakallah, GRASP, 1999).
use Rattle.std.specs.Prelude.{◌≡◌, ℕ, suc, zero, ◌+◌, ◌-◌, ◌*◌, ◌≤◌, Bool, true, false, cond, List, [], ◌∷◌, ◌++◌}
use Rattle.account_core.specs.declared.step.Ban.{Ban}
use Rattle.pair_domains.specs.declared.entry.Entry.{Entry}
use Rattle.pair_domains.specs.declared.entry.Cause.TheVariants.{Choice, LastWay}
use Rattle.pair_domains.specs.declared.entry.Fate.{Fate}
use Rattle.pair_domains.specs.declared.entry.Fate.TheVariants.{Assigned, Deleted}
use Rattle.pair_domains.specs.Numbers.{pairs_of_ports}
use Rattle.pair_domains.specs.Trails.{Domained}
use Rattle.pair_search.specs.Grounded.{StayGrounded}
use Rattle.pair_search.specs.Justified.{IsJustifiedTrail}
pub use Rattle.pair_search.specs.Justified.{IsTrail}

-- a pair was chosen, so that a level begins with it
abbrev pub is_choice : Fate → Bool
is_choice (Assigned Choice) = true
is_choice (Assigned (LastWay side)) = false
is_choice (Deleted reason) = false

-- the entries before the first choice, which no level has
abbrev pub level_zero : List Entry → List Entry
level_zero [] = []
level_zero (entry ∷ entries) = cond (is_choice entry.fate) [] (entry ∷ level_zero entries)

-- how many pairs are open at the end of each level, where this many are open at first
abbrev pub open_at_ends : ℕ → List Entry → List ℕ
open_at_ends count [] = count ∷ []
open_at_ends count (entry ∷ entries) =
    cond (is_choice entry.fate) (count ∷ open_at_ends (count - 1) entries) (open_at_ends (count - 1) entries)

-- the radix to the power of the depth
abbrev pub whole : ℕ → ℕ → ℕ
whole radix zero = 1
whole radix (suc depth) = radix * whole radix depth

-- the number that has these digits in front, and as much as it can after them
abbrev pub weight : ℕ → ℕ → List ℕ → ℕ
weight radix zero [] = 1
weight radix zero (digit ∷ digits) = 0
weight radix (suc depth) [] = radix * whole radix depth
weight radix (suc depth) (digit ∷ digits) = digit * whole radix depth + weight radix depth digits

-- how much is left after these entries, where there are this many pairs
abbrev pub left_of : ℕ → List Entry → ℕ
left_of count entries = weight (count + 2) (count + 1) (open_at_ends count entries)

-- how much of the search is left before it ends for certain
abbrev pub left : Domained → ℕ
left domains = left_of (pairs_of_ports domains.inputs domains.outputs) domains.entries

-- Entries came at the end, each of which follows from those before it, and no more is left than before.
pub record Propagates (bans : List Ban) (before after : Domained) : Type 0 where
  pub inputs : after.inputs ≡ before.inputs
  pub outputs : after.outputs ≡ before.outputs
  pub added : List Entry
  pub more : after.entries ≡ before.entries ++ added
  pub justified : IsJustifiedTrail bans after
  pub grounded : StayGrounded before.entries after.entries
  pub less : left after ≤ left before

-- The circuits stay. What became of each pair follows from what stands before it, and whatever facts showed the
-- deletions by mismatches before, they show those after too.
pub record StaysJustified (bans : List Ban) (before after : Domained) : Type 0 where
  pub inputs : after.inputs ≡ before.inputs
  pub outputs : after.outputs ≡ before.outputs
  pub justified : IsJustifiedTrail bans after
  pub grounded : StayGrounded before.entries after.entries
