-- What is done about the latest pair of a conflict (the first unique implication point: Marques-Silva and Sakallah,
-- GRASP, 1999).
use Rattle.std.specs.Prelude.{ℕ, List, ◌∷◌, take, All, Contains, slice_index_or}
use Rattle.circuits.specs.declared.port.Pair.{Pair}
use Rattle.pair_domains.specs.declared.entry.Entry.{Entry}
use Rattle.pair_domains.specs.declared.entry.Fate.TheVariants.{Assigned}
use Rattle.pair_domains.specs.declared.entry.Cause.TheVariants.{LastWay}
use Rattle.pair_domains.specs.Trails.{IsOpen, assigned_in}
use Rattle.pair_search.specs.declared.resolution.Pivot.{Pivot}
use Rattle.pair_search.specs.declared.resolution.Pivot.TheVariants as pivot
use Rattle.pair_search.specs.ConflictSets.{IsChoiceAt}

-- Before a choice one pair is open, and all others are assigned.
pub record IsSplit (entries : List Entry) (pairs : List Pair) (pair : Pair) (place : ℕ) : Type 0 where
  pub choice : IsChoiceAt entries place
  pub open' : IsOpen (take place entries) pair
  pub others : All (Contains (pair ∷ assigned_in (take place entries))) pairs

-- a choice stands between the latest pair and the others, or the pair was forced
abbrev pub IsPivot : List Entry → List Pair → ℕ → Pivot → Type 0
IsPivot entries pairs last (pivot.Choice place) = (d : Pair) → IsSplit entries pairs (slice_index_or (assigned_in entries) last d) place
IsPivot entries pairs last (pivot.Forced side) =
    (d : Pair) → Contains entries (record { pair = slice_index_or (assigned_in entries) last d; fate = Assigned (LastWay side) })
