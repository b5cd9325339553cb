-- The assigned pairs of a conflict, and where to go back to (conflict clauses and the first unique implication point:
-- Marques-Silva and Sakallah, GRASP, 1999).
use Rattle.std.specs.Prelude.{◌≡◌, ◌≢◌, ℕ, ◌<◌, ◌≤◌, List, [], ◌∷◌, length, take, Contains, slice_index_or}
use Rattle.circuits.specs.declared.port.Pair.{Pair}
use Rattle.net_core.specs.Sides.{Graphs}
use Rattle.account_core.specs.declared.step.Ban.{Ban}
use Rattle.account_core.specs.Ports.{HaveAsMany}
use Rattle.ban_book.specs.Covering.{Covers}
use Rattle.account_core.specs.Assigned.{IsPart}
use Rattle.pair_domains.specs.declared.entry.Entry.{Entry}
use Rattle.pair_domains.specs.declared.entry.Fate.TheVariants.{Assigned}
use Rattle.pair_domains.specs.declared.entry.Cause.TheVariants.{Choice}
use Rattle.pair_domains.specs.Trails.{Domained, IsOpen, IsPairOf, assigned_in}
use Rattle.pair_search.specs.declared.conflict_set.ConflictSet.{ConflictSet}
use Rattle.pair_search.specs.declared.learned.Back.{Back}
use Rattle.pair_search.specs.declared.learned.LearnedBan.{LearnedBan}
use Rattle.pair_search.specs.declared.learned.LearnedBan.TheVariants as learned

-- Both circuits have this many inputs and outputs.
pub record FitPorts (graphs : Graphs) (inputs outputs : ℕ) : Type 0 where
  pub many : HaveAsMany graphs.first graphs.second
  pub inputs_are : graphs.first.inputs ≡ inputs
  pub outputs_are : length graphs.first.outputs ≡ outputs

-- Some of the assigned pairs, in order, and a ban that has no other pairs.
pub record IsConflictSet (bans : List Ban) (assigned : List Pair) (conflict : ConflictSet) : Type 0 where
  pub part : IsPart assigned conflict.pairs.items
  pub covers : Covers bans conflict.pairs.items conflict.ban

-- The last of the first assigned pairs that is one of some.
pub record IsLastOf (assigned : List Pair) (limit : ℕ) (pairs : List Pair) (place : ℕ) : Type 0 where
  pub within : place < limit
  pub is : (d : Pair) → Contains pairs (slice_index_or assigned place d)
  pub later : (k : ℕ) (d : Pair) → place < k → k < limit → Contains pairs (slice_index_or assigned k d) → ⊥

-- The entry at a place is of a pair that was chosen.
pub record IsChoiceAt (entries : List Entry) (place : ℕ) : Type 0 where
  pub within : place < length entries
  pub chosen : (d : Entry) → (slice_index_or entries place d).fate ≡ Assigned Choice

-- No entry from one place on, and before another, is of a pair that was chosen.
pub record HasNoChoice (entries : List Entry) (from to : ℕ) : Type 0 where
  pub none : (k : ℕ) (d : Entry) → from ≤ k → k < to → (slice_index_or entries k d).fate ≢ Assigned Choice

-- Before a choice a pair is open, and a ban has no other pairs than it and those that are assigned there.
pub record IsBack (bans : List Ban) (domains : Domained) (back : Back) : Type 0 where
  pub choice : IsChoiceAt domains.entries back.place
  pub known : IsPairOf domains.inputs domains.outputs back.pair
  pub open' : IsOpen (take back.place domains.entries) back.pair
  pub covers : Covers bans (back.pair ∷ assigned_in (take back.place domains.entries)) back.ban

-- what a conflict comes to: a ban without pairs, or where to go back to
abbrev pub IsLearned : List Ban → Domained → LearnedBan → Type 0
IsLearned bans domains (learned.Refusal number) = Covers bans [] number
IsLearned bans domains (learned.Back back) = IsBack bans domains back
