-- What excludes a deleted pair beside those that were assigned before it.
use Rattle.std.specs.Prelude.{◌≡◌, ℕ, ◌<◌, List, ◌∷◌, length, take, Contains, slice_index_or}
use Rattle.circuits.specs.declared.port.Pair.{Pair}
use Rattle.account_core.specs.declared.step.Ban.{Ban}
use Rattle.account_core.specs.Ports.{Clash}
use Rattle.ban_book.specs.Covering.{Covers}
use Rattle.pair_domains.specs.declared.entry.Entry.{Entry}
use Rattle.pair_domains.specs.declared.entry.Reason.{Reason}
use Rattle.pair_domains.specs.Trails.{assigned_in}
use Rattle.pair_search.specs.declared.deletion.Deletion.{Deletion}
use Rattle.pair_search.specs.declared.deletion.Deletion.TheVariants as deletion
use Rattle.pair_search.specs.Named.{deleted}

-- one of some pairs clashes with a pair, or a ban has no other pairs than it and them
abbrev pub IsExcluded : List Ban → List Pair → Pair → Deletion → Type 0
IsExcluded bans pairs pair (deletion.Clash with) = Contains pairs with × Clash with pair
IsExcluded bans pairs pair (deletion.Ban number) = Covers bans (pair ∷ pairs) number

-- A pair is deleted by an entry, and excluded beside the pairs that are assigned before that one.
pub record IsDeletion (bans : List Ban) (entries : List Entry) (pair : Pair) (deletion : Deletion) : Type 0 where
  pub place : ℕ
  pub within : place < length entries
  pub reason : Reason
  pub there : (d : Entry) → slice_index_or entries place d ≡ deleted pair reason
  pub excluded : IsExcluded bans (assigned_in (take place entries)) pair deletion
