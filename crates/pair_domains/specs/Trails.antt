-- Signed pairs that are assigned or deleted, in order (the trail of Marques-Silva and Sakallah, GRASP, 1999, over the
-- candidate pairs of Katebi and Markov, DATE 2010).
use Rattle.std.specs.Prelude.{◌≡◌, ◌≢◌, ℕ, ◌<◌, ◌==◌, ◌&&◌, Bool, true, false, not, List, length, map, filter, count_by, All, AllPairs, Contains}
use Rattle.std.specs.Prelude.{slice_index_or}
use Rattle.circuits.specs.declared.port.Pair.{Pair}
use Rattle.circuits.specs.declared.port.PortKind.{PortKind}
use Rattle.circuits.specs.declared.port.PortKind.TheVariants.{Input, Output}
use Rattle.net_core.specs.declared.graphs.Side.{Side}
use Rattle.claim_core.specs.Images.{same_kind}
use Rattle.account_core.specs.Tallies.{port_on}
use Rattle.account_core.specs.Assigned.{AreApart}
use Rattle.pair_domains.specs.declared.entry.Entry.{Entry}
use Rattle.pair_domains.specs.declared.entry.Fate.{Fate}
use Rattle.pair_domains.specs.declared.entry.Reason.{Reason}
use Rattle.pair_domains.specs.declared.entry.Fate.TheVariants.{Assigned, Deleted}

-- Two circuits with as many inputs and as many outputs, and what became of their signed pairs, in order.
pub record Domained : Type 0 where
  pub inputs : ℕ
  pub outputs : ℕ
  pub entries : List Entry

-- how many ports of a kind either circuit has
abbrev pub ports_of : ℕ → ℕ → PortKind → ℕ
ports_of inputs outputs Input = inputs
ports_of inputs outputs Output = outputs

-- The ports that a pair names exist.
pub record IsPairOf (inputs outputs : ℕ) (pair : Pair) : Type 0 where
  pub from : pair.from < ports_of inputs outputs pair.kind
  pub to : pair.to < ports_of inputs outputs pair.kind

-- the matching that is sought has the pair
abbrev pub is_assigned : Fate → Bool
is_assigned (Assigned cause) = true
is_assigned (Deleted reason) = false

-- the pairs that are assigned, in order
abbrev pub assigned_in : List Entry → List Pair
assigned_in entries = map (λ entry. entry.pair) (filter (λ entry. is_assigned entry.fate) entries)

-- whether a pair is of a port of a circuit
abbrev pub is_at : Side → PortKind → ℕ → Pair → Bool
is_at side kind port pair = same_kind pair.kind kind && (port_on side pair == port)

-- how many pairs of a port of a circuit are deleted
abbrev pub gone_in : List Entry → Side → PortKind → ℕ → ℕ
gone_in entries side kind port = count_by (λ entry. not (is_assigned entry.fate) && is_at side kind port entry.pair) entries

-- a pair is neither assigned nor deleted
abbrev pub IsOpen : List Entry → Pair → Type 0
IsOpen entries pair = All (λ entry. entry.pair ≢ pair) entries

-- a pair is deleted
abbrev pub IsDeleted : List Entry → Pair → Type 0
IsDeleted entries pair = (reason : Reason) × Contains entries (record { pair = pair; fate = Deleted reason })

-- no pair of a port of a circuit is assigned
abbrev pub IsFreePort : List Entry → Side → PortKind → ℕ → Type 0
IsFreePort entries side kind port = All (λ pair. is_at side kind port pair ≡ false) (assigned_in entries)

-- an entry of this pair stands at a place
pub record IsPlace (entries : List Entry) (pair : Pair) (place : ℕ) : Type 0 where
  pub within : place < length entries
  pub there : (d : Entry) → (slice_index_or entries place d).pair ≡ pair

-- A pair of a port of a circuit is assigned.
pub record IsAssignedAt (entries : List Entry) (side : Side) (kind : PortKind) (port : ℕ) (pair : Pair) : Type 0 where
  pub assigned : Contains (assigned_in entries) pair
  pub at : is_at side kind port pair ≡ true

-- The pairs are of ports that exist, none has two entries, and no two that are assigned share a port.
pub record AreEntries (inputs outputs : ℕ) (entries : List Entry) : Type 0 where
  pub known : All (λ entry. IsPairOf inputs outputs entry.pair) entries
  pub distinct : AllPairs (λ one other. one.pair ≢ other.pair) entries
  pub apart : AllPairs AreApart (assigned_in entries)

-- what became of the pairs of two circuits fits together
abbrev pub AreDomains : Domained → Type 0
AreDomains domains = AreEntries domains.inputs domains.outputs domains.entries
