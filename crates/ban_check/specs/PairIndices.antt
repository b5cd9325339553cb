-- The pairs of a ban, found by their ports; and which pairs of an earlier ban aren't among them.
use Rattle.std.specs.Prelude.{◌≡◌, ◌≢◌, ◌↔◌, ℕ, ◌<◌, ◌==◌, List, ◌∷◌, length, All, Contains, Option, Some, slice_index_or}
use Rattle.std.specs.Map.{lookup}
use Rattle.circuits.specs.declared.port.Pair.{Pair}
use Rattle.net_core.specs.declared.graphs.Side.{Side}
use Rattle.account_core.specs.Given.{Given, ban_at}
use Rattle.account_core.specs.Tallies.{port_of}
use Rattle.account_core.specs.declared.ports.Port.{Port}
use Rattle.account_core.specs.contracts.ports.PortPartialEq.TheImpl.{eq-value as port_eq}
use Rattle.ban_check.specs.declared.missing.Missing.{Missing}
use Rattle.ban_check.specs.declared.missing.Missing.TheVariants as missing

-- the pair that an index has for a port
abbrev pub found_at : List (Port × Pair) → Port → Option Pair
found_at entries port = lookup (port_eq.it port) entries

-- What an index has for a port is one of the pairs, and of this port; and it has each of the first pairs for both of
-- its ports.
pub record IsIndexOfFirst (pairs : List Pair) (count : ℕ) (entries : List (Port × Pair)) : Type 0 where
  pub each : (port : Port) (pair : Pair) → found_at entries port ≡ Some pair
      → Contains pairs pair × (port_of port.side pair ≡ port)
  pub all : (k : ℕ) (d : Pair) → k < count → (side : Side)
      → found_at entries (port_of side (slice_index_or pairs k d)) ≡ Some (slice_index_or pairs k d)

-- by each port of the pairs the index finds its pair
abbrev pub IsIndexOf : List Pair → List (Port × Pair) → Type 0
IsIndexOf pairs entries = IsIndexOfFirst pairs (length pairs) entries

-- a pair's port of a circuit is another pair's
abbrev pub IsAnothers : List (Port × Pair) → Side → Pair → Type 0
IsAnothers entries side pair = (other : Pair) × (found_at entries (port_of side pair) ≡ Some other) × (other ≢ pair)

-- a pair is all that is missing: nothing is, or it alone
abbrev pub IsAllMissing : Missing → Pair → Type 0
IsAllMissing missing.None pair = Unit {0}
IsAllMissing (missing.One one) pair = one ≡ pair
IsAllMissing missing.Several pair = ⊥

-- Which pairs of an earlier ban are missing among these: all of that ban's are there with one more exactly where that
-- one is all that is missing.
abbrev pub AreMissing : List Pair → List Pair → Missing → Type 0
AreMissing pairs ban missing = (pair : Pair) → (IsAllMissing missing pair ↔ All (Contains (pair ∷ pairs)) ban)

-- What was given, and the pairs of a ban whose cover is checked.
pub record Beside : Type 0 where
  pub given : Given
  pub pairs : List Pair

-- what was found missing of a ban, if it was looked for
abbrev pub kept_of : List (ℕ × Missing) → ℕ → Option Missing
kept_of entries ban = lookup (λ other. ban == other) entries

-- what was found missing of bans is what is missing of them
abbrev pub AreKept : Beside → List (ℕ × Missing) → Type 0
AreKept beside entries = (ban : ℕ) (missing : Missing) → kept_of entries ban ≡ Some missing
    → AreMissing beside.pairs (ban_at beside.given ban) missing
