-- What is kept of each signed pair and each port beside the entries.
use Rattle.std.specs.Prelude.{◌≡◌, ℕ, ◌+◌, ◌*◌, ◌^◌, ◌<◌, List, length, Option, None, IfNone, IfSome, slice_index_or}
use Rattle.circuits.specs.declared.port.Pair.{Pair}
use Rattle.circuits.specs.declared.port.PortKind.{PortKind}
use Rattle.net_core.specs.declared.graphs.Side.{Side}
use Rattle.pair_domains.specs.declared.entry.Entry.{Entry}
use Rattle.pair_domains.specs.Numbers.{pair_number, pairs_of_ports, port_number}
use Rattle.pair_domains.specs.Trails.{AreEntries, IsFreePort, IsAssignedAt, IsOpen, IsPairOf, IsPlace, gone_in, assigned_in, ports_of}

-- where the entry of a pair stands, if it has one
pub record IsPlaceOf (entries : List Entry) (pair : Pair) (place : Option ℕ) : Type 0 where
  pub found : IfSome place (IsPlace entries pair)
  pub none : IfNone place (IsOpen entries pair)

-- the pair of a port that is assigned, if there is one
pub record IsPairAt (entries : List Entry) (side : Side) (kind : PortKind) (port : ℕ) (pair : Option Pair) : Type 0 where
  pub found : IfSome pair (IsAssignedAt entries side kind port)
  pub none : IfNone pair (IsFreePort entries side kind port)

-- the place of each pair's entry
pub record ArePlaces (inputs outputs : ℕ) (entries : List Entry) (places : List (Option ℕ)) : Type 0 where
  pub few : pairs_of_ports inputs outputs < 2 ^ 63
  pub size : length places ≡ pairs_of_ports inputs outputs
  pub each : (pair : Pair)
      → IsPairOf inputs outputs pair
      → IsPlaceOf entries pair (slice_index_or places (pair_number inputs outputs pair) None)

-- the assigned pair of each port
pub record ArePairsAt (inputs outputs : ℕ) (entries : List Entry) (assigned : List (Option Pair)) : Type 0 where
  pub size : length assigned ≡ 2 * inputs + 2 * outputs
  pub each : (side : Side) (kind : PortKind) (port : ℕ)
      → port < ports_of inputs outputs kind
      → IsPairAt entries side kind port (slice_index_or assigned (port_number inputs outputs side kind port) None)

-- how many pairs of each port are deleted
pub record AreCounts (inputs outputs : ℕ) (entries : List Entry) (gone : List ℕ) : Type 0 where
  pub size : length gone ≡ 2 * inputs + 2 * outputs
  pub each : (side : Side) (kind : PortKind) (port : ℕ)
      → port < ports_of inputs outputs kind
      → slice_index_or gone (port_number inputs outputs side kind port) 0 ≡ gone_in entries side kind port

-- What is looked up quickly agrees with the entries: pairs assigned, places, and counts of deletions.
pub record IsKept (inputs outputs : ℕ) (entries : List Entry) (pairs : List Pair) (places : List (Option ℕ))
    (pairs_at : List (Option Pair)) (gone : List ℕ) : Type 0 where
  pub entries_are : AreEntries inputs outputs entries
  pub pairs_are : pairs ≡ assigned_in entries
  pub places_are : ArePlaces inputs outputs entries places
  pub pairs_at_are : ArePairsAt inputs outputs entries pairs_at
  pub gone_are : AreCounts inputs outputs entries gone
