-- Pairs that are assigned while a match is sought (partial signed bijections: Katebi and Markov, DATE 2010).
use Rattle.std.specs.Prelude.{◌≡◌, ◌≢◌, ℕ, ◌<◌, ⊤, Bool, false, List, All, AllPairs, Any, Contains, slice_index_or}
use Rattle.circuits.specs.declared.port.Pair.{Pair}
use Rattle.circuits.specs.declared.port.PortKind.{PortKind}
use Rattle.circuits.specs.declared.port.PortKind.TheVariants.{Input, Output}
use Rattle.net_core.specs.Sides.{Graphs}
use Rattle.net_core.specs.declared.graphs.Side.{Side}
use Rattle.net_core.specs.declared.graphs.Side.TheVariants.{First}
use Rattle.account_core.specs.Ports.{ports_in, IsKnown, AreOrdered}
use Rattle.account_core.specs.Tallies.{port_on}

-- Two pairs share no port.
pub record AreApart (one other : Pair) : Type 0 where
  pub from : one.kind ≡ other.kind → one.from ≢ other.from
  pub to : one.kind ≡ other.kind → one.to ≢ other.to

-- Pairs of ports that exist, no two of which share a port.
pub record AreAssignable (graphs : Graphs) (pairs : List Pair) : Type 0 where
  pub known : All (IsKnown graphs) pairs
  pub apart : AllPairs AreApart pairs

-- a pair is of a port of a circuit
pub record IsOf (side : Side) (kind : PortKind) (port : ℕ) (pair : Pair) : Type 0 where
  pub kind_is : pair.kind ≡ kind
  pub port_is : port_on side pair ≡ port

-- a port of a circuit is in a pair
abbrev pub IsTaken : Side → List Pair → PortKind → ℕ → Type 0
IsTaken side pairs kind port = Any (IsOf side kind port) pairs

-- each port of the first circuit is in a pair
abbrev pub IsWhole : Graphs → List Pair → Type 0
IsWhole graphs pairs = (kind : PortKind) (port : ℕ) → port < ports_in graphs.first kind → IsTaken First pairs kind port

-- Some of the assigned pairs, in order.
pub record IsPart (assigned pairs : List Pair) : Type 0 where
  pub among : All (Contains assigned) pairs
  pub ordered : AreOrdered pairs

-- Assigned pairs were added to some of them that were listed: these stay, and the list is in order.
pub record AddsAssigned (assigned before after : List Pair) : Type 0 where
  pub part : IsPart assigned after
  pub stays : All (Contains after) before

-- a port stands before another: inputs come first, and ports of a kind ascend
abbrev pub ArePortsInTurn : PortKind → PortKind → ℕ → ℕ → Type 0
ArePortsInTurn Input Input one other = one < other
ArePortsInTurn Input Output one other = ⊤
ArePortsInTurn Output Input one other = ⊥
ArePortsInTurn Output Output one other = one < other

-- the port of one pair in the first circuit stands before that of another
abbrev pub StandsBefore : Pair → Pair → Type 0
StandsBefore one other = ArePortsInTurn one.kind other.kind one.from other.from

-- where a pair is of this kind, its first port's entry says where it goes
abbrev pub IsEntryOf : PortKind → List (ℕ × Bool) → Pair → Type 0
IsEntryOf kind entries pair = pair.kind ≡ kind → slice_index_or entries pair.from (0, false) ≡ (pair.to, pair.flip)
