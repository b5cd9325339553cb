-- The ways of ports, and what closes them (a value of a variable that is ruled out with its reason, as in
-- conflict-directed backjumping: Prosser, Comput. Intell. 1993).
use Rattle.std.specs.Prelude.{◌≡◌, ℕ, ◌+◌, ◌/◌, ◌%◌, ◌<◌, ◌==◌, List, [], ◌∷◌, ◌++◌, length, All, Option, Some}
use Rattle.std.specs.List.{AllZip, range_with_len}
use Rattle.circuits.specs.declared.port.Pair.{Pair}
use Rattle.circuits.specs.declared.port.PortKind.{PortKind}
use Rattle.net_core.specs.Sides.{Graphs}
use Rattle.net_core.specs.declared.graphs.Side.{Side}
use Rattle.net_core.specs.declared.graphs.Side.TheVariants.{First, Second}
use Rattle.account_core.specs.declared.step.Ban.{Ban}
use Rattle.account_core.specs.Given.{Decided, given_of}
use Rattle.account_core.specs.Covers.{way, ways, IsReference}
use Rattle.account_core.specs.Steps.{AreValidBans}
use Rattle.account_core.specs.Tallies.{Ascend, other_side}
use Rattle.ban_book.specs.Vectors.{AddsNoVector}
use Rattle.ban_book.specs.declared.block.Block.{Block}

-- of a port of the circuit of a side and a port of the other circuit: the port of the first circuit
abbrev pub first_port : Side → ℕ → ℕ → ℕ
first_port First port other = port
first_port Second port other = other

-- of a port of the circuit of a side and a port of the other circuit: the port of the second circuit
abbrev pub second_port : Side → ℕ → ℕ → ℕ
second_port First port other = other
second_port Second port other = port

-- the ways of a port of a circuit, numbered: with port 0 of the other, plain and then inverted, with port 1, and so on
abbrev pub nth_way : Side → PortKind → ℕ → ℕ → Pair
nth_way side kind port number =
    way kind (first_port side port (number / 2)) (second_port side port (number / 2)) (number % 2 == 1)

-- all ways to pair a port of the one circuit with one of the other
abbrev pub ways_in : Block → List Pair
ways_in block = ways block.kind block.from block.to

-- the ports of the first circuit to which a port's ways belong: the port itself, or all of them
abbrev pub ports_tried : Side → ℕ → ℕ → List ℕ
ports_tried First port count = port ∷ []
ports_tried Second port count = range_with_len 0 count

-- a port of one circuit, and all ports of the other
abbrev pub block_of : Side → PortKind → ℕ → ℕ → Block
block_of side kind port count =
    record { kind = kind; from = ports_tried side port count; to = ports_tried (other_side side) port count }

-- Ports of both circuits, in order, together more than either has, so that one of the first circuit's goes to one of
-- the second's (P. Hall, J. London Math. Soc. 1935; a block of zeros: Frobenius, 1917).
pub record IsBlock (count : ℕ) (block : Block) : Type 0 where
  pub from_ascends : Ascend block.from
  pub to_ascends : Ascend block.to
  pub from_below : All (λ port. port < count) block.from
  pub to_below : All (λ port. port < count) block.to
  pub too_many : count < length block.from + length block.to

-- A way is closed beside pairs: it shares a port with one of them, or an earlier ban excludes it beside them.
pub record IsClosed (bans : List Ban) (pairs : List Pair) (pair : Pair) (ref : Option ℕ) : Type 0 where
  pub refers : IsReference (given_of [] bans) pairs pair ref
  pub kept : (ban : ℕ) → ref ≡ Some ban → ban < length bans

-- ways are closed beside pairs, each as its reference says
abbrev pub AreClosed : List Ban → List Pair → List Pair → List (Option ℕ) → Type 0
AreClosed bans pairs ways refs = AllZip (IsClosed bans pairs) ways refs

-- Bans were added, none by a vector. Where the earlier ones are valid all are, in view of any facts.
pub record AddsBans (graphs : Graphs) (before after : List Ban) : Type 0 where
  pub added : List Ban
  pub more : after ≡ before ++ added
  pub no_vector : AddsNoVector added
  pub valid : (facts : List Decided) → AreValidBans graphs facts before → AreValidBans graphs facts after
