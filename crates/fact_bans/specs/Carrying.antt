-- Pairs of ports of two circuits, and the claims that they carry from the first circuit to the second.
use Rattle.std.specs.Prelude.{◌≡◌, List, [], ◌∷◌, All}
use Rattle.circuits.specs.declared.port.Pair.{Pair}
use Rattle.circuits.specs.declared.port.PortKind.{PortKind}
use Rattle.circuits.specs.declared.port.PortKind.TheVariants.{Input, Output}
use Rattle.net_core.specs.Sides.{Graphs}
use Rattle.claim_core.specs.Claims.{IsClaim}
use Rattle.account_core.specs.Mismatches.{IsImage}
use Rattle.account_core.specs.Ports.{AreOrdered, IsKnown}
use Rattle.ban_book.specs.declared.mismatched.Carried.{Carried}
use Rattle.fact_bans.specs.declared.exchanges.SwapPairs.{SwapPairs}

-- A pair of ports of this kind, which exist.
pub record IsPairOf (graphs : Graphs) (kind : PortKind) (pair : Pair) : Type 0 where
  pub kind_is : pair.kind ≡ kind
  pub known : IsKnown graphs pair

-- The pairs of two inputs and of an output, whose ports exist.
pub record AreSwapPairs (graphs : Graphs) (pairs : SwapPairs) : Type 0 where
  pub one : IsPairOf graphs Input pairs.one
  pub other : IsPairOf graphs Input pairs.other
  pub output : IsPairOf graphs Output pairs.output

-- the three pairs, in this order
abbrev pub all_of : SwapPairs → List Pair
all_of pairs = pairs.one ∷ pairs.other ∷ pairs.output ∷ []

-- Pairs of ports that exist, in order, carry the one claim to the other, and both claims are well placed.
pub record Carry (graphs : Graphs) (pairs : List Pair) (carried : Carried) : Type 0 where
  pub known : All (IsKnown graphs) pairs
  pub ordered : AreOrdered pairs
  pub image : IsImage pairs carried.claim carried.image
  pub claim_placed : IsClaim graphs carried.claim
  pub image_placed : IsClaim graphs carried.image
