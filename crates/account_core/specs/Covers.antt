-- Ports of which some must go to some of others, though each way to pair two of them is excluded (the pigeonhole
-- principle).
use Rattle.std.specs.Prelude.{ℕ, ◌+◌, ◌<◌, Bool, true, false, List, [], ◌∷◌, length, All, Any, Contains, Option, None, Some}
use Rattle.std.specs.List.{AllZip, flat_map}
use Rattle.circuits.specs.declared.port.Pair.{Pair}
use Rattle.circuits.specs.declared.port.PortKind.{PortKind}
use Rattle.net_core.specs.Sides.{Graphs}
use Rattle.account_core.specs.Ports.{ports_in, Clash}
use Rattle.account_core.specs.Given.{Given, ban_at, IsBanGiven}
use Rattle.account_core.specs.Tallies.{Ascend}

-- two ports of a kind, paired plain or inverted
abbrev pub way : PortKind → ℕ → ℕ → Bool → Pair
way kind from to flip = record { kind = kind; from = from; to = to; flip = flip }

-- the ways to pair one port with each of some others, plain before inverted
abbrev pub row : PortKind → ℕ → List ℕ → List Pair
row kind from to = flat_map (λ t. way kind from t false ∷ way kind from t true ∷ []) to

-- all ways to pair a port of `from` with one of `to`: in the order of `from`, for each in that of `to`
abbrev pub ways : PortKind → List ℕ → List ℕ → List Pair
ways kind from to = flat_map (λ f. row kind f to) from

-- a pair clashes with one of the ban's
abbrev pub IsImpossible : List Pair → Pair → Type 0
IsImpossible pairs pair = Any (λ assigned. Clash assigned pair) pairs

-- what stands for a way: nothing where it is impossible, else an earlier ban all of whose pairs are among the ban's and
-- it
abbrev pub IsReference : Given → List Pair → Pair → Option ℕ → Type 0
IsReference given pairs pair None = IsImpossible pairs pair
IsReference given pairs pair (Some ban) =
    (IsImpossible pairs pair → ⊥) × All (Contains (pair ∷ pairs)) (ban_at given ban)

-- The ports exist, and the bans were given.
pub record AreCoverNames (graphs : Graphs) (given : Given) (kind : PortKind)
    (from to : List ℕ) (refs : List (Option ℕ)) : Type 0 where
  pub first_ports : All (λ port. port < ports_in graphs.first kind) from
  pub second_ports : All (λ port. port < ports_in graphs.second kind) to
  pub given_bans : (ban : ℕ) → Contains refs (Some ban) → IsBanGiven given ban

-- Both lists ascend, they have more ports than there are of the kind, so that some port of `from` goes to one of `to`;
-- and there is a reference for each way.
pub record IsCover (graphs : Graphs) (given : Given) (pairs : List Pair) (kind : PortKind)
    (from to : List ℕ) (refs : List (Option ℕ)) : Type 0 where
  pub from_ascends : Ascend from
  pub to_ascends : Ascend to
  pub too_many : ports_in graphs.first kind < length from + length to
  pub referred : AllZip (IsReference given pairs) (ways kind from to) refs
