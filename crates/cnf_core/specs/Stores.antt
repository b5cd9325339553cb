-- Clauses in one arena: where each ends, and the room for one more.
use Rattle.std.specs.Prelude.{◌≡◌, ℕ, zero, suc, ◌+◌, ◌-◌, ◌<◌, ◌≤◌, List, [], ◌∷◌, take, drop, length, Option, None, Some, slice_index_or, vec_len}
use Rattle.std.specs.Prelude.{vec_capacity}
use Rattle.std.specs.declared.alloc.Global.{Global}
use Rattle.std.specs.Prelude.{Vec}
use Rattle.cnf_core.specs.declared.literal.SatLit.{SatLit}

-- Clauses in the order in which they were put, and the room for one more: none, or n literals at most.
pub record Stored : Type 0 where
  pub clauses : List (List SatLit)
  pub room : Option ℕ

-- there is room for a clause of n literals
abbrev pub HasRoom : Option ℕ → ℕ → Type 0
HasRoom None literals = ⊥
HasRoom (Some most) literals = literals ≤ most

-- the parts of a list, one after the other, that end at these places
abbrev pub pieces : {X : Type 0} → ℕ → List ℕ → List X → List (List X)
pieces {X} start [] xs = []
pieces {X} start (end ∷ ends) xs = take (end - start) (drop start xs) ∷ pieces end ends xs

-- where piece k starts: where the one before it ends
abbrev pub start_at : ℕ → List ℕ → ℕ → ℕ
start_at start ends zero = start
start_at start ends (suc k) = slice_index_or ends k 0

-- places that ascend from a start, of which the last is the end
abbrev pub AreEnds : ℕ → List ℕ → ℕ → Type 0
AreEnds start [] last = start ≡ last
AreEnds start (end ∷ ends) last = (start ≤ end) × AreEnds end ends last

-- the room is there
abbrev pub IsKeptRoom : Vec SatLit Global → Vec ℕ Global → Option ℕ → Type 0
IsKeptRoom literals ends None = Unit {0}
IsKeptRoom literals ends (Some most) = (vec_len literals + most ≤ vec_capacity literals) × (vec_len ends < vec_capacity ends)

-- What each store keeps.
pub record IsKept (literals : Vec SatLit Global) (ends : Vec ℕ Global) (room : Option ℕ) : Type 0 where
  pub ends_are : AreEnds 0 ends.items (length literals.items)
  pub room_is : IsKeptRoom literals ends room
