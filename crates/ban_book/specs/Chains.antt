-- The bans with the same first pair are linked in a chain, the latest first, and so are those without pairs (an index
-- of lists).
use Rattle.std.specs.Prelude.{◌≡◌, ℕ, ◌<◌, ◌≤◌, List, Option, None, Some, IfSome, length, slice_get, slice_index_or}
use Rattle.std.specs.Map.{lookup}
use Rattle.std.specs.Option.{option_eq}
use Rattle.circuits.specs.declared.port.Pair.{Pair}
use Rattle.circuits.specs.contracts.port.PairPartialEq.TheImpl.{eq-value as pair_eq}
use Rattle.account_core.specs.declared.step.Ban.{Ban}
use Rattle.ban_book.specs.Covering.{IsWithin}

-- the number that is noted for a chain
abbrev pub last_of : List (Option Pair × ℕ) → Option Pair → Option ℕ
last_of heads first = lookup (option_eq pair_eq.it first) heads

-- the chain that a ban is of
abbrev pub first_of : Ban → Option Pair
first_of ban = slice_get ban.pairs 0

-- there is a ban of this number, and it is of the chain
pub record IsOfChain (bans : List Ban) (first : Option Pair) (number : ℕ) : Type 0 where
  pub there : number < length bans
  pub first_is : (d : Ban) → first_of (slice_index_or bans number d) ≡ first

-- no more than a number that is noted
pub record IsUpTo (noted : Option ℕ) (number : ℕ) : Type 0 where
  pub last : ℕ
  pub noted_is : noted ≡ Some last
  pub up_to : number ≤ last

-- What is noted is the latest ban of a chain among those below a number, if there is one.
pub record IsLast (bans : List Ban) (first : Option Pair) (below : ℕ) (noted : Option ℕ) : Type 0 where
  pub found : IfSome noted (λ number. (number < below) × IsOfChain bans first number)
  pub all : (number : ℕ) → number < below → IsOfChain bans first number → IsUpTo noted number

-- The latest ban of each chain is noted, and for each ban the one made before it in its chain.
pub record AreChained (bans : List Ban) (last : Option Pair → Option ℕ) (before : List (Option ℕ)) : Type 0 where
  pub size : length before ≡ length bans
  pub lasts : (first : Option Pair) → IsLast bans first (length bans) (last first)
  pub befores : (first : Option Pair) (number : ℕ)
      → IsOfChain bans first number
      → IsLast bans first number (slice_index_or before number None)

-- no ban of a chain has all of its pairs among these
abbrev pub HasNoneWithin : List Ban → Option Pair → List Pair → Type 0
HasNoneWithin bans first pairs =
    (number : ℕ) (d : Ban) → IsOfChain bans first number → IsWithin pairs (slice_index_or bans number d) → ⊥

-- A chain was gone over down to one of its bans: each that has all of its pairs among these is that ban or an earlier
-- one.
pub record IsWalked (bans : List Ban) (first : Option Pair) (pairs : List Pair) (next : Option ℕ) : Type 0 where
  pub found : IfSome next (IsOfChain bans first)
  pub rest : (number : ℕ) (d : Ban)
      → IsOfChain bans first number
      → IsWithin pairs (slice_index_or bans number d)
      → IsUpTo next number
