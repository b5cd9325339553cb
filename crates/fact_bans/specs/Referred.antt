-- Ways that have bans of their own.
use Rattle.std.specs.Prelude.{◌≡◌, ℕ, List, [], ◌∷◌, Option, Some}
use Rattle.std.specs.List.{AllZip}
use Rattle.circuits.specs.declared.port.Pair.{Pair}
use Rattle.account_core.specs.declared.step.Ban.{Ban}
use Rattle.ban_book.specs.Covering.{Covers}

-- A ban is kept of which a way alone is enough.
pub record IsReferred (bans : List Ban) (pair : Pair) (ref : Option ℕ) : Type 0 where
  pub number : ℕ
  pub ref_is : ref ≡ Some number
  pub covers : Covers bans (pair ∷ []) number

-- each way has its ban
abbrev pub AreReferred : List Ban → List Pair → List (Option ℕ) → Type 0
AreReferred bans ways refs = AllZip (IsReferred bans) ways refs
