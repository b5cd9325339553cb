-- The facts and bans that an account dropped: no later record names them (this project's format).
use Rattle.std.specs.Prelude.{◌≡◌, ℕ, zero, suc, Bool, true, false, List, [], ◌∷◌, All, Option, None, Some, slice_index_or}
use Rattle.account_core.specs.declared.step.Step.{Step}
use Rattle.account_core.specs.declared.step.Step.TheVariants as step
use Rattle.account_core.specs.Given.{Given, IsBanGiven, IsFactGiven}

-- A mark for each fact and for each ban, up to the last that was dropped: whether it was.
pub record Dropped : Type 0 where
  pub facts : List Bool
  pub bans : List Bool

-- the facts and bans before any of them is dropped
abbrev pub nothing_dropped : Dropped
nothing_dropped = record { facts = []; bans = [] }

-- one number more is marked
abbrev pub marked : List Bool → ℕ → List Bool
marked [] zero = true ∷ []
marked [] (suc number) = false ∷ marked [] number
marked (mark ∷ marks) zero = true ∷ marks
marked (mark ∷ marks) (suc number) = mark ∷ marked marks number

-- the fact or the ban of this number wasn't dropped
abbrev pub IsUnmarked : List Bool → ℕ → Type 0
IsUnmarked marks number = slice_index_or marks number false ≡ false

-- a fact that was given and wasn't dropped
abbrev pub IsFactKept : Given → Dropped → ℕ → Type 0
IsFactKept given dropped fact = IsFactGiven given fact × IsUnmarked dropped.facts fact

-- a ban that was given and wasn't dropped
abbrev pub IsBanKept : Given → Dropped → ℕ → Type 0
IsBanKept given dropped ban = IsBanGiven given ban × IsUnmarked dropped.bans ban

-- the ban that excludes a way of a cover wasn't dropped, where one is named
abbrev pub IsReferenceUnmarked : List Bool → Option ℕ → Type 0
IsReferenceUnmarked marks None = Unit {0}
IsReferenceUnmarked marks (Some number) = IsUnmarked marks number

-- no fact and no ban that a step names was dropped
abbrev pub AreNamesKept : Dropped → Step → Type 0
AreNamesKept dropped (step.Vector output values) = Unit {0}
AreNamesKept dropped (step.Mismatch fails holds) = IsUnmarked dropped.facts fails × IsUnmarked dropped.facts holds
AreNamesKept dropped (step.Tally kind have lack) =
    All (IsUnmarked dropped.facts) have × All (IsUnmarked dropped.facts) lack
AreNamesKept dropped (step.Cover kind from to refs) = All (IsReferenceUnmarked dropped.bans) refs

-- one fact more was dropped
abbrev pub without_fact : Dropped → ℕ → Dropped
without_fact dropped fact = record { facts = marked dropped.facts fact; bans = dropped.bans }

-- one ban more was dropped
abbrev pub without_ban : Dropped → ℕ → Dropped
without_ban dropped ban = record { facts = dropped.facts; bans = marked dropped.bans ban }
