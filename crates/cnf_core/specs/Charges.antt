-- What learned lines are charged to.
use Rattle.std.specs.Prelude.{◌≡◌, ℕ, ◌+◌, ◌<◌, Bool, true, List, [], ◌∷◌, ◌++◌}
use Rattle.cnf_core.specs.declared.log.LogLine.{LogLine}
use Rattle.cnf_core.specs.declared.stop.Stop.{Stop}
use Rattle.cnf_core.specs.declared.stop.Stop.TheVariants.{Spent, Memory}

-- How many lines may be learned, and how many were made, a refused one counted; whether an entry is open, and its
-- lines; whether the last of them was refused; and what else there is, which no charge changes.
pub record Charging (Others : Type 0) : Type 0 where
  pub budget : ℕ
  pub made : ℕ
  pub opened : Bool
  pub lines : List LogLine
  pub spent : Bool
  pub others : Others

-- A line was added to the open entry, for one unit of the budget.
pub record IsCharged {Others : Type 0} (old : Charging Others) (line : LogLine) (new : Charging Others) : Type 0 where
  pub within : old.made < old.budget
  pub charged : new ≡ record old { lines = old.lines ++ line ∷ []; made = old.made + 1 }

-- The budget is spent, and the line is kept as the refused one.
pub record IsOverdrawn {Others : Type 0} (old : Charging Others) (line : LogLine) (new : Charging Others) (learned : ℕ)
    : Type 0 where
  pub told : learned ≡ old.budget
  pub spent : old.made ≡ old.budget
  pub refused : new ≡ record old { lines = old.lines ++ line ∷ []; made = old.made + 1; spent = true }

-- a line isn't charged: the budget is spent, or out of memory, and then nothing changes
abbrev pub IsRefused : {Others : Type 0} → Charging Others → LogLine → Charging Others → Stop → Type 0
IsRefused {Others} old line new (Spent learned) = IsOverdrawn old line new learned
IsRefused {Others} old line new Memory = new ≡ old
