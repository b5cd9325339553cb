-- Calls that are made to fail, by their numbers from 0.
use Rattle.std.specs.Prelude.{◌≡◌, ℕ, ◌+◌, List, Contains}
use Rattle.shelf_core.specs.CallCount.{one_more}

-- The numbers of the calls that fail, and how many calls and failures there were, and failures of the last call.
pub record Failing : Type 0 where
  pub numbers : List ℕ
  pub calls : ℕ
  pub faults : ℕ
  pub latest : ℕ

-- the next call fails
abbrev pub FailsNext : Failing → Type 0
FailsNext failing = Contains failing.numbers failing.calls

-- A call is counted, and so is its failure.
pub record IsCounted (old new : Failing) : Type 0 where
  pub numbers : new.numbers ≡ old.numbers
  pub calls : new.calls ≡ one_more old.calls
  pub failed : FailsNext old → new.faults ≡ one_more old.faults
  pub others : (FailsNext old → ⊥) → new.faults ≡ old.faults
  pub latest : new.faults ≡ old.faults + new.latest
