-- What the steps of marking do.
use Rattle.std.specs.Prelude.{◌≡◌, ◌⊎◌, ℕ, Bool, true, List, length, Contains}
use Rattle.circuits.specs.Literals.{bit}
use Rattle.account_core.specs.declared.step.Step.{Step}
use Rattle.refusal_core.specs.Names.{AreAmong, AreMarked, HasMarked, bans_named, facts_named}
use Rattle.refusal_core.specs.declared.marking.CoreMarks.{CoreMarks}

-- a mark for each of n facts, and for each of n bans
abbrev pub AreMarks : ℕ → ℕ → CoreMarks → Type 0
AreMarks facts bans marks = (length marks.facts.items ≡ facts) × (length marks.bans.items ≡ bans)

-- These numbers were marked beside what was marked, and nothing else.
pub record Adds (numbers : List ℕ) (old new : List Bool) : Type 0 where
  pub as_many : length new ≡ length old
  pub marked : AreMarked new numbers
  pub stay : AreAmong old new
  pub only : (k : ℕ) → bit new k ≡ true → (bit old k ≡ true) ⊎ Contains numbers k

-- What a step names was marked if its ban, at a place, was marked; and nothing else.
pub record MarksNamed (place : ℕ) (step : Step) (old new : CoreMarks) : Type 0 where
  pub as_many_facts : length new.facts.items ≡ length old.facts.items
  pub as_many_bans : length new.bans.items ≡ length old.bans.items
  pub marked : bit old.bans.items place ≡ true → HasMarked new.facts.items new.bans.items step
  pub facts_stay : AreAmong old.facts.items new.facts.items
  pub bans_stay : AreAmong old.bans.items new.bans.items
  pub only_facts : (k : ℕ) → bit new.facts.items k ≡ true
      → (bit old.facts.items k ≡ true) ⊎ ((bit old.bans.items place ≡ true) × Contains (facts_named step) k)
  pub only_bans : (k : ℕ) → bit new.bans.items k ≡ true
      → (bit old.bans.items k ≡ true) ⊎ ((bit old.bans.items place ≡ true) × Contains (bans_named step) k)
