-- Facts and bans without those that a conclusion doesn't rest on, numbered again.
use Rattle.std.specs.Prelude.{◌≡◌, ℕ, zero, suc, Bool, true, false, List, [], ◌∷◌, length, map}
use Rattle.std.specs.List.{range_with_len}
use Rattle.account_core.specs.declared.fact.Fact.{Fact}
use Rattle.account_core.specs.declared.step.Ban.{Ban}
use Rattle.account_core.specs.declared.step.Step.{Step}
use Rattle.refusal_core.specs.Names.{IsNeeded}
use Rattle.refusal_core.specs.Numbered.{step_by}
use Rattle.refusal_core.specs.declared.trimming.Core.{Core}

-- those of a list that are marked
abbrev pub kept : {X : Type 0} → List Bool → List X → List X
kept {X} [] xs = []
kept {X} (mark ∷ marks) [] = []
kept {X} (true ∷ marks) (x ∷ xs) = x ∷ kept marks xs
kept {X} (false ∷ marks) (x ∷ xs) = kept marks xs

-- the number that a marked one gets: how many marked ones come before it
abbrev pub number_of : List Bool → ℕ → ℕ
number_of [] k = 0
number_of (mark ∷ marks) zero = 0
number_of (true ∷ marks) (suc k) = suc (number_of marks k)
number_of (false ∷ marks) (suc k) = number_of marks k

-- the new numbers, each at the old one
abbrev pub new_numbers : List Bool → List ℕ
new_numbers marks = map (number_of marks) (range_with_len 0 (length marks))

-- a step whose facts and bans have their new numbers
abbrev pub renumbered : List Bool → List Bool → Step → Step
renumbered facts bans step = step_by (number_of facts) (number_of bans) step

-- a ban of the same pairs, whose step names what is left by the new numbers
abbrev pub renumbered_ban : List Bool → List Bool → Ban → Ban
renumbered_ban facts bans ban = record { pairs = ban.pairs; step = renumbered facts bans ban.step }

-- What is left of facts and bans for a ban: what it rests on, in order, each with its new number.
pub record IsTrimmed (facts : List Fact) (bans : List Ban) (number : ℕ) (core : Core) : Type 0 where
  pub fact_marks : List Bool
  pub ban_marks : List Bool
  pub as_many_facts : length fact_marks ≡ length facts
  pub as_many_bans : length ban_marks ≡ length bans
  pub needed : IsNeeded bans number fact_marks ban_marks
  pub facts_are : core.facts ≡ kept fact_marks facts
  pub bans_are : core.bans ≡ map (renumbered_ban fact_marks ban_marks) (kept ban_marks bans)
  pub number_is : core.number ≡ number_of ban_marks number
