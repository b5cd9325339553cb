-- The facts and bans that a ban's step names, and what a ban rests on: what its step names, what the steps of those
-- bans name, and so on, as in the trimming of proofs (Wetzler, Heule and Hunt: DRAT-trim, SAT 2014).
use Rattle.std.specs.Prelude.{◌≡◌, ℕ, ◌<◌, Bool, true, List, [], ◌∷◌, ◌++◌, All, option_to_list}
use Rattle.std.specs.List.{flat_map}
use Rattle.circuits.specs.Literals.{EachAt, bit}
use Rattle.account_core.specs.declared.step.Ban.{Ban}
use Rattle.account_core.specs.declared.step.Step.{Step}
use Rattle.account_core.specs.declared.step.Step.TheVariants.{Vector, Mismatch, Tally, Cover}

-- the facts that a step names
abbrev pub facts_named : Step → List ℕ
facts_named (Vector output values) = []
facts_named (Mismatch fails holds) = fails ∷ holds ∷ []
facts_named (Tally kind have lack) = have ++ lack
facts_named (Cover kind from to refs) = []

-- the bans that it names
abbrev pub bans_named : Step → List ℕ
bans_named (Vector output values) = []
bans_named (Mismatch fails holds) = []
bans_named (Tally kind have lack) = []
bans_named (Cover kind from to refs) = flat_map option_to_list refs

-- a ban's step names facts out of n, and bans before the k-th
pub record RefersBack (count k : ℕ) (ban : Ban) : Type 0 where
  pub facts : All (λ f. f < count) (facts_named ban.step)
  pub bans : All (λ b. b < k) (bans_named ban.step)

-- each ban names facts out of n, and bans before it
abbrev pub ReferBack : ℕ → List Ban → Type 0
ReferBack count bans = EachAt (λ k ban. RefersBack count k ban) bans

-- these numbers are marked
abbrev pub AreMarked : List Bool → List ℕ → Type 0
AreMarked marks numbers = All (λ k. bit marks k ≡ true) numbers

-- what a step names is marked
pub record HasMarked (facts bans : List Bool) (step : Step) : Type 0 where
  pub facts_are : AreMarked facts (facts_named step)
  pub bans_are : AreMarked bans (bans_named step)

-- Marks of facts and of bans among which is a ban, and with each ban all that its step names.
pub record IsClosed (all : List Ban) (number : ℕ) (facts bans : List Bool) : Type 0 where
  pub concluded : bit bans number ≡ true
  pub named : EachAt (λ k ban. bit bans k ≡ true → HasMarked facts bans ban.step) all

-- all that is marked is marked among others too
abbrev pub AreAmong : List Bool → List Bool → Type 0
AreAmong marks others = (k : ℕ) → bit marks k ≡ true → bit others k ≡ true

-- The marks of what a ban rests on: the least ones among which it is, with all that is named.
pub record IsNeeded (all : List Ban) (number : ℕ) (facts bans : List Bool) : Type 0 where
  pub closed : IsClosed all number facts bans
  pub least_facts : (of_facts of_bans : List Bool) → IsClosed all number of_facts of_bans → AreAmong facts of_facts
  pub least_bans : (of_facts of_bans : List Bool) → IsClosed all number of_facts of_bans → AreAmong bans of_bans
