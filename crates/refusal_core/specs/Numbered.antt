-- Steps whose facts and bans have other numbers.
use Rattle.std.specs.Prelude.{ℕ, List, map, slice_index_or}
use Rattle.std.specs.Option.{option_map}
use Rattle.account_core.specs.declared.step.Ban.{Ban}
use Rattle.account_core.specs.declared.step.Step.{Step}
use Rattle.account_core.specs.declared.step.Step.TheVariants.{Vector, Mismatch, Tally, Cover}

-- a step that names each fact and each ban by another number
abbrev pub step_by : (ℕ → ℕ) → (ℕ → ℕ) → Step → Step
step_by of_fact of_ban (Vector output values) = Vector output values
step_by of_fact of_ban (Mismatch fails holds) = Mismatch (of_fact fails) (of_fact holds)
step_by of_fact of_ban (Tally kind have lack) = Tally kind (map of_fact have) (map of_fact lack)
step_by of_fact of_ban (Cover kind from to refs) = Cover kind from to (map (option_map of_ban) refs)

-- the numbers that stand at their places in lists
abbrev pub at : List ℕ → ℕ → ℕ
at numbers place = slice_index_or numbers place 0

-- a step, with the numbers that its facts and its bans have now
abbrev pub numbered : List ℕ → List ℕ → Step → Step
numbered facts bans step = step_by (at facts) (at bans) step

-- a ban of the same pairs, with the numbers that what it rests on has now
abbrev pub numbered_ban : List ℕ → List ℕ → Ban → Ban
numbered_ban facts bans ban = record { pairs = ban.pairs; step = numbered facts bans ban.step }
