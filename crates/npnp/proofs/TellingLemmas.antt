-- What a run reports is what was answered.
use Rattle.std.proofs.Common.{◌≡◌, inl, inr, ℕ, List, Option, sym, subst, ◌∙◌}
use Rattle.run_steps.specs.Outcomes.{IsSoundAnswer, IsReported}
use Rattle.run_steps.specs.Steps.{SaysLine}
use Rattle.check_steps.specs.declared.outcome.Ending.{Ending}
use Rattle.check_steps.specs.declared.outcome.Outcome.{Outcome}
use Rattle.check_steps.specs.declared.outcome.Outcome.TheVariants.{Memory}

-- an outcome that is reported whole is the one that was answered
pub answered_as : {reported answered outcome : Outcome} → (IsReported reported → reported ≡ answered) → IsReported outcome → reported ≡ outcome → answered ≡ outcome
answered_as same whole is = sym (same (subst IsReported (sym is) whole)) ∙ is

-- what holds of an outcome, and where memory runs out, holds of what its line says
pub by_line : (P : Outcome → Type 0) {outcome : Outcome} (ending : Ending) → SaysLine outcome ending → P outcome → P Memory → P ending.outcome
by_line P ending (inl line) one memory = subst P (sym line.0) one
by_line P ending (inr is) one memory = subst P (sym is) memory

-- where memory is refused nothing is accepted
pub sound_memory : {held : List ℕ → Option (List ℕ)} {words : List (List ℕ)} → IsSoundAnswer held words Memory
sound_memory {held} {words} = record { matches = λ matching e. cc; refuses = λ e. cc }
