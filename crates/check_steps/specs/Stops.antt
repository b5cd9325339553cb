-- What ends a run where a file isn't read.
use Rattle.check_steps.specs.declared.files.ReadStop.{ReadStop}
use Rattle.check_steps.specs.declared.files.ReadStop.TheVariants as stop
use Rattle.check_steps.specs.declared.outcome.Outcome.{Outcome}
use Rattle.check_steps.specs.declared.outcome.Outcome.TheVariants as outcome

-- how a run ends whose file can't be read: by a fault of the outside, or out of memory
abbrev pub outcome_of : ReadStop → Outcome
outcome_of stop.ReadFault = outcome.ReadFault
outcome_of stop.Memory = outcome.Memory
