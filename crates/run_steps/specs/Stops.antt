-- What ends a run where a file isn't read or written.
use Rattle.shelf_core.specs.declared.outside.ShelfStop.{ShelfStop}
use Rattle.shelf_core.specs.declared.outside.ShelfStop.TheVariants.{Failed, Memory}
use Rattle.check_steps.specs.declared.outcome.Outcome.{Outcome}
use Rattle.check_steps.specs.declared.outcome.Outcome.TheVariants as outcome

-- what a refusal of a write ends the run with
abbrev pub unwritten : ShelfStop → Outcome
unwritten Failed = outcome.WriteFault
unwritten Memory = outcome.Memory
