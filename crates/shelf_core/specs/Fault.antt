-- When an outside world may report a failure. A shelf and a sink count their failures, and a failure is reported
-- only with its count: the caller can tell that the outside is the cause.
use Rattle.std.specs.Prelude.{◌≡◌, ℕ, ◌+◌, ◌-◌, ◌^◌, ◌<◌, ◌≤◌, ◌⊎◌}
use Rattle.shelf_core.specs.State.{ShelfState, SinkState}

-- A count rose over calls, or stood at its last value, the largest number of 64 bits.
abbrev pub Rose : ℕ → ℕ → Type 0
Rose old new = (old < new) ⊎ (old ≡ 2 ^ 64 - 1)

-- What failures of a shelf were counted between two states came in the last call: no call followed one that failed.
abbrev pub NoCallFollows : ShelfState → ShelfState → Type 0
NoCallFollows old new = new.faults ≤ old.faults + new.latest

-- and so of a sink
abbrev pub NoPutFollows : SinkState → SinkState → Type 0
NoPutFollows old new = new.faults ≤ old.faults + new.latest
