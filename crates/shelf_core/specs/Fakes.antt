-- What shelves and sinks in memory mean some of whose calls are made to fail.
use Rattle.std.specs.Prelude.{ℕ}
use Rattle.shelf_core.specs.State.{ShelfState}
use Rattle.shelf_core.specs.Failing.{Failing}
use Rattle.shelf_core.specs.declared.mem_shelf.MemShelf.{MemShelf}
use Rattle.shelf_core.specs.declared.mem_sink.MemSink.{MemSink}

-- a shelf without failures, with those that were made
abbrev pub with_faults : ShelfState → Failing → ShelfState
with_faults state failing = record state { faults = failing.faults; latest = failing.latest }

-- which calls of a shelf fail, and how many there were
abbrev pub failing_of : MemShelf → Failing
failing_of shelf = shelf.failing

-- the most that a call reads
abbrev pub most_read : MemShelf → ℕ
most_read shelf = shelf.inside.cut

-- which calls of a sink fail, and how many there were
abbrev pub failing_puts : MemSink → Failing
failing_puts sink = sink.failing
