-- What a call of a sink does, an output stream that only grows. Facts on bytes are so where the sink `tells` them.
use Rattle.std.specs.Prelude.{◌≡◌, ℕ, ◌+◌, Bool, IsTrue, List, ◌++◌, take, Result, Err, OnOk, OnErr}
use Rattle.shelf_core.specs.declared.outside.ShelfStop.{ShelfStop}
use Rattle.shelf_core.specs.declared.outside.ShelfStop.TheVariants.{Failed, Memory}
use Rattle.shelf_core.specs.Fault.{Rose}
use Rattle.shelf_core.specs.State.{SinkState}

-- Writing a piece after all that was written.
pub record Puts (tells : Bool) (piece : List ℕ) (old new : SinkState) (result : Result (Unit {0}) ShelfStop) : Type 0 where
  pub whole : IsTrue tells → OnOk result (new.written ≡ old.written ++ piece)
  -- on a refusal some first part of the piece was written
  pub part : IsTrue tells → OnErr result ((k : ℕ) × (new.written ≡ old.written ++ take k piece))
  -- a failure is counted, and nothing else is
  pub counted : new.faults ≡ old.faults + new.latest
  pub clean : OnOk result (new.faults ≡ old.faults)
  pub no_memory : result ≡ Err Memory → new.faults ≡ old.faults
  pub failed : result ≡ Err Failed → Rose old.faults new.faults
