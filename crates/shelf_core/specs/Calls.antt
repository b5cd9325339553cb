-- What each call of a shelf does: sequential files by name, as in the C library (fopen, fread, fwrite, fclose), one
-- open at a time. Facts on contents are so where the shelf `tells` its files.
use Rattle.std.specs.Prelude.{◌≡◌, ◌≢◌, ℕ, ◌+◌, ◌<◌, ◌≤◌, ◌⊎◌, Bool, IsTrue, List, [], ◌++◌, length, take, drop, Option, None, Some, Result, Err, IfOk, OnOk}
use Rattle.std.specs.Prelude.{OnErr, IfSome, IfNone}
use Rattle.shelf_core.specs.declared.outside.ShelfStop.{ShelfStop}
use Rattle.shelf_core.specs.declared.outside.ShelfStop.TheVariants.{Failed, Memory}
use Rattle.shelf_core.specs.Fault.{Rose}
use Rattle.shelf_core.specs.State.{ShelfState, Closed, Reading, Writing, grown}

-- Opening the file `name` for reading.
pub record Opens (tells : Bool) (name : List ℕ) (old new : ShelfState) (result : Result (Option ℕ) ShelfStop) : Type 0 where
  -- no file changes
  pub files : (n : List ℕ) → new.held n ≡ old.held n
  -- a length is answered: the file is open for reading, and all of it is unread
  pub reading : IfOk result (λ found. IfSome found (λ len. new.mode ≡ Reading))
  pub left : IfOk result (λ found. IfSome found (λ len. new.left ≡ len))
  pub named : IsTrue tells → IfOk result (λ found. IfSome found (λ len. new.name ≡ name))
  pub there : IsTrue tells → IfOk result (λ found. IfSome found (λ len. old.held name ≡ Some new.unread))
  pub size : IsTrue tells → IfOk result (λ found. IfSome found (λ len. length new.unread ≡ len))
  -- none is answered: there is no such file, and none is open
  pub absent : IsTrue tells → IfOk result (λ found. IfNone found (old.held name ≡ None))
  pub none_open : IfOk result (λ found. IfNone found (new.mode ≡ Closed))
  -- after a refusal none is open
  pub refused : OnErr result (new.mode ≡ Closed)
  -- a failure is counted, and nothing else is
  pub counted : new.faults ≡ old.faults + new.latest
  pub clean : OnOk result (new.faults ≡ old.faults)
  pub no_memory : result ≡ Err Memory → new.faults ≡ old.faults
  pub failed : result ≡ Err Failed → Rose old.faults new.faults

-- Reading the next bytes of the open file into a buffer that had `before` and then has `after`.
pub record Reads (tells : Bool) (old new : ShelfState) (before after : List ℕ) (result : Result ℕ ShelfStop) : Type 0 where
  -- no file changes, and the same file stays open for reading
  pub files : (n : List ℕ) → new.held n ≡ old.held n
  pub mode : new.mode ≡ Reading
  pub named : new.name ≡ old.name
  -- `k` bytes went to the front of the buffer: at least one, if there is one and room for it
  pub within : IfOk result (λ k. k ≤ length before)
  pub some : IfOk result (λ k. 0 < old.left → 0 < length before → 0 < k)
  pub left : IfOk result (λ k. k + new.left ≡ old.left)
  -- they are the next unread ones, and the rest of the buffer stays
  pub bytes : IsTrue tells → IfOk result (λ k. take k after ++ new.unread ≡ old.unread)
  pub rest : IsTrue tells → IfOk result (λ k. drop k after ≡ drop k before)
  -- after a refusal as much is unread as before
  pub left_stays : OnErr result (new.left ≡ old.left)
  pub unread_stays : OnErr result (new.unread ≡ old.unread)
  -- a failure is counted, and nothing else is
  pub counted : new.faults ≡ old.faults + new.latest
  pub clean : OnOk result (new.faults ≡ old.faults)
  pub no_memory : result ≡ Err Memory → new.faults ≡ old.faults
  pub failed : result ≡ Err Failed → Rose old.faults new.faults

-- Making the file `name`, empty, and opening it for writing.
pub record Creates (tells : Bool) (name : List ℕ) (old new : ShelfState) (result : Result (Unit {0}) ShelfStop) : Type 0 where
  -- no other file changes
  pub others : (n : List ℕ) → n ≢ name → new.held n ≡ old.held n
  pub writing : OnOk result (new.mode ≡ Writing)
  pub named : IsTrue tells → OnOk result (new.name ≡ name)
  pub empty : IsTrue tells → OnOk result (new.held name ≡ Some [])
  -- after a refusal none is open, and the file is as before or empty
  pub refused : OnErr result (new.mode ≡ Closed)
  pub kept : IsTrue tells → OnErr result ((new.held name ≡ old.held name) ⊎ (new.held name ≡ Some []))
  -- a failure is counted, and nothing else is
  pub counted : new.faults ≡ old.faults + new.latest
  pub clean : OnOk result (new.faults ≡ old.faults)
  pub no_memory : result ≡ Err Memory → new.faults ≡ old.faults
  pub failed : result ≡ Err Failed → Rose old.faults new.faults

-- Writing a piece at the end of the open file.
pub record Appends (tells : Bool) (piece : List ℕ) (old new : ShelfState) (result : Result (Unit {0}) ShelfStop) : Type 0 where
  -- no other file changes, and the same file stays open for writing
  pub others : (n : List ℕ) → n ≢ old.name → new.held n ≡ old.held n
  pub mode : new.mode ≡ Writing
  pub named : new.name ≡ old.name
  -- the file grows by the piece, and on a refusal by some first part of it
  pub whole : IsTrue tells → OnOk result (new.held old.name ≡ grown (old.held old.name) piece)
  pub part : IsTrue tells → OnErr result ((k : ℕ) × (new.held old.name ≡ grown (old.held old.name) (take k piece)))
  -- a failure is counted, and nothing else is
  pub counted : new.faults ≡ old.faults + new.latest
  pub clean : OnOk result (new.faults ≡ old.faults)
  pub no_memory : result ≡ Err Memory → new.faults ≡ old.faults
  pub failed : result ≡ Err Failed → Rose old.faults new.faults

-- Closing the open file.
pub record Closes (tells : Bool) (old new : ShelfState) (result : Result (Unit {0}) ShelfStop) : Type 0 where
  -- no file changes, and none is open after any answer
  pub files : (n : List ℕ) → new.held n ≡ old.held n
  pub closed : new.mode ≡ Closed
  -- a failure is counted, and nothing else is
  pub counted : new.faults ≡ old.faults + new.latest
  pub clean : OnOk result (new.faults ≡ old.faults)
  pub no_memory : result ≡ Err Memory → new.faults ≡ old.faults
  pub failed : result ≡ Err Failed → Rose old.faults new.faults
