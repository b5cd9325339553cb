-- What reading a file whole does.
use Rattle.std.specs.Prelude.{◌≡◌, ℕ, ◌+◌, ◌<◌, ◌≤◌, Bool, IsTrue, List, ◌++◌, length, Option, None, Some, Result, Err, IfOk, OnOk, Vec}
use Rattle.std.specs.declared.alloc.Global.{Global}
use Rattle.shelf_core.specs.Fault.{NoCallFollows, Rose}
use Rattle.shelf_core.specs.State.{ShelfState, Closed, Reading}
use Rattle.check_steps.specs.declared.files.File.{File}
use Rattle.check_steps.specs.declared.files.File.TheVariants.{Absent, TooLong, Bytes}
use Rattle.check_steps.specs.declared.files.ReadStop.{ReadStop}
use Rattle.check_steps.specs.declared.files.ReadStop.TheVariants.{ReadFault}

-- what an answer says of what stands under the name
abbrev pub Tells : ℕ → Option (List ℕ) → File → Type 0
Tells limit held Absent = held ≡ None
Tells limit held TooLong = (bytes : List ℕ) × (held ≡ Some bytes) × (limit < length bytes)
Tells limit held (Bytes bytes) = (held ≡ Some bytes.items) × (length bytes.items ≤ limit)

-- a file has at most n bytes
abbrev pub IsWithin : ℕ → File → Type 0
IsWithin limit (Bytes bytes) = length bytes.items ≤ limit
IsWithin limit other = Unit {0}

-- A file is open for reading, with this many bytes unread.
pub record HasUnread (tells : Bool) (state : ShelfState) (count : ℕ) : Type 0 where
  pub reading : state.mode ≡ Reading
  pub left : state.left ≡ count
  pub told : IsTrue tells → length state.unread ≡ count

-- Reading whole what stands under a name, if it has at most `limit` bytes.
pub record ReadsFile (tells : Bool) (limit : ℕ) (held : Option (List ℕ)) (old new : ShelfState) (result : Result File ReadStop) : Type 0 where
  -- no file changes, and none is open after an answer
  pub files : (n : List ℕ) → new.held n ≡ old.held n
  pub closed : OnOk result (new.mode ≡ Closed)
  pub found : IsTrue tells → IfOk result (Tells limit held)
  pub short : IfOk result (IsWithin limit)
  pub clean : OnOk result (new.faults ≡ old.faults)
  pub last : NoCallFollows old new
  pub failed : result ≡ Err ReadFault → Rose old.faults new.faults

-- what was read, if anything, is what stands under the name
abbrev pub IsContent : Option (List ℕ) → Option (Vec ℕ Global) → Type 0
IsContent held None = held ≡ None
IsContent held (Some bytes) = held ≡ Some bytes.items

-- Reading the open file, of so many bytes, to its end, and closing it.
pub record ReadsOpen (tells : Bool) (size : ℕ) (old new : ShelfState) (result : Result (Vec ℕ Global) ReadStop) : Type 0 where
  pub files : (n : List ℕ) → new.held n ≡ old.held n
  pub closed : OnOk result (new.mode ≡ Closed)
  pub bytes : IsTrue tells → IfOk result (λ bytes. bytes.items ≡ old.unread)
  pub size_is : IfOk result (λ bytes. length bytes.items ≡ size)
  pub clean : OnOk result (new.faults ≡ old.faults)
  pub last : NoCallFollows old new
  pub failed : result ≡ Err ReadFault → Rose old.faults new.faults

-- Reading whole what stands under a name, however long it is.
pub record ReadsWhole (tells : Bool) (held : Option (List ℕ)) (old new : ShelfState)
    (result : Result (Option (Vec ℕ Global)) ReadStop) : Type 0 where
  -- no file changes, and none is open after an answer
  pub files : (n : List ℕ) → new.held n ≡ old.held n
  pub closed : OnOk result (new.mode ≡ Closed)
  pub found : IsTrue tells → IfOk result (IsContent held)
  pub clean : OnOk result (new.faults ≡ old.faults)
  pub last : NoCallFollows old new
  pub failed : result ≡ Err ReadFault → Rose old.faults new.faults

-- Reading once, and adding what came to what was there.
pub record ReadsPiece (tells : Bool) (old new : ShelfState) (before after : List ℕ) (result : Result ℕ ReadStop) : Type 0 where
  pub files : (n : List ℕ) → new.held n ≡ old.held n
  pub mode : new.mode ≡ Reading
  pub some : IfOk result (λ count. 0 < count)
  pub left : IfOk result (λ count. count + new.left ≡ old.left)
  pub grown : IfOk result (λ count. length after ≡ length before + count)
  pub bytes : IsTrue tells → IfOk result (λ count. after ++ new.unread ≡ before ++ old.unread)
  pub unread : IsTrue tells → IfOk result (λ count. count + length new.unread ≡ length old.unread)
  pub clean : OnOk result (new.faults ≡ old.faults)
  pub last : NoCallFollows old new
  pub failed : result ≡ Err ReadFault → Rose old.faults new.faults
