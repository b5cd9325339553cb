-- What writing a text under a name does.
use Rattle.std.specs.Prelude.{◌≡◌, ◌≢◌, ◌⊎◌, ℕ, Bool, IsTrue, List, ◌++◌, take, Option, Some, Result, Err, OnOk, OnErr}
use Rattle.shelf_core.specs.Fault.{NoCallFollows, Rose}
use Rattle.shelf_core.specs.State.{ShelfState, Writing}
use Rattle.shelf_core.specs.declared.outside.ShelfStop.{ShelfStop}
use Rattle.shelf_core.specs.declared.outside.ShelfStop.TheVariants.{Failed}

-- what stands under a name is the first bytes of a text
abbrev pub HasFirst : List ℕ → Option (List ℕ) → Type 0
HasFirst text content = (count : ℕ) × (content ≡ Some (take count text))

-- Writing a text under a name, in place of what it has.
pub record WritesFile (tells : Bool) (name text : List ℕ) (old new : ShelfState)
    (result : Result (Unit {0}) ShelfStop) : Type 0 where
  -- no other file changes
  pub others : IsTrue tells → (n : List ℕ) → n ≢ name → new.held n ≡ old.held n
  pub whole : IsTrue tells → OnOk result (new.held name ≡ Some text)
  -- after a refusal the file is as it was, or a first part of the text
  pub part : IsTrue tells → OnErr result ((new.held name ≡ old.held name) ⊎ HasFirst text (new.held name))
  pub clean : OnOk result (new.faults ≡ old.faults)
  pub last : NoCallFollows old new
  pub failed : result ≡ Err Failed → Rose old.faults new.faults

-- Writing to the open file the next bytes of what is still to be written of a text: `pending` before, and `left`
-- afterwards.
pub record WritesOn (tells : Bool) (pending left : List ℕ) (old new : ShelfState)
    (result : Result (Unit {0}) ShelfStop) : Type 0 where
  -- no other file changes, and the same file stays open for writing
  pub others : IsTrue tells → (n : List ℕ) → n ≢ old.name → new.held n ≡ old.held n
  pub writing : new.mode ≡ Writing
  pub named : new.name ≡ old.name
  -- the file grows by what isn't left any more, and on a refusal by some first part of what is still to be written
  pub whole : IsTrue tells → (there : List ℕ) → old.held old.name ≡ Some there
      → OnOk result ((piece : List ℕ) × (pending ≡ piece ++ left) × (new.held old.name ≡ Some (there ++ piece)))
  pub part : IsTrue tells → (there : List ℕ) → old.held old.name ≡ Some there
      → OnErr result ((count : ℕ) × (new.held old.name ≡ Some (there ++ take count pending)))
  pub clean : OnOk result (new.faults ≡ old.faults)
  pub last : NoCallFollows old new
  pub failed : result ≡ Err Failed → Rose old.faults new.faults
