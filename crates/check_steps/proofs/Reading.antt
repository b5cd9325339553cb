-- How far the reading of a file has come.
use Rattle.std.proofs.Common.{◌≡◌, ℕ, ◌+◌, Bool, IsTrue, List, ◌++◌, length}
use Rattle.shelf_core.specs.State.{ShelfState}
use Rattle.check_steps.specs.Files.{HasUnread}

pub record IsUnderWay (tells : Bool) (start now : ShelfState) (done : List ℕ) (size left : ℕ) : Type 0 where
  pub unread : HasUnread tells now left
  pub done_is : length done + left ≡ size
  pub bytes : IsTrue tells → done ++ now.unread ≡ start.unread
  pub files : (n : List ℕ) → now.held n ≡ start.held n
  pub clean : now.faults ≡ start.faults
