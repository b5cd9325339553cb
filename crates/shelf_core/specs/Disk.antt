-- How a file of the machine stands open.
use Rattle.std.specs.Prelude.{◌≡◌, ℕ, ◌-◌, [], None}
use Rattle.shelf_core.specs.State.{Mode, Closed, Reading, Writing, ShelfState}
use Rattle.shelf_core.specs.declared.disk_shelf.Opened.{Opened}
use Rattle.shelf_core.specs.declared.file_error.Faults.{Faults}
use Rattle.shelf_core.specs.declared.disk_shelf.Opened.TheVariants as opened

-- whether a file is open, and whether it is read or written
abbrev pub disk_mode : {F A : Type 0} → Opened F A → Mode
disk_mode opened.No = Closed
disk_mode (opened.Reading file left) = Reading
disk_mode (opened.Held stream) = Reading
disk_mode (opened.Endless left) = Reading
disk_mode (opened.Writing file room) = Writing

-- how many bytes of the open file are still unread; none of one that is written
abbrev pub disk_left : {F A : Type 0} → Opened F A → ℕ
disk_left opened.No = 0
disk_left (opened.Reading file left) = left
disk_left (opened.Held stream) = stream
disk_left (opened.Endless left) = left
disk_left (opened.Writing file room) = 0

-- open for reading, with n bytes unread
pub record IsOpenToRead {F A : Type 0} (file : Opened F A) (left : ℕ) : Type 0 where
  pub mode : disk_mode file ≡ Reading
  pub unread : disk_left file ≡ left

-- how many failures came in the last call
abbrev pub latest_of : Faults → ℕ
latest_of faults = faults.count - faults.before

-- what is known of the machine's files: which kind of call is open, how much is unread, and the failures
abbrev pub disk_state : {F A : Type 0} → Opened F A → Faults → ShelfState
disk_state file faults = record {
  held = λ _. None;
  mode = disk_mode file;
  name = [];
  left = disk_left file;
  unread = [];
  faults = faults.count;
  latest = latest_of faults;
}
