-- What shelves and sinks in memory mean. They have no failures.
use Rattle.std.specs.Prelude.{◌≡◌, ℕ, ◌+◌, ◌<◌, List, [], ◌∷◌, ◌++◌, length, drop, Option, None, Some, cond, slice_index_or}
use Rattle.std.specs.Str.{bytes_eq}
use Rattle.shelf_core.specs.State.{Mode, Closed, Reading, Writing, ShelfState, SinkState}
use Rattle.shelf_core.specs.declared.safe_shelf.Opened.{Opened}
use Rattle.shelf_core.specs.declared.safe_shelf.Opened.TheVariants as opened

-- a sink in memory is the bytes that were written to it
abbrev pub safe_sink : List ℕ → SinkState
safe_sink bytes = record { written = bytes; faults = 0; latest = 0 }

-- a file: its name and its bytes
abbrev pub File : Type 0
File = List ℕ × List ℕ

-- the bytes of the first file of a name
abbrev pub look_up : List File → List ℕ → Option (List ℕ)
look_up [] name = None
look_up (file ∷ files) name = cond (bytes_eq file.0 name) (Some file.1) (look_up files name)

-- the file at a place
abbrev pub file_at : List File → ℕ → File
file_at files place = slice_index_or files place ([], [])

-- where the first file of a name stands
pub record IsPlace (files : List File) (name : List ℕ) (place : ℕ) : Type 0 where
  pub in_range : place < length files
  pub name_is : (file_at files place).0 ≡ name
  pub found : look_up files name ≡ Some (file_at files place).1

-- the files once the first of them grew by a piece
abbrev pub grow_first : List File → List ℕ → List File
grow_first [] piece = []
grow_first (file ∷ files) piece = (file.0, file.1 ++ piece) ∷ files

-- How a shelf in memory stands open: a file is read at its place, from a byte on; the file that is written is the
-- first.
abbrev pub open_mode : Opened → Mode
open_mode opened.No = Closed
open_mode (opened.Reading place at) = Reading
open_mode opened.Writing = Writing

-- the name of the open file, and no bytes where none is open
abbrev pub open_name : List File → Opened → List ℕ
open_name files opened.No = []
open_name files (opened.Reading place at) = (file_at files place).0
open_name files opened.Writing = (file_at files 0).0

-- the bytes of the file that is read, from where reading goes on
abbrev pub open_unread : List File → Opened → List ℕ
open_unread files opened.No = []
open_unread files (opened.Reading place at) = drop at (file_at files place).1
open_unread files opened.Writing = []

-- what a caller sees of a shelf in memory, by its files and how one of them stands open
abbrev pub safe_shelf : List File → Opened → ShelfState
safe_shelf files open_as = record {
  held = look_up files;
  mode = open_mode open_as;
  name = open_name files open_as;
  left = length (open_unread files open_as);
  unread = open_unread files open_as;
  faults = 0;
  latest = 0;
}

-- how many files there have to be for the one that is open
abbrev pub places_needed : Opened → ℕ
places_needed opened.No = 0
places_needed (opened.Reading place at) = 1 + place
places_needed opened.Writing = 1

-- how many bytes the open file has to have for what was read
abbrev pub bytes_needed : Opened → ℕ
bytes_needed opened.No = 0
bytes_needed (opened.Reading place at) = at
bytes_needed opened.Writing = 0

-- the bytes of the file that is read
abbrev pub open_bytes : List File → Opened → List ℕ
open_bytes files opened.No = []
open_bytes files (opened.Reading place at) = (file_at files place).1
open_bytes files opened.Writing = []
