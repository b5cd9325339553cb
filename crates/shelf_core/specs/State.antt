-- What a shelf and a sink mean to a caller.
use Rattle.std.specs.Prelude.{ℕ, List, ◌++◌, Option, None, Some}

-- How a shelf's file stands open; at most one file is open at a time.
pub data Mode : Type 0 where
  Closed : Mode
  Reading : Mode
  Writing : Mode

-- What a caller knows of a shelf: its files, the one that is open, and what has failed.
pub record ShelfState : Type 0 where
  -- the files: the bytes under each name, none where there is no such file
  pub held : List ℕ → Option (List ℕ)
  -- whether a file is open, and for what
  pub mode : Mode
  -- the name of the open file
  pub name : List ℕ
  -- how many bytes of the file that is read are still unread
  pub left : ℕ
  -- those bytes
  pub unread : List ℕ
  -- how many failures there were
  pub faults : ℕ
  -- how many of them came in the last call
  pub latest : ℕ

-- What a caller knows of a sink: what was written to it, and what has failed.
pub record SinkState : Type 0 where
  -- all bytes that the sink took, in order
  pub written : List ℕ
  -- how many failures there were
  pub faults : ℕ
  -- how many of them came in the last call
  pub latest : ℕ

-- The bytes under a name once a piece was written at the end of its file.
abbrev pub grown : Option (List ℕ) → List ℕ → Option (List ℕ)
grown None piece = Some piece
grown (Some bytes) piece = Some (bytes ++ piece)
