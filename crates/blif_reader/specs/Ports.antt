-- More ports of a BLIF file than the limit (this project's limit).
use Rattle.std.specs.Prelude.{◌≡◌, ℕ, ◌<◌, List, length}
use Rattle.net_core.specs.Limits.{most_ports}
use Rattle.text_core.specs.Piece.{Piece}
use Rattle.blif_reader.specs.JoinedLines.{word_of}

-- There are more words than the limit of ports, and the first after it stands at this offset.
pub record IsExcess (words : List Piece) (at : ℕ) : Type 0 where
  pub many : most_ports < length words
  pub offset : at ≡ (word_of words most_ports).at
