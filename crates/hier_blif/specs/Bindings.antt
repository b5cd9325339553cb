-- The words of a `.subckt` line that bind ports (Berkeley Logic Interchange Format, 1992: `formal=actual`).
use Rattle.std.specs.Prelude.{ℕ, ◌+◌, ◌==◌, ◌||◌, Bool, List, length, drop}
use Rattle.std.specs.List.{before_first}
use Rattle.text_core.specs.Piece.{Piece}

-- the equals sign `=`
abbrev pub is_equals : ℕ → Bool
is_equals byte = byte == 61

-- what stands before a word's first `=`: a port of the named model
abbrev pub formal_of : List ℕ → List ℕ
formal_of word = before_first is_equals word

-- what stands after a word's first `=`: a name of the model in which the line stands
abbrev pub actual_of : List ℕ → List ℕ
actual_of word = drop (length (formal_of word) + 1) word

-- a word that has no `=`, or nothing before its first one or nothing after it: then one of the two parts is empty
abbrev pub is_malformed_binding : Piece → Bool
is_malformed_binding word = length (formal_of word.bytes) == 0 || length (actual_of word.bytes) == 0
