-- The words of a command line.
use Rattle.std.specs.Prelude.{ℕ, List, String, map, string_bytes}

-- the bytes of each word
abbrev pub bytes_of : {Z : Type 0} → List (String Z) → List (List ℕ)
bytes_of words = map string_bytes words
