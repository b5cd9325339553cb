-- The words of a line as numbers (AIGER 1.9: unsigned and in decimal digits).
use Rattle.std.specs.Prelude.{ℕ, ◌^◌, ◌<◌, List, map, All, Option}
use Rattle.text_core.specs.Words.{words}
use Rattle.text_core.specs.Numbers.{number}

-- what the words of a line write: a number each, or none where a word isn't one
abbrev pub numbers_on : List ℕ → List (Option ℕ)
numbers_on line = map number (words line)

-- each number fits 32 bits
abbrev pub AreSmall : List ℕ → Type 0
AreSmall numbers = All (λ n. n < 2 ^ 32) numbers
