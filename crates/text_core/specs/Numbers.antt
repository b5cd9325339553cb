-- Numbers in base ten, as the digits of RFC 5234 (DIGIT is %x30-39): one digit or more, and nothing else.
use Rattle.std.specs.Prelude.{ℕ, Bool, ◌&&◌, List, Option, Some, None, if◌then◌else◌}
use Rattle.std.specs.Str.{all_ascii_digits}
use Rattle.std.specs.Str.Parse.{digits_value}
use Rattle.text_core.specs.Words.{is_not_empty}

-- a word of digits alone, at least one of them
abbrev pub is_numeral : List ℕ → Bool
is_numeral word = is_not_empty word && all_ascii_digits word

-- the number that a word writes in base ten, without a limit, if it writes one
abbrev pub number : List ℕ → Option ℕ
number word = if is_numeral word then Some (digits_value 10 word) else None
