-- Numbers in groups of seven bits, the lowest first (LEB128: DWARF 5, section 7.6).
use Rattle.std.specs.Prelude.{ℕ, zero, suc, ◌+◌, ◌/◌, ◌%◌, List, [], ◌∷◌, nat_lt, if◌then◌else◌}

-- a number below 128 is its own last group; of any other the low seven bits come first, marked by the eighth. So many
-- groups stand after the first one at most, of which the last may be greater where the number is.
abbrev pub groups : ℕ → ℕ → List ℕ
groups zero n = n ∷ []
groups (suc more) n = if nat_lt n 128 then n ∷ [] else (128 + n % 128) ∷ groups more (n / 128)
