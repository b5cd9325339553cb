-- A place and one as a number, so that 0 is none.
use Rattle.std.specs.Prelude.{ℕ, zero, suc, Option, None, Some}

-- the place that a number says, if it says one
abbrev pub place_of : ℕ → Option ℕ
place_of zero = None
place_of (suc place) = Some place
