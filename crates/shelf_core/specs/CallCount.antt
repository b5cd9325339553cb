-- How many calls a shelf in memory was given.
use Rattle.std.specs.Prelude.{ℕ, ◌+◌, ◌-◌, ◌^◌, min}
use Rattle.shelf_core.specs.declared.safe_shelf.SafeShelf.{SafeShelf}

-- the calls so far
abbrev pub calls_of : SafeShelf → ℕ
calls_of shelf = shelf.calls

-- the count after a call: it stays at the largest number of 64 bits
abbrev pub one_more : ℕ → ℕ
one_more calls = min (calls + 1) (2 ^ 64 - 1)
