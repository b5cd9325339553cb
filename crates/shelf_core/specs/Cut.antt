-- How many bytes a shelf in memory reads in one call.
use Rattle.std.specs.Prelude.{ℕ}
use Rattle.shelf_core.specs.declared.safe_shelf.SafeShelf.{SafeShelf}

-- the most that a call reads
abbrev pub cut_of : SafeShelf → ℕ
cut_of shelf = shelf.cut
