-- What stands between a row of a cover, position by position, and the AND of its literals.
use Rattle.std.specs.Prelude.{ℕ, List, Option, None, Some}
use Rattle.circuits.specs.declared.netlist.Lit.{Lit}
use Rattle.circuits.specs.declared.netlist.Gate.{Gate}
use Rattle.circuits.specs.Expansion.{Made, made, and_each, and_all}

-- the AND of what a row has made so far, if there is anything, and of the literals that are left
abbrev pub row_continued : ℕ → List Gate → Option Lit → List Lit → Made
row_continued first gates None rest = and_all first gates rest
row_continued first gates (Some value) rest = and_each first (made gates value) rest
