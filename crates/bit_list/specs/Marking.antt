-- Marks of numbers, as they are kept.
use Rattle.std.specs.Prelude.{ℕ, ◌<◌, Bool, List, All, map, nat_eq}
use Rattle.std.specs.List.{list_any, range_with_len}
use Rattle.bit_list.specs.declared.marks.Form.{Form}
use Rattle.bit_list.specs.declared.marks.Form.TheVariants.{Few, Table}

-- whether each number below a count is among some
abbrev pub listed_marks : ℕ → List ℕ → List Bool
listed_marks count numbers = map (λ k. list_any (nat_eq k) numbers) (range_with_len 0 count)

-- whether each number is marked
abbrev pub marks_in : Form → List Bool
marks_in (Few count numbers) = listed_marks count numbers.keys
marks_in (Table table) = table.items

-- the numbers that are listed are below the count
abbrev pub AreBelow : Form → Type 0
AreBelow (Few count numbers) = All (λ number. number < count) numbers.keys
AreBelow (Table table) = Unit {0}
