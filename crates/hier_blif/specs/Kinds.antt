-- The numbers of what is wrong with a file of models, and what faults of rows are here.
use Rattle.std.specs.Prelude.{ℕ}
use Rattle.net_file.specs.declared.fault.NetKind.{NetKind}
use Rattle.net_file.specs.declared.fault.NetKind.TheVariants as row
use Rattle.hier_blif.specs.declared.fault.HierKind.{HierKind}
use Rattle.hier_blif.specs.declared.fault.HierKind.TheVariants as kind

-- the number by which reports name a fault of a file of models
abbrev pub kind_number : HierKind → ℕ
kind_number kind.TooManyInputs = 4
kind_number kind.TooManyOutputs = 5
kind_number kind.TooManyGates = 6
kind_number kind.Directive = 20
kind_number kind.Sequential = 21
kind_number kind.DontCare = 22
kind_number kind.RowWidth = 24
kind_number kind.RowChar = 25
kind_number kind.MixedCover = 26
kind_number kind.RowOutside = 27
kind_number kind.NoPortLine = 28
kind_number kind.DuplicatePort = 29
kind_number kind.Redefined = 30
kind_number kind.Undefined = 31
kind_number kind.Cycle = 32
kind_number kind.ModelName = 40
kind_number kind.NoModel = 41
kind_number kind.Binding = 42
kind_number kind.Formal = 43
kind_number kind.FormalTwice = 44
kind_number kind.Unbound = 45
kind_number kind.Recursion = 46
kind_number kind.TooBig = 47

-- a row has one of four faults
abbrev pub kind_of_row : NetKind → HierKind
kind_of_row row.RowWidth = kind.RowWidth
kind_of_row row.RowChar = kind.RowChar
kind_of_row row.MixedCover = kind.MixedCover
kind_of_row other = kind.RowOutside
