-- The numbers that the program prints for what is wrong with a netlist's file.
use Rattle.std.specs.Prelude.{ℕ}
use Rattle.net_file.specs.declared.fault.NetKind.{NetKind}
use Rattle.net_file.specs.declared.fault.NetKind.TheVariants as kind

-- the number by which reports name a fault of a netlist's file
abbrev pub kind_number : NetKind → ℕ
kind_number kind.Header = 1
kind_number kind.Sequential = 2
kind_number kind.Property = 3
kind_number kind.TooManyInputs = 4
kind_number kind.TooManyOutputs = 5
kind_number kind.TooManyGates = 6
kind_number kind.BadLine = 7
kind_number kind.BadLiteral = 8
kind_number kind.Redefined = 9
kind_number kind.Undefined = 10
kind_number kind.Delta = 11
kind_number kind.Cycle = 12
kind_number kind.BadSymbol = 13
kind_number kind.Truncated = 14
kind_number kind.Directive = 20
kind_number kind.Latch = 21
kind_number kind.DontCare = 22
kind_number kind.SecondModel = 23
kind_number kind.RowWidth = 24
kind_number kind.RowChar = 25
kind_number kind.MixedCover = 26
kind_number kind.RowOutside = 27
kind_number kind.NoPortLine = 28
kind_number kind.DuplicatePort = 29
kind_number kind.NameRedefined = 30
kind_number kind.NameUndefined = 31
kind_number kind.CoverCycle = 32
