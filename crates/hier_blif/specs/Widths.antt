-- Covers whose rows are as wide as their operands.
use Rattle.std.specs.Prelude.{◌≡◌, length, All}
use Rattle.hier_blif.specs.declared.model.CoverLine.{CoverLine}
use Rattle.hier_blif.specs.declared.model.BlifModel.{BlifModel}
use Rattle.hier_blif.specs.Names.{covers_of}

-- each row of a cover has an entry for each operand
abbrev pub IsWide : CoverLine → Type 0
IsWide line = All (λ row. length row ≡ length line.operands) line.rows

-- all rows of a model's covers are as wide as their operands
abbrev pub HasWideCovers : BlifModel → Type 0
HasWideCovers model = All IsWide (covers_of model)
