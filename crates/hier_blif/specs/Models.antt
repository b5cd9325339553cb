-- The models of a BLIF text (Berkeley Logic Interchange Format, University of California at Berkeley, 1992: "a model is
-- .. begun by `.model` .. and ended by `.end`", and `.subckt` makes an instance of another one). The first is the top.
use Rattle.std.specs.Prelude.{ℕ, ◌-◌, ◌||◌, Bool, not, List, [], ◌∷◌, ◌++◌, length, map, take_while, drop, slice_index_or, if◌then◌else◌}
use Rattle.std.specs.List.{list_all}
use Rattle.text_core.specs.Piece.{Piece}
use Rattle.blif_reader.specs.declared.directive.Directive.{Directive}
use Rattle.blif_reader.specs.declared.directive.Directive.TheVariants as directive
use Rattle.blif_reader.specs.JoinedLines.{word_of}
use Rattle.blif_reader.specs.Directives.{directive_of, is_model, is_passed_over}
use Rattle.blif_reader.specs.Rows.{rows_of}
use Rattle.blif_reader.specs.Names.{operands}
use Rattle.blif_reader.specs.Covers.{trits_of, are_on}
use Rattle.blif_reader.specs.Faults.{has_line}
use Rattle.hier_blif.specs.declared.model.CoverLine.{CoverLine}
use Rattle.hier_blif.specs.declared.model.InstanceLine.{InstanceLine}
use Rattle.hier_blif.specs.declared.model.ModelLine.{ModelLine}
use Rattle.hier_blif.specs.declared.model.ModelLine.TheVariants.{Inputs, Outputs, Cover, Instance}
use Rattle.hier_blif.specs.declared.model.BlifModel.{BlifModel}

-- a `.names` line with the rows after it: operands, and last the name that is defined
abbrev pub cover_line : List Piece → List (List Piece) → CoverLine
cover_line line rows = record {
  at = (word_of line 0).at;
  operands = operands line;
  defined = word_of line (length line - 1);
  rows = map trits_of rows;
  on = are_on rows;
}

-- a `.subckt` line: the name of a model, then bindings
abbrev pub instance_line : List Piece → InstanceLine
instance_line line = record { at = (word_of line 0).at; model = word_of line 1; bindings = drop 2 line }

-- what a line says of the function, by what it is
abbrev pub model_line : Directive → List Piece → List (List Piece) → List ModelLine
model_line directive.Inputs line rows = Inputs (drop 1 line) ∷ []
model_line directive.Outputs line rows = Outputs (drop 1 line) ∷ []
model_line directive.Names line rows = Cover (cover_line line rows) ∷ []
model_line directive.Subckt line rows = Instance (instance_line line) ∷ []
model_line other line rows = []

-- what the lines of a model say of its function, in the order of the text
abbrev pub model_lines : List (List Piece) → List ModelLine
model_lines [] = []
model_lines (line ∷ lines) = model_line (directive_of line) line (rows_of lines) ++ model_lines lines

-- the lines up to the next `.model` line
abbrev pub body : List (List Piece) → List (List Piece)
body lines = take_while (λ line. not (is_model (directive_of line))) lines

-- the model that a `.model` line begins: its name is the word after it
abbrev pub begun_by : List Piece → List (List Piece) → BlifModel
begun_by line lines = record { at = (word_of line 0).at; name = word_of line 1; lines = model_lines (body lines) }

-- the models that `.model` lines begin, in the order of the text
abbrev pub named_models : List (List Piece) → List BlifModel
named_models [] = []
named_models (line ∷ lines) =
    if is_model (directive_of line) then begun_by line lines ∷ named_models lines
    else named_models lines

-- the name of the model without a `.model` line, which no word is
abbrev pub no_name : Piece
no_name = record { bytes = []; at = 0 }

-- a model without lines
abbrev pub empty_model : ℕ → Piece → BlifModel
empty_model at name = record { at = at; name = name; lines = [] }

-- Lines before the first `.model` line are a model without a name, unless all of them are passed over; a text without
-- `.model` is one such model.
abbrev pub has_front : List (List Piece) → Bool
has_front lines =
    not (list_all (λ line. is_passed_over (directive_of line)) (body lines)) || not (has_line is_model lines)

-- the model of the lines that stand before any `.model` line
abbrev pub front_model : List (List Piece) → BlifModel
front_model lines = record { at = 0; name = no_name; lines = model_lines (body lines) }

-- all models of a file, in the order of the text
abbrev pub models_of : List (List Piece) → List BlifModel
models_of lines = if has_front lines then front_model lines ∷ named_models lines else named_models lines

-- the first model is the top
abbrev pub top_of : List BlifModel → BlifModel
top_of models = slice_index_or models 0 (empty_model 0 no_name)
