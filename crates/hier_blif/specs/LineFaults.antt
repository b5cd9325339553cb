-- What is wrong with a line of a file of models, and where: the first line that is refused decides (this project's
-- order). The directives are those of a file of one model, and `.subckt`.
use Rattle.std.specs.Prelude.{◌≡◌, ℕ, ◌==◌, ◌&&◌, Bool, not, List, [], length, take, take_while}
use Rattle.std.specs.Prelude.{drop, reverse, filter, map, slice_index_or, Option, None, Some, is_some, option_map, if◌then◌else◌}
use Rattle.std.specs.List.{list_any, find}
use Rattle.text_core.specs.Piece.{Piece}
use Rattle.net_file.specs.declared.fault.NetKind.{NetKind}
use Rattle.blif_reader.specs.declared.directive.Directive.{Directive}
use Rattle.blif_reader.specs.declared.directive.Directive.TheVariants as directive
use Rattle.blif_reader.specs.JoinedLines.{word_of}
use Rattle.blif_reader.specs.Directives.{directive_of, is_model, is_end}
use Rattle.blif_reader.specs.Firsts.{IsFirst, NoneIs}
use Rattle.blif_reader.specs.Rows.{row_fault}
use Rattle.blif_reader.specs.Names.{same_name}
use Rattle.blif_reader.specs.Faults.{has_line}
use Rattle.hier_blif.specs.declared.fault.HierFault.{HierFault}
use Rattle.hier_blif.specs.declared.fault.HierKind.{HierKind}
use Rattle.hier_blif.specs.declared.fault.HierKind.TheVariants as wrong
use Rattle.hier_blif.specs.Kinds.{kind_of_row}
use Rattle.hier_blif.specs.Bindings.{is_malformed_binding}

-- a fault at a word
abbrev pub fault_at : HierKind → Piece → HierFault
fault_at kind word = record { kind = kind; at = word.at }

-- a fault at a line's first word
abbrev pub at_line : HierKind → List Piece → Option HierFault
at_line kind line = Some (fault_at kind (word_of line 0))

-- the lines after the last `.model` line, or all where there is none, from the nearest
abbrev pub since_model : List (List Piece) → List (List Piece)
since_model earlier = take_while (λ line. not (is_model (directive_of line))) (reverse earlier)

-- whether a line that comes next stands after `.end`
abbrev pub is_ended : List (List Piece) → Bool
is_ended earlier = has_line is_end (since_model earlier)

-- the names of the models so far
abbrev pub names_before : List (List Piece) → List Piece
names_before earlier = map (λ line. word_of line 1) (filter (λ line. is_model (directive_of line)) earlier)

-- whether an earlier model has the name of a `.model` line
abbrev pub is_taken : List (List Piece) → List Piece → Bool
is_taken earlier line = list_any (same_name (word_of line 1)) (names_before earlier)

-- a `.model` line without a name, or with one that is taken
abbrev pub model_fault : Bool → List Piece → Option HierFault
model_fault taken line =
    if length line == 1 then at_line wrong.ModelName line
    else if taken then at_line wrong.ModelName line
    else None

-- a `.subckt` line without a model, or the first of its words that binds nothing
abbrev pub instance_fault : List Piece → Option HierFault
instance_fault line =
    if length line == 1 then at_line wrong.Directive line
    else option_map (fault_at wrong.Binding) (find is_malformed_binding (drop 2 line))

-- what is wrong with a line, by what it is, whether its name is taken as a model's, and what is wrong with it as a row
abbrev pub fault_by_directive : Bool → Option NetKind → List Piece → Directive → Option HierFault
fault_by_directive taken in_row line directive.Model = model_fault taken line
fault_by_directive taken in_row line directive.Names =
    if length line == 1 then at_line wrong.Directive line else None
fault_by_directive taken in_row line directive.Subckt = instance_fault line
fault_by_directive taken in_row line directive.Latch = at_line wrong.Sequential line
fault_by_directive taken in_row line directive.DontCares = at_line wrong.DontCare line
fault_by_directive taken in_row line directive.Unknown = at_line wrong.Directive line
fault_by_directive taken in_row line directive.Row =
    option_map (λ found. fault_at (kind_of_row found) (word_of line 0)) in_row
fault_by_directive taken in_row line other = None

-- what is wrong with a line that stands after these: after `.end` only a model may begin
abbrev pub line_fault : List (List Piece) → List Piece → Option HierFault
line_fault earlier line =
    if not (is_model (directive_of line)) && is_ended earlier then at_line wrong.Directive line
    else fault_by_directive (is_taken earlier line) (row_fault earlier line) line (directive_of line)

-- a line is refused where it stands after these
abbrev pub is_faulty : List (List Piece) → List Piece → Bool
is_faulty earlier line = is_some (line_fault earlier line)

-- The first line that is refused.
pub record IsLineFault (lines : List (List Piece)) (fault : HierFault) : Type 0 where
  pub place : ℕ
  pub first : IsFirst is_faulty lines place
  pub why : line_fault (take place lines) (slice_index_or lines place []) ≡ Some fault

-- no line is refused
abbrev pub AreSound : List (List Piece) → Type 0
AreSound lines = NoneIs is_faulty lines
