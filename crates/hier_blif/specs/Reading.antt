-- What is known of the lines of a file of models that were read, and what the lines that are left add.
use Rattle.std.specs.Prelude.{◌≡◌, ℕ, ◌==◌, ◌&&◌, ◌||◌, Bool, true, false, not, List, [], ◌∷◌, ◌++◌, map, drop, Option, None, Some, if◌then◌else◌}
use Rattle.std.specs.List.{list_any}
use Rattle.std.specs.Str.{bytes_eq}
use Rattle.text_core.specs.Piece.{Piece}
use Rattle.blif_reader.specs.declared.directive.Directive.{Directive}
use Rattle.blif_reader.specs.declared.directive.Directive.TheVariants as directive
use Rattle.blif_reader.specs.JoinedLines.{word_of}
use Rattle.blif_reader.specs.Directives.{is_model, is_passed_over}
use Rattle.blif_reader.specs.Rows.{output_byte, rows_of}
use Rattle.blif_reader.specs.Covers.{trits_of, are_on}
use Rattle.blif_reader.specs.Numbers.{names_of, bytes_of}
use Rattle.blif_reader.specs.Surveys.{fault_by_cover, cover_after, IsOpen}
use Rattle.hier_blif.specs.declared.fault.HierFault.{HierFault}
use Rattle.hier_blif.specs.declared.fault.HierKind.TheVariants as wrong
use Rattle.hier_blif.specs.declared.model.CoverLine.{CoverLine}
use Rattle.hier_blif.specs.declared.model.ModelLine.{ModelLine}
use Rattle.hier_blif.specs.declared.model.ModelLine.TheVariants.{Inputs, Outputs, Cover, Instance}
use Rattle.hier_blif.specs.declared.model.BlifModel.{BlifModel}
use Rattle.hier_blif.specs.declared.reader.Reader.{Reader}
use Rattle.hier_blif.specs.Models.{cover_line, instance_line, model_lines, body, named_models, models_of, no_name, empty_model}
use Rattle.hier_blif.specs.LineFaults.{at_line, fault_by_directive, names_before, is_ended, AreSound}

-- whether the name of a `.model` line is that of a model that was read
abbrev pub is_known : Reader → List Piece → Bool
is_known reader line = list_any (bytes_eq (word_of line 1).bytes) (names_of reader.names)

-- what is wrong with a line, by what is known before it
abbrev pub fault_of : Reader → List Piece → Directive → Option HierFault
fault_of reader line directive =
    if not (is_model directive) && reader.ended then at_line wrong.Directive line
    else fault_by_directive (is_known reader line) (fault_by_cover reader.in_cover line) line directive

-- the line of a cover that is closed
abbrev pub closed : Option CoverLine → List ModelLine
closed None = []
closed (Some cover) = Cover cover ∷ []

-- a row more in a cover
abbrev pub with_row : Option CoverLine → List Piece → Option CoverLine
with_row None row = None
with_row (Some cover) row = Some (record {
  at = cover.at;
  operands = cover.operands;
  defined = cover.defined;
  rows = cover.rows ++ trits_of row ∷ [];
  on = cover.on && (output_byte row == 49);
})

-- lines more of a model
abbrev pub with_lines : BlifModel → List ModelLine → BlifModel
with_lines model more = record { at = model.at; name = model.name; lines = model.lines ++ more }

-- the cover that is open after a line
abbrev pub open_after : Option CoverLine → Directive → List Piece → Option CoverLine
open_after cover directive.Row line = with_row cover line
open_after cover directive.Names line = Some (cover_line line [])
open_after cover other line = None

-- what a line adds to its model: it closes the open cover, unless it is a row, and may say something itself
abbrev pub added_by : Option CoverLine → Directive → List Piece → List ModelLine
added_by cover directive.Row line = []
added_by cover directive.Inputs line = closed cover ++ Inputs (drop 1 line) ∷ []
added_by cover directive.Outputs line = closed cover ++ Outputs (drop 1 line) ∷ []
added_by cover directive.Subckt line = closed cover ++ Instance (instance_line line) ∷ []
added_by cover other line = closed cover

-- the model that is being read after a line
abbrev pub current_after : BlifModel → Option CoverLine → Directive → List Piece → BlifModel
current_after current cover directive.Model line = empty_model (word_of line 0).at (word_of line 1)
current_after current cover other line = with_lines current (added_by cover other line)

-- what a line ends: a `.model` line the model before, if one has begun
abbrev pub ended_by : Bool → BlifModel → Option CoverLine → Directive → List BlifModel
ended_by begun current cover directive.Model = if begun then with_lines current (closed cover) ∷ [] else []
ended_by begun current cover other = []

-- whether the model that is read has ended by `.end`
abbrev pub ended_after : Bool → Directive → Bool
ended_after ended directive.Model = false
ended_after ended directive.End = true
ended_after ended other = ended

-- the name that a `.model` line gives to a model
abbrev pub names_by : Directive → List Piece → List (List ℕ)
names_by directive.Model line = (word_of line 1).bytes ∷ []
names_by other line = []

-- One line was read, without a fault.
pub record Advances (directive : Directive) (line : List Piece) (old new : Reader) : Type 0 where
  pub no_fault : fault_of old line directive ≡ None
  pub names : names_of new.names ≡ names_of old.names ++ names_by directive line
  pub ended : new.ended ≡ ended_after old.ended directive
  pub in_cover : new.in_cover ≡ cover_after old.in_cover directive line
  pub begun : new.begun ≡ (old.begun || not (is_passed_over directive))
  pub models : new.models ≡ old.models ++ ended_by old.begun old.current old.cover directive
  pub current : new.current ≡ current_after old.current old.cover directive line
  pub cover : new.cover ≡ open_after old.cover directive line

-- what the rows of the lines that are left add to a cover
abbrev pub with_rows : CoverLine → List (List Piece) → CoverLine
with_rows cover rows = record {
  at = cover.at;
  operands = cover.operands;
  defined = cover.defined;
  rows = cover.rows ++ map trits_of rows;
  on = cover.on && are_on rows;
}

-- what the lines that are left of a model add to it, after the cover that is open
abbrev pub continued : Option CoverLine → List (List Piece) → List ModelLine
continued None left = model_lines left
continued (Some cover) left = Cover (with_rows cover (rows_of left)) ∷ model_lines left

-- the models that are there once the lines left are read, from the one that is being read on; lines that are passed
-- over begin none
abbrev pub models_from : Bool → BlifModel → Option CoverLine → List (List Piece) → List BlifModel
models_from true current cover left = with_lines current (continued cover (body left)) ∷ named_models left
models_from false current cover left = models_of left

-- The first lines were read, none of which has a fault, and these are left.
pub record IsReading (all left : List (List Piece)) (reader : Reader) : Type 0 where
  pub earlier : List (List Piece)
  pub whole : all ≡ earlier ++ left
  pub sound : AreSound earlier
  pub names : names_of reader.names ≡ bytes_of (names_before earlier)
  pub ended : reader.ended ≡ is_ended earlier
  pub in_cover : IsOpen earlier reader.in_cover
  pub models : reader.models ++ models_from reader.begun reader.current reader.cover left ≡ models_of all
  pub front : reader.begun ≡ false → reader.current ≡ empty_model 0 no_name
  pub front_cover : reader.begun ≡ false → reader.cover ≡ None
