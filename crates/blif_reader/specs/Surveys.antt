-- What a first pass over a BLIF file knows of the lines that it has read.
use Rattle.std.specs.Prelude.{◌≡◌, ◌≢◌, ℕ, ◌==◌, ◌||◌, Bool, true, false, not, List, [], ◌∷◌, ◌++◌, reverse, All, Option, None, Some, if◌then◌else◌}
use Rattle.text_core.specs.Piece.{Piece}
use Rattle.net_file.specs.declared.fault.NetKind.{NetKind}
use Rattle.net_file.specs.declared.fault.NetKind.TheVariants as fault
use Rattle.net_file.specs.declared.fault.NetStop.{NetStop}
use Rattle.net_file.specs.Stops.{IsStopBy}
use Rattle.blif_reader.specs.declared.directive.Directive.{Directive}
use Rattle.blif_reader.specs.declared.directive.Directive.TheVariants.{Names, Row}
use Rattle.blif_reader.specs.declared.rows.OpenCover.{OpenCover}
use Rattle.blif_reader.specs.declared.rows.RowWords.{RowWords}
use Rattle.blif_reader.specs.declared.survey.Survey.{Survey}
use Rattle.blif_reader.specs.Directives.{directive_of, is_model, is_inputs, is_outputs, is_names, is_end}
use Rattle.blif_reader.specs.Firsts.{NoneIs}
use Rattle.blif_reader.specs.Rows.{operand_count, output_byte, fault_in_cover, rows_of, opening_of}
use Rattle.blif_reader.specs.Names.{ports_on, port_words, defined_on, defined_words}
use Rattle.blif_reader.specs.Faults.{has_line, is_faulty, fault_by_directive, fault_after_end}

-- the words of a row that has one or two
abbrev pub one_or_two : Option Piece → Piece → List Piece
one_or_two None output = output ∷ []
one_or_two (Some literals) output = literals ∷ output ∷ []

-- the literals' word, unless there are no operands, and the output's
abbrev pub words_in_row : RowWords → List Piece
words_in_row row = one_or_two row.literals row.output

-- a byte isn't the one that the rows before have
abbrev pub is_mixed : Option ℕ → ℕ → Bool
is_mixed None byte = false
is_mixed (Some other) byte = not (other == byte)

-- what is wrong with a row, by the cover that is open
abbrev pub fault_by_cover : Option OpenCover → List Piece → Option NetKind
fault_by_cover None row = Some fault.RowOutside
fault_by_cover (Some cover) row = fault_in_cover cover.operands (is_mixed cover.output (output_byte row)) row

-- what is wrong with a line, by what is known before it
abbrev pub fault_known : Survey → List Piece → Directive → Option NetKind
fault_known survey line directive =
    fault_by_directive survey.has_model (fault_by_cover survey.cover line) line directive

-- what is wrong with a line, before `.end` or after it, by what is known of the lines before
abbrev pub fault_of : Survey → List Piece → Directive → Option NetKind
fault_of survey line directive = if survey.ended then fault_after_end directive else fault_known survey line directive

-- what a stop says of the line with this first word: this fault, at that word
abbrev pub IsStopAt : Piece → Option NetKind → NetStop → Type 0
IsStopAt first wrong = IsStopBy (λ kind at. (wrong ≡ Some kind) × (at ≡ first.at))

-- the cover that is open after a line
abbrev pub cover_after : Option OpenCover → Directive → List Piece → Option OpenCover
cover_after cover Names line = Some (record { operands = operand_count line; output = None })
cover_after None Row line = None
cover_after (Some cover) Row line = Some (record { operands = cover.operands; output = Some (output_byte line) })
cover_after cover other line = None

-- One line was read, without a fault.
pub record Advances (directive : Directive) (line : List Piece) (old new : Survey) : Type 0 where
  pub no_fault : fault_of old line directive ≡ None
  pub ports : new.ports.items ≡ old.ports.items ++ ports_on directive line
  pub defined : new.defined.items ≡ old.defined.items ++ defined_on directive line
  pub model : new.has_model ≡ (old.has_model || is_model directive)
  pub inputs : new.has_inputs ≡ (old.has_inputs || is_inputs directive)
  pub outputs : new.has_outputs ≡ (old.has_outputs || is_outputs directive)
  pub end : new.ended ≡ (old.ended || is_end directive)
  pub cover : new.cover ≡ cover_after old.cover directive line

-- the rows before in the open cover have this byte for the output, if there is one
abbrev pub HaveOutput : Option ℕ → List (List Piece) → Type 0
HaveOutput None rows = rows ≡ []
HaveOutput (Some byte) rows = (rows ≢ []) × All (λ row. output_byte row ≡ byte) rows

-- the cover that is open after these lines, if there is one
abbrev pub IsOpenBy : List (List Piece) → Option OpenCover → Type 0
IsOpenBy nearest None = is_names (directive_of (opening_of nearest)) ≡ false
IsOpenBy nearest (Some cover) =
    (is_names (directive_of (opening_of nearest)) ≡ true)
    × (cover.operands ≡ operand_count (opening_of nearest))
    × HaveOutput cover.output (rows_of nearest)

-- the cover that the next line goes on with, if it is a row
abbrev pub IsOpen : List (List Piece) → Option OpenCover → Type 0
IsOpen earlier cover = IsOpenBy (reverse earlier) cover

-- What is known of the lines read, none of which has a fault.
pub record IsSurveyed (earlier : List (List Piece)) (survey : Survey) : Type 0 where
  pub sound : NoneIs is_faulty earlier
  pub ports : survey.ports.items ≡ port_words earlier
  pub defined : survey.defined.items ≡ defined_words earlier
  pub model : survey.has_model ≡ has_line is_model earlier
  pub inputs : survey.has_inputs ≡ has_line is_inputs earlier
  pub outputs : survey.has_outputs ≡ has_line is_outputs earlier
  pub end : survey.ended ≡ has_line is_end earlier
  pub cover : IsOpen earlier survey.cover

-- The first lines were read, and these are left.
pub record IsUnderWay (all : List (List Piece)) (survey : Survey) (left : List (List Piece)) : Type 0 where
  pub earlier : List (List Piece)
  pub whole : all ≡ earlier ++ left
  pub surveyed : IsSurveyed earlier survey
