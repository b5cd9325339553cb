-- What is wrong with a BLIF file, and where: the first fault in a fixed order (this project's order). The lines come
-- first, one after the other; then the names of the whole file.
use Rattle.std.specs.Prelude.{◌≡◌, ℕ, ◌<◌, ◌≤◌, ◌==◌, Bool, true, List, [], length, take, Option, None, Some, is_some, slice_index_or, if◌then◌else◌}
use Rattle.std.specs.List.{list_any}
use Rattle.net_core.specs.Limits.{most_ports}
use Rattle.text_core.specs.Piece.{Piece}
use Rattle.net_file.specs.declared.fault.NetKind.{NetKind}
use Rattle.net_file.specs.declared.fault.NetKind.TheVariants as fault
use Rattle.blif_reader.specs.declared.directive.Directive.{Directive}
use Rattle.blif_reader.specs.declared.directive.Directive.TheVariants.{Model, Names, Subckt, Latch, DontCares, Unknown, Row}
use Rattle.blif_reader.specs.declared.survey.PortWord.{PortWord}
use Rattle.blif_reader.specs.JoinedLines.{word_of}
use Rattle.blif_reader.specs.Directives.{directive_of, is_model, is_inputs, is_outputs, is_end}
use Rattle.blif_reader.specs.Firsts.{IsFirst, NoneIs}
use Rattle.blif_reader.specs.Rows.{row_fault}
use Rattle.blif_reader.specs.Names.{input_words, output_words, defined_words, read_words, port_words, repeats_port, is_redefined, is_undefined}

-- whether one of the lines is of a kind
abbrev pub has_line : (Directive → Bool) → List (List Piece) → Bool
has_line is_it lines = list_any (λ line. is_it (directive_of line)) lines

-- what is wrong with a line before `.end`, by what it is, whether a model was before, and what is wrong with it as a
-- row
abbrev pub fault_by_directive : Bool → Option NetKind → List Piece → Directive → Option NetKind
fault_by_directive has_model in_row line Model = if has_model then Some fault.SecondModel else None
fault_by_directive has_model in_row line Names = if length line == 1 then Some fault.Directive else None
fault_by_directive has_model in_row line Subckt = Some fault.Directive
fault_by_directive has_model in_row line Latch = Some fault.Latch
fault_by_directive has_model in_row line DontCares = Some fault.DontCare
fault_by_directive has_model in_row line Unknown = Some fault.Directive
fault_by_directive has_model in_row line Row = in_row
fault_by_directive has_model in_row line other = None

-- what is wrong with a line, where no `.end` stands among the lines before it
abbrev pub fault_before_end : List (List Piece) → List Piece → Directive → Option NetKind
fault_before_end earlier line directive =
    fault_by_directive (has_line is_model earlier) (row_fault earlier line) line directive

-- nothing may stand after `.end`; a model there is a second one, also where the first has no `.model` line
abbrev pub fault_after_end : Directive → Option NetKind
fault_after_end directive = if is_model directive then Some fault.SecondModel else Some fault.Directive

-- what is wrong with a line that stands after these
abbrev pub line_fault : List (List Piece) → List Piece → Option NetKind
line_fault earlier line =
    if has_line is_end earlier then fault_after_end (directive_of line)
    else fault_before_end earlier line (directive_of line)

-- a line is refused where it stands after these
abbrev pub is_faulty : List (List Piece) → List Piece → Bool
is_faulty earlier line = is_some (line_fault earlier line)

-- The first line that is refused, at the offset of its first word.
pub record IsLineFault (lines : List (List Piece)) (kind : NetKind) (at : ℕ) : Type 0 where
  pub place : ℕ
  pub first : IsFirst is_faulty lines place
  pub why : line_fault (take place lines) (slice_index_or lines place []) ≡ Some kind
  pub offset : at ≡ (word_of (slice_index_or lines place []) 0).at

-- No line is refused, and both kinds of port have a line.
pub record AreDeclared (lines : List (List Piece)) : Type 0 where
  pub sound : NoneIs is_faulty lines
  pub inputs : has_line is_inputs lines ≡ true
  pub outputs : has_line is_outputs lines ≡ true

-- And no two ports of a kind have one name.
pub record AreDistinct (lines : List (List Piece)) : Type 0 where
  pub declared : AreDeclared lines
  pub once : NoneIs repeats_port (port_words lines)

-- And no name is an input's and defined, or defined twice.
pub record AreDefinedOnce (lines : List (List Piece)) : Type 0 where
  pub distinct : AreDistinct lines
  pub once : NoneIs (is_redefined (input_words lines)) (defined_words lines)

-- And each name that is read is an input's or defined.
pub record AreKnown (lines : List (List Piece)) : Type 0 where
  pub single : AreDefinedOnce lines
  pub known : NoneIs (is_undefined (input_words lines) (defined_words lines)) (read_words lines)

-- And there are no more ports than the limits.
pub record AreFew (lines : List (List Piece)) : Type 0 where
  pub known : AreKnown lines
  pub inputs : length (input_words lines) ≤ most_ports
  pub outputs : length (output_words lines) ≤ most_ports

-- a word at the place where a test finds the first
pub record IsAtFirst (found : List Piece → Piece → Bool) (words : List Piece) (at : ℕ) : Type 0 where
  pub place : ℕ
  pub first : IsFirst found words place
  pub offset : at ≡ (word_of words place).at

-- A kind of port has no line; this is seen at the file's end.
pub record IsPortLineFault (end : ℕ) (lines : List (List Piece)) (kind : NetKind) (at : ℕ) : Type 0 where
  pub sound : NoneIs is_faulty lines
  pub missing : AreDeclared lines → ⊥
  pub is : kind ≡ fault.NoPortLine
  pub offset : at ≡ end

-- The first word that names a port again.
pub record IsPortFault (lines : List (List Piece)) (kind : NetKind) (at : ℕ) : Type 0 where
  pub declared : AreDeclared lines
  pub is : kind ≡ fault.DuplicatePort
  pub place : ℕ
  pub first : IsFirst repeats_port (port_words lines) place
  pub offset : (d : PortWord) → at ≡ (slice_index_or (port_words lines) place d).word.at

-- The first name that is defined again.
pub record IsRedefinedFault (lines : List (List Piece)) (kind : NetKind) (at : ℕ) : Type 0 where
  pub distinct : AreDistinct lines
  pub is : kind ≡ fault.NameRedefined
  pub why : IsAtFirst (is_redefined (input_words lines)) (defined_words lines) at

-- The first name that is read and not known.
pub record IsUndefinedFault (lines : List (List Piece)) (kind : NetKind) (at : ℕ) : Type 0 where
  pub single : AreDefinedOnce lines
  pub is : kind ≡ fault.NameUndefined
  pub why : IsAtFirst (is_undefined (input_words lines) (defined_words lines)) (read_words lines) at

-- More inputs than the limit, at the first after it.
pub record IsInputsFault (lines : List (List Piece)) (kind : NetKind) (at : ℕ) : Type 0 where
  pub known : AreKnown lines
  pub is : kind ≡ fault.TooManyInputs
  pub many : most_ports < length (input_words lines)
  pub offset : at ≡ (word_of (input_words lines) most_ports).at

-- No more inputs, and more outputs than the limit.
pub record IsOutputsFault (lines : List (List Piece)) (kind : NetKind) (at : ℕ) : Type 0 where
  pub known : AreKnown lines
  pub is : kind ≡ fault.TooManyOutputs
  pub few_inputs : length (input_words lines) ≤ most_ports
  pub many : most_ports < length (output_words lines)
  pub offset : at ≡ (word_of (output_words lines) most_ports).at
