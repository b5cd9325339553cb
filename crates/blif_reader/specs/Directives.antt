-- What a joined line of a BLIF file is, by its first word (Berkeley Logic Interchange Format, 1992). Directives that
-- say nothing of a circuit's function are passed over; this project's profile lists them.
use Rattle.std.specs.Prelude.{ℕ, ◌==◌, Bool, true, false, List, [], ◌∷◌, codes, slice_index_or, if◌then◌else◌}
use Rattle.std.specs.List.{list_any}
use Rattle.std.specs.Str.{bytes_eq}
use Rattle.text_core.specs.Piece.{Piece}
use Rattle.blif_reader.specs.JoinedLines.{word_of}
use Rattle.blif_reader.specs.declared.directive.Directive.{Directive}
use Rattle.blif_reader.specs.declared.directive.Directive.TheVariants.{Model, Inputs, Outputs, Names, Subckt, End, Latch, DontCares, PassedOver, Unknown, Row}

-- delays, areas and drives, which the BLIF document gives, and three words that other writers use
abbrev pub passed_over : List (List ℕ)
passed_over =
    codes ".area" ∷ codes ".delay" ∷ codes ".wire_load_slope" ∷ codes ".wire"
    ∷ codes ".input_arrival" ∷ codes ".default_input_arrival"
    ∷ codes ".output_required" ∷ codes ".default_output_required"
    ∷ codes ".input_drive" ∷ codes ".default_input_drive"
    ∷ codes ".max_input_load" ∷ codes ".default_max_input_load"
    ∷ codes ".output_load" ∷ codes ".default_output_load"
    ∷ codes ".clock" ∷ codes ".attr" ∷ codes ".cname" ∷ codes ".param" ∷ []

-- the first byte is a full stop
abbrev pub begins_with_stop : List ℕ → Bool
begins_with_stop word = slice_index_or word 0 0 == 46

-- what the first word of a line makes the line; one without a full stop in front makes it a row
abbrev pub from_word : List ℕ → Directive
from_word word =
    if bytes_eq word (codes ".model") then Model
    else if bytes_eq word (codes ".inputs") then Inputs
    else if bytes_eq word (codes ".outputs") then Outputs
    else if bytes_eq word (codes ".names") then Names
    else if bytes_eq word (codes ".subckt") then Subckt
    else if bytes_eq word (codes ".end") then End
    else if bytes_eq word (codes ".latch") then Latch
    else if bytes_eq word (codes ".exdc") then DontCares
    else if list_any (bytes_eq word) passed_over then PassedOver
    else if begins_with_stop word then Unknown
    else Row

-- what a joined line is
abbrev pub directive_of : List Piece → Directive
directive_of line = from_word (word_of line 0).bytes

-- whether a joined line is a `.model` line
abbrev pub is_model : Directive → Bool
is_model Model = true
is_model other = false

-- whether it is an `.inputs` line
abbrev pub is_inputs : Directive → Bool
is_inputs Inputs = true
is_inputs other = false

-- whether it is an `.outputs` line
abbrev pub is_outputs : Directive → Bool
is_outputs Outputs = true
is_outputs other = false

-- whether it is a `.names` line
abbrev pub is_names : Directive → Bool
is_names Names = true
is_names other = false

-- whether it is an `.end` line
abbrev pub is_end : Directive → Bool
is_end End = true
is_end other = false

-- whether it is a directive that is passed over
abbrev pub is_passed_over : Directive → Bool
is_passed_over PassedOver = true
is_passed_over other = false

-- whether it is a row: its first word has no full stop in front
abbrev pub is_row : Directive → Bool
is_row Row = true
is_row other = false
