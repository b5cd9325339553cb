-- The names of a BLIF file (Berkeley Logic Interchange Format, 1992), in the order of the text.
use Rattle.std.specs.Prelude.{◌-◌, Bool, true, false, ◌&&◌, ◌||◌, not, List, [], ◌∷◌, length, map, filter, take, drop}
use Rattle.std.specs.List.{flat_map, list_any}
use Rattle.std.specs.Str.{bytes_eq}
use Rattle.text_core.specs.Piece.{Piece}
use Rattle.circuits.specs.declared.port.PortKind.{PortKind}
use Rattle.circuits.specs.declared.port.PortKind.TheVariants.{Input, Output}
use Rattle.blif_reader.specs.JoinedLines.{word_of}
use Rattle.blif_reader.specs.declared.directive.Directive.{Directive}
use Rattle.blif_reader.specs.declared.directive.Directive.TheVariants.{Inputs, Outputs, Names}
use Rattle.blif_reader.specs.declared.survey.PortWord.{PortWord}
use Rattle.blif_reader.specs.Directives.{directive_of}
use Rattle.blif_reader.specs.Rows.{operand_count}

-- two words have the same bytes
abbrev pub same_name : Piece → Piece → Bool
same_name one other = bytes_eq one.bytes other.bytes

-- both are inputs, or both outputs
abbrev pub is_same_kind : PortKind → PortKind → Bool
is_same_kind Input Input = true
is_same_kind Output Output = true
is_same_kind one other = false

-- words, as ports of a kind
abbrev pub named_ports : PortKind → List Piece → List PortWord
named_ports kind words = map (λ word. record { kind = kind; word = word }) words

-- the ports that a line names, by what it is: the words after its first
abbrev pub ports_on : Directive → List Piece → List PortWord
ports_on Inputs line = named_ports Input (drop 1 line)
ports_on Outputs line = named_ports Output (drop 1 line)
ports_on other line = []

-- the ports that all lines name, in the order of the text
abbrev pub port_words : List (List Piece) → List PortWord
port_words lines = flat_map (λ line. ports_on (directive_of line) line) lines

-- the words that name ports of a kind
abbrev pub words_of_kind : PortKind → List PortWord → List Piece
words_of_kind kind ports = map (λ port. port.word) (filter (λ port. is_same_kind port.kind kind) ports)

-- the names of the inputs, in the order in which a file has them
abbrev pub input_words : List (List Piece) → List Piece
input_words lines = words_of_kind Input (port_words lines)

-- the names of the outputs, in the order in which a file has them
abbrev pub output_words : List (List Piece) → List Piece
output_words lines = words_of_kind Output (port_words lines)

-- what a line defines: the last word of a `.names` line
abbrev pub defined_on : Directive → List Piece → List Piece
defined_on Names line = word_of line (length line - 1) ∷ []
defined_on other line = []

-- the names that the `.names` lines of a file define
abbrev pub defined_words : List (List Piece) → List Piece
defined_words lines = flat_map (λ line. defined_on (directive_of line) line) lines

-- the operands of a `.names` line: the words between the first and the last
abbrev pub operands : List Piece → List Piece
operands line = take (operand_count line) (drop 1 line)

-- what a line reads: outputs, and operands
abbrev pub read_on : Directive → List Piece → List Piece
read_on Outputs line = drop 1 line
read_on Names line = operands line
read_on other line = []

-- the names that some line of a file reads
abbrev pub read_words : List (List Piece) → List Piece
read_words lines = flat_map (λ line. read_on (directive_of line) line) lines

-- a port's name is that of an earlier port of its kind
abbrev pub repeats_port : List PortWord → PortWord → Bool
repeats_port earlier port =
    list_any (λ other. is_same_kind other.kind port.kind && same_name port.word other.word) earlier

-- a name that is defined is that of an input, or was defined before
abbrev pub is_redefined : List Piece → List Piece → Piece → Bool
is_redefined inputs earlier word = list_any (same_name word) inputs || list_any (same_name word) earlier

-- a name that is read is that of no input, and isn't defined
abbrev pub is_undefined : List Piece → List Piece → List Piece → Piece → Bool
is_undefined inputs defined earlier word =
    not (list_any (same_name word) inputs) && not (list_any (same_name word) defined)
