-- The symbols after the body of an AIGER file (AIGER 1.9): a line for each port that has a name, then a comment.
use Rattle.std.specs.Prelude.{◌≡◌, ◌≢◌, ℕ, ◌+◌, ◌<◌, ◌⊎◌, ◌==◌, Bool, true, false, not, List, [], ◌∷◌, ◌++◌, length, take, All, Option, None, Some}
use Rattle.std.specs.Prelude.{slice_index_or, slice_set, take_while}
use Rattle.std.specs.Fmt.{decimal}
use Rattle.circuits.specs.Literals.{EachAt}
use Rattle.circuits.specs.Ports.{letter_of}
use Rattle.circuits.specs.declared.port.PortKind.{PortKind}
use Rattle.circuits.specs.declared.port.PortKind.TheVariants.{Input, Output}
use Rattle.net_file.specs.declared.fault.NetKind.TheVariants as kind
use Rattle.net_file.specs.declared.fault.NetStop.{NetStop}
use Rattle.net_file.specs.Stops.{IsStopBy}
use Rattle.text_core.specs.Piece.{Piece}
use Rattle.text_core.specs.Bytes.{is_blank}
use Rattle.text_core.specs.Lines.{lines, text_of_lines}
use Rattle.text_core.specs.Words.{words}
use Rattle.text_core.specs.Numbers.{number}

-- a line that opens the comment: all the rest is passed over
abbrev pub is_comment : List ℕ → Bool
is_comment line = slice_index_or line 0 0 == 99

-- the lines before the comment
abbrev pub symbol_lines : List ℕ → List (List ℕ)
symbol_lines text = take_while (λ line. not (is_comment line)) (lines text)

-- a name without a carriage return at its end; of several only the last goes
pub record IsWithoutReturn (text name : List ℕ) : Type 0 where
  pub cases : ((text ≡ name ++ 13 ∷ []) ⊎ ((text ≡ name) × ((front : List ℕ) → text ≢ front ++ 13 ∷ [])))

-- A port by its kind and its position.
pub record Port : Type 0 where
  pub kind : PortKind
  pub position : ℕ

-- a port, and the name that a line gives it
abbrev pub Entry : Type 0
Entry = Port × List ℕ

-- The bytes begin with a position in digits and one blank, and this stands after them.
pub record BeginsPosition (bytes : List ℕ) (position : ℕ) (tail : List ℕ) : Type 0 where
  pub digits : List ℕ
  pub blank : ℕ
  pub form : bytes ≡ digits ++ blank ∷ tail
  pub place : number digits ≡ Some position
  pub blank_is : is_blank blank ≡ true

-- The line gives this port this name: a letter, a position and one blank, and a name that goes to the line's end.
pub record NamesPort (line : List ℕ) (port : Port) (name : List ℕ) : Type 0 where
  pub rest : List ℕ
  pub tail : List ℕ
  pub form : line ≡ letter_of port.kind ∷ rest
  pub place : BeginsPosition rest port.position tail
  pub name_is : IsWithoutReturn tail name
  pub named : name ≢ []

-- the input, or the output, of this position
abbrev pub port_at : PortKind → ℕ → Port
port_at kind position = record { kind = kind; position = position }

-- how many ports of a kind there are
abbrev pub count_of : PortKind → ℕ → ℕ → ℕ
count_of Input inputs outputs = inputs
count_of Output inputs outputs = outputs

-- the port is there
abbrev pub IsThere : ℕ → ℕ → Port → Type 0
IsThere inputs outputs port = port.position < count_of port.kind inputs outputs

-- the port is there and has no name yet
abbrev pub IsFree : List Entry → ℕ → ℕ → Port → Type 0
IsFree before inputs outputs port = IsThere inputs outputs port × All (λ old. old.0 ≢ port) before

-- what one line of the symbols gives: nothing where it has no words, else a name
abbrev pub GivesName : List ℕ → List Entry → Type 0
GivesName line [] = words line ≡ []
GivesName line (entry ∷ []) = NamesPort line entry.0 entry.1
GivesName line (entry ∷ other ∷ entries) = ⊥

-- the first lines give these names, to ports that are there and have none yet
abbrev pub GiveNames : ℕ → ℕ → List (List ℕ) → List Entry → List Entry → Type 0
GiveNames inputs outputs [] before entries = entries ≡ before
GiveNames inputs outputs (line ∷ lines) before entries =
    (new : List Entry)
    × GivesName line new
    × All (λ entry. IsThere inputs outputs entry.0) new
    × All (λ entry. All (λ old. old.0 ≢ entry.0) before) new
    × GiveNames inputs outputs lines (before ++ new) entries

-- one line goes on from the names before it to those after it
abbrev pub AddsName : ℕ → ℕ → List ℕ → List Entry → List Entry → Type 0
AddsName inputs outputs line before after = GiveNames inputs outputs (line ∷ []) before after

-- The port has a name, and this is the one.
pub record IsNamed (entries : List Entry) (port : Port) (name : List ℕ) : Type 0 where
  pub place : ℕ
  pub there : place < length entries
  pub named : (d : Entry) → (slice_index_or entries place d).0 ≡ port
  pub only : (k : ℕ) → k < length entries
      → (d : Entry) → (slice_index_or entries k d).0 ≡ port
      → name ≡ (slice_index_or entries k d).1

-- the name that the entries give a port, if they give one
abbrev pub IsGiven : List Entry → Port → Option (List ℕ) → Type 0
IsGiven entries port None = All (λ entry. entry.0 ≢ port) entries
IsGiven entries port (Some name) = IsNamed entries port name

-- the slots have what is given to the ports of a kind, at their positions
abbrev pub AreSlots : List Entry → PortKind → List (Option (List ℕ)) → Type 0
AreSlots entries kind slots = EachAt (λ position given. IsGiven entries (port_at kind position) given) slots

-- The slots of the inputs and of the outputs have what these entries give.
pub record ArePortSlots (entries : List Entry) (inputs outputs : List (Option (List ℕ))) : Type 0 where
  pub input_slots : AreSlots entries Input inputs
  pub output_slots : AreSlots entries Output outputs

-- The name stands in its slot, where none stood before; all other slots are as they were.
pub record Puts (old : List (Option (List ℕ))) (position : ℕ) (name : List ℕ) (new : List (Option (List ℕ)))
    : Type 0 where
  pub there : position < length old
  pub free : (d : Option (List ℕ)) → slice_index_or old position d ≡ None
  pub put : new ≡ slice_set old position (Some name)

-- the name was put there, or the slot isn't there or has one
abbrev pub IsPut : Bool → List (Option (List ℕ)) → ℕ → List ℕ → List (Option (List ℕ)) → Type 0
IsPut true old position name new = Puts old position name new
IsPut false old position name new =
    (d : Option (List ℕ)) → position < length old → slice_index_or old position d ≡ None → ⊥

-- the slots of the inputs and of the outputs
abbrev pub Slots : Type 0
Slots = List (Option (List ℕ)) × List (Option (List ℕ))

-- the port was free and has the name, or it isn't free
abbrev pub TakesName : Bool → List Entry → Slots → Slots → Port → List ℕ → Type 0
TakesName true before old new port name =
    IsFree before (length old.0) (length old.1) port × ArePortSlots (before ++ (port, name) ∷ []) new.0 new.1
TakesName false before old new port name = IsFree before (length old.0) (length old.1) port → ⊥

-- the line adds what it names, or nothing can be added by it
abbrev pub TakesLine : Bool → List Entry → Slots → Slots → List ℕ → Type 0
TakesLine true before old new line =
    (after : List Entry) × AddsName (length old.0) (length old.1) line before after × ArePortSlots after new.0 new.1
TakesLine false before old new line = (after : List Entry) → AddsName (length old.0) (length old.1) line before after → ⊥

-- the name of a port whose slot has this
abbrev pub name_or : Port → Option (List ℕ) → List ℕ
name_or port None = letter_of port.kind ∷ decimal port.position
name_or port (Some name) = name

-- The symbols of a text give these names.
abbrev pub AreSymbols : ℕ → ℕ → List ℕ → List Entry → Type 0
AreSymbols inputs outputs text entries = GiveNames inputs outputs (symbol_lines text) [] entries

-- The first line of the symbols that gives no name rightly, at its first byte; `base` is the text's own offset.
pub record IsSymbolFault (inputs outputs base : ℕ) (text : List ℕ) (at : ℕ) : Type 0 where
  pub place : ℕ
  pub entries : List Entry
  pub there : place < length (symbol_lines text)
  pub good : GiveNames inputs outputs (take place (symbol_lines text)) [] entries
  pub bad : (all : List Entry) → GiveNames inputs outputs (take (place + 1) (symbol_lines text)) [] all → ⊥
  pub offset : at ≡ base + length (text_of_lines (take place (lines text)))

-- what a stop says of the symbols in this text
abbrev pub IsSymbolStop : ℕ → ℕ → Piece → NetStop → Type 0
IsSymbolStop inputs outputs text =
    IsStopBy (λ fault at. (fault ≡ kind.BadSymbol) × IsSymbolFault inputs outputs text.at text.bytes at)

-- The name of a port: the one that a symbol gives it, else its letter and its position.
pub record IsNameOf (entries : List Entry) (port : Port) (name : List ℕ) : Type 0 where
  pub given : (k : ℕ) → k < length entries
      → (d : Entry) → (slice_index_or entries k d).0 ≡ port
      → name ≡ (slice_index_or entries k d).1
  pub unnamed : All (λ entry. entry.0 ≢ port) entries → name ≡ letter_of port.kind ∷ decimal port.position

-- the names of all ports of a kind, at their positions
pub record ArePortNames (entries : List Entry) (kind : PortKind) (count : ℕ) (names : List (List ℕ))
    : Type 0 where
  pub count_is : length names ≡ count
  pub each : EachAt (λ position name. IsNameOf entries (port_at kind position) name) names

-- The ports have these names by the symbols of a text.
pub record AreNames (inputs outputs : ℕ) (text : List ℕ) (input_names output_names : List (List ℕ)) : Type 0 where
  pub entries : List Entry
  pub symbols : AreSymbols inputs outputs text entries
  pub input_names_are : ArePortNames entries Input inputs input_names
  pub output_names_are : ArePortNames entries Output outputs output_names
