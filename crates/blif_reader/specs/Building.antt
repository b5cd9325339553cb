-- What a second pass over a BLIF file has of the netlist, by names that are known, and what the lines that are left
-- add.
use Rattle.std.specs.Prelude.{◌≡◌, ℕ, ◌-◌, ◌==◌, ◌&&◌, true, false, List, [], ◌∷◌, ◌++◌, length, map, take, All, Option, None, Some}
use Rattle.std.specs.List.{list_any, flat_map}
use Rattle.std.specs.Str.{bytes_eq}
use Rattle.text_core.specs.Piece.{Piece}
use Rattle.circuits.specs.declared.netlist.Lit.{Lit}
use Rattle.circuits.specs.declared.definition.Def.{Def}
use Rattle.circuits.specs.declared.definition.Def.TheVariants.{Cover}
use Rattle.net_file.specs.declared.fault.NetKind.{NetKind}
use Rattle.net_file.specs.declared.fault.NetKind.TheVariants as fault
use Rattle.blif_reader.specs.declared.directive.Directive.{Directive}
use Rattle.blif_reader.specs.declared.directive.Directive.TheVariants.{Names, Outputs, Row}
use Rattle.blif_reader.specs.declared.covers.CoverSoFar.{CoverSoFar}
use Rattle.blif_reader.specs.declared.covers.Covers.{Covers}
use Rattle.blif_reader.specs.JoinedLines.{word_of}
use Rattle.blif_reader.specs.Directives.{directive_of}
use Rattle.blif_reader.specs.Rows.{output_byte, rows_of}
use Rattle.blif_reader.specs.Names.{operands, read_on, read_words}
use Rattle.blif_reader.specs.Covers.{trits_of, signal_named, literal_named, are_on, covers_of}

-- all but the last
abbrev pub but_last : List Piece → List Piece
but_last words = take (length words - 1) words

-- a name is known
abbrev pub IsKnownIn : List (List ℕ) → Piece → Type 0
IsKnownIn names word = list_any (bytes_eq word.bytes) names ≡ true

-- The first of these words that isn't known, at its offset.
pub record IsUnknownAt (names : List (List ℕ)) (words : List Piece) (at : ℕ) : Type 0 where
  pub before : List Piece
  pub word : Piece
  pub after : List Piece
  pub whole : words ≡ before ++ word ∷ after
  pub known : All (IsKnownIn names) before
  pub unknown : list_any (bytes_eq word.bytes) names ≡ false
  pub offset : at ≡ word.at

-- a name is read that is no input's and that no `.names` line defines
pub record IsUnknownFault (names : List (List ℕ)) (words : List Piece) (kind : NetKind) (at : ℕ) : Type 0 where
  pub is : kind ≡ fault.NameUndefined
  pub why : IsUnknownAt names words at

-- what is found of words that are left says the same of all words
pub record Continues (names : List (List ℕ)) (left all : List Piece) : Type 0 where
  pub known : All (IsKnownIn names) left → All (IsKnownIn names) all
  pub unknown : (at : ℕ) → IsUnknownAt names left at → IsUnknownAt names all at

-- the definition of a cover that is closed
abbrev pub closed : Option CoverSoFar → List Def
closed None = []
closed (Some cover) = Cover cover.names cover.rows cover.on ∷ []

-- a row more in the open cover
abbrev pub with_row : Option CoverSoFar → List Piece → Option CoverSoFar
with_row None row = None
with_row (Some cover) row = Some (record {
  names = cover.names;
  rows = cover.rows ++ trits_of row ∷ [];
  on = cover.on && (output_byte row == 49);
})

-- the cover that is open after a line
abbrev pub open_after : List (List ℕ) → Option CoverSoFar → Directive → List Piece → Option CoverSoFar
open_after names cover Row line = with_row cover line
open_after names cover Names line =
    Some (record { names = map (signal_named names) (operands line); rows = []; on = true })
open_after names cover other line = None

-- what a line closes
abbrev pub closed_by : Option CoverSoFar → Directive → List Def
closed_by cover Row = []
closed_by cover other = closed cover

-- the names that an `.outputs` line lists, and none of another line
abbrev pub outputs_by : Directive → List Piece → List Piece
outputs_by Outputs line = read_on Outputs line
outputs_by other line = []

-- where a `.names` line begins in the file, and nothing of another line
abbrev pub places_by : Directive → List Piece → List ℕ
places_by Names line = (word_of line 0).at ∷ []
places_by other line = []

-- One line was read, and all that it reads is known.
pub record Builds (names : List (List ℕ)) (directive : Directive) (line : List Piece) (old new : Covers) : Type 0 where
  pub defs : new.defs ≡ old.defs ++ closed_by old.current directive
  pub current : new.current ≡ open_after names old.current directive line
  pub outputs : new.outputs ≡ old.outputs ++ map (literal_named names) (outputs_by directive line)
  pub places : new.places ≡ old.places ++ places_by directive line
  pub known : All (IsKnownIn names) (read_on directive line)

-- the words left are the last of all, after this one if some were read
abbrev pub EndsAs : Option Piece → List Piece → List Piece → Type 0
EndsAs None left all = all ≡ left
EndsAs (Some last) left all = (before : List Piece) × (all ≡ before ++ last ∷ left)

-- Outputs were read: what is read and the words that are left make the whole.
pub record ReadsOutputs (names : List (List ℕ)) (old new : List Lit) (all left : List Piece) : Type 0 where
  pub outputs : new ++ map (literal_named names) left ≡ old ++ map (literal_named names) all
  pub words : Continues names left all

-- Operands were read, up to this one: all but the last of the words.
pub record ReadsOperands (names : List (List ℕ)) (signals : List ℕ) (operand : Piece)
    (left all : List Piece) : Type 0 where
  pub signals_are : signals ++ map (signal_named names) (but_last (operand ∷ left))
      ≡ map (signal_named names) (but_last all)
  pub words : Continues names (but_last (operand ∷ left)) (but_last all)

-- what the lines that are left add to the definitions, after the cover that is open
abbrev pub continued : List (List ℕ) → Option CoverSoFar → List (List Piece) → List Def
continued names None left = covers_of names left
continued names (Some cover) left =
    let rows = rows_of left in
    Cover cover.names (cover.rows ++ map trits_of rows) (cover.on && are_on rows) ∷ covers_of names left

-- the words of the outputs
abbrev pub outputs_in : List (List Piece) → List Piece
outputs_in lines = flat_map (λ line. outputs_by (directive_of line) line) lines

-- the offsets of the `.names` lines
abbrev pub places_in : List (List Piece) → List ℕ
places_in lines = flat_map (λ line. places_by (directive_of line) line) lines

-- The covers of all lines, with all outputs, and each name that is read is known.
pub record IsBuilt (names : List (List ℕ)) (lines : List (List Piece)) (covers : Covers) : Type 0 where
  pub defs : covers.defs ≡ covers_of names lines
  pub outputs : covers.outputs ≡ map (literal_named names) (outputs_in lines)
  pub places : covers.places ≡ places_in lines
  pub known : All (IsKnownIn names) (read_words lines)

-- The first lines were read: what is read and what the lines that are left add make the whole.
pub record IsBuilding (names : List (List ℕ)) (all left : List (List Piece)) (covers : Covers) : Type 0 where
  pub defs : covers.defs ++ continued names covers.current left ≡ covers_of names all
  pub outputs : covers.outputs ++ map (literal_named names) (outputs_in left)
      ≡ map (literal_named names) (outputs_in all)
  pub places : covers.places ++ places_in left ≡ places_in all
  pub words : Continues names (read_words left) (read_words all)
