-- The lines of a printed BLIF file, each with its offsets: what the reader's definitions make of them.
use Rattle.std.proofs.Common.{◌≡◌, ℕ, ◌+◌, ◌-◌, ◌<◌, ◌==◌, ◌||◌, Bool, true, false, not, List, [], ◌∷◌, ◌++◌, length, map, reverse, codes, if◌then◌else◌, All, Option, None, Some, is_some, refl, sym, ap, ap₂, subst, ◌∙◌, append_assoc, append-nil}
use Rattle.std.specs.List.{list_any, join_with_byte}
use Rattle.std.proofs.lemmas.List.Folds.{list_any-append}
use Rattle.std.proofs.lemmas.List.Elements.{All-nil, All-cons, All-head, All-tail, All-append}
use Rattle.text_core.specs.Piece.{Piece}
use Rattle.net_file.specs.declared.fault.NetKind.{NetKind}
use Rattle.net_file.specs.declared.fault.NetKind.TheVariants as fault
use Rattle.circuits.specs.declared.definition.Trit.{Trit}
use Rattle.circuits.specs.declared.definition.Trit.TheVariants.{Zero, One}
use Rattle.circuits.specs.declared.definition.Def.{Def}
use Rattle.circuits.specs.declared.definition.Def.TheVariants.{Cover}
use Rattle.circuits.specs.Literals.{signal_of, is_negated}
use Rattle.blif_reader.specs.JoinedLines.{placed, word_of}
use Rattle.blif_reader.specs.declared.directive.Directive.{Directive}
use Rattle.blif_reader.specs.declared.directive.Directive.TheVariants.{Names, End, Row}
use Rattle.blif_reader.specs.Directives.{directive_of, is_row, is_names, is_end}
use Rattle.blif_reader.specs.Firsts.{NoneIs}
use Rattle.blif_reader.specs.Rows.{operand_count, has_widths, has_good_bytes, rows_before, opening, row_fault, fault_in_cover, differs_from, output_byte, rows_of}
use Rattle.blif_reader.specs.Names.{ports_on, port_words, operands, defined_on, defined_words, read_on, read_words}
use Rattle.blif_reader.specs.Faults.{has_line, fault_before_end, fault_after_end, is_faulty}
use Rattle.blif_reader.specs.Covers.{trit_of, signal_named, cover_of, covers_of}
use Rattle.blif_reader.proofs.FirstLemmas.{NoneIs-push}
use Rattle.blif_reader.proofs.SurveyLemmas.{reversed_push, not_row, rows_of, opening_of}
use Rattle.blif_reader.proofs.BuildingLemmas.{covers_skip, covers_take, no_rows, one_row}
use Rattle.net_print.specs.BlifLines.{signal_name}
use Rattle.print_laws.specs.PrintedCircuits.{printed_signal}
use Rattle.print_laws.proofs.PrintedCovers.{Printed, OfGate, OfOutput, name_of, def_of, names_words, row_words, covers_lines, ReadsBelow}
use Rattle.print_laws.proofs.BlifWords.{lined}

-- the byte of a row for a literal's sign
abbrev bit_byte : Bool → ℕ
bit_byte negated = if negated then 48 else 49

-- the row of a gate's cover and of an output's, by the signs
abbrev row_of_two : Bool → Bool → ℕ → List Piece
row_of_two a b at = placed at ((bit_byte a ∷ bit_byte b ∷ []) ∷ codes "1" ∷ [])

abbrev row_of_one : Bool → ℕ → List Piece
row_of_one a at = placed at ((bit_byte a ∷ []) ∷ codes "1" ∷ [])

-- the line is a row of bytes that may stand there
abbrev IsGoodRow : List Piece → Type 0
IsGoodRow row = (directive_of row ≡ Row) × (has_good_bytes row ≡ true)

two_good : (a b : Bool) (at : ℕ) → IsGoodRow (row_of_two a b at)
two_good true true at = (refl, refl)
two_good true false at = (refl, refl)
two_good false true at = (refl, refl)
two_good false false at = (refl, refl)

one_good : (a : Bool) (at : ℕ) → IsGoodRow (row_of_one a at)
one_good true at = (refl, refl)
one_good false at = (refl, refl)

wanted : (negated : Bool) → trit_of (bit_byte negated) ≡ (if negated then Zero else One)
wanted true = refl
wanted false = refl

-- where the line after these words begins
abbrev after : ℕ → List (List ℕ) → ℕ
after at words = at + length (join_with_byte 32 words) + 1

-- the two lines of a cover that begins at an offset, and where the next one begins
abbrev line_at : ℕ → Printed → ℕ → List Piece
line_at n cover at = placed at (names_words n cover)

abbrev row_at : ℕ → Printed → ℕ → List Piece
row_at n cover at = placed (after at (names_words n cover)) (row_words cover)

abbrev end_of : ℕ → Printed → ℕ → ℕ
end_of n cover at = after (after at (names_words n cover)) (row_words cover)

abbrev pub covers_at : ℕ → List Printed → ℕ → List (List Piece)
covers_at n covers at = lined at (covers_lines n covers)

-- A `.names` line and its row.
record ArePair (line row : List Piece) : Type 0 where
  names_line : directive_of line ≡ Names
  row_line : directive_of row ≡ Row
  long : (length line == 1) ≡ false
  widths : has_widths (operand_count line) row ≡ true
  good : has_good_bytes row ≡ true

pair : (n : ℕ) (cover : Printed) (at : ℕ) → ArePair (line_at n cover at) (row_at n cover at)
pair n (OfGate t gate) at =
    let row = two_good (is_negated gate.a) (is_negated gate.b) (after at (names_words n (OfGate t gate))) in
    record { names_line = refl; row_line = row.0; long = refl; widths = refl; good = row.1 }
pair n (OfOutput k output) at =
    let row = one_good (is_negated output) (after at (names_words n (OfOutput k output))) in
    record { names_line = refl; row_line = row.0; long = refl; widths = refl; good = row.1 }

-- no rows stand at the front of covers
pub none_ahead : (n : ℕ) (covers : List Printed) (at : ℕ) → rows_of (covers_at n covers at) ≡ []
none_ahead n [] at = refl
none_ahead n (cover ∷ covers) at =
    no_rows (line_at n cover at) (row_at n cover at ∷ covers_at n covers (end_of n cover at)) (ap is_row (pair n cover at).names_line)

-- each signal below a bound has its number among the names, wherever its name stands
abbrev pub ArePlaced : ℕ → ℕ → List (List ℕ) → Type 0
ArePlaced n bound all = (s at : ℕ) → s < bound → signal_named all (record { bytes = signal_name n s; at = at }) ≡ printed_signal n s

-- what a cover defines
cover_is : (all : List (List ℕ)) (n bound : ℕ) (cover : Printed) (at : ℕ) → ArePlaced n bound all → ReadsBelow bound cover → cover_of all (line_at n cover at) (row_at n cover at ∷ []) ≡ def_of n cover
cover_is all n bound (OfGate t gate) at here reads =
    let first = at + length (codes ".names") + 1 in
    let second = first + length (signal_name n (signal_of gate.a)) + 1 in
    let signals = ap₂ (λ (x y : ℕ). x ∷ y ∷ []) (here (signal_of gate.a) first reads.1) (here (signal_of gate.b) second reads.2) in
    let row = ap₂ (λ (x y : Trit). x ∷ y ∷ []) (wanted (is_negated gate.a)) (wanted (is_negated gate.b)) in
    ap₂ (λ (ss : List ℕ) (trits : List Trit). Cover ss (trits ∷ []) true) signals row
cover_is all n bound (OfOutput k output) at here reads =
    let first = at + length (codes ".names") + 1 in
    ap₂ (λ (x : ℕ) (y : Trit). Cover (x ∷ []) ((y ∷ []) ∷ []) true) (here (signal_of output) first reads.1) (wanted (is_negated output))

pub covers_are : (all : List (List ℕ)) (n bound : ℕ) (covers : List Printed) → ArePlaced n bound all → All (ReadsBelow bound) covers → (at : ℕ) → covers_of all (covers_at n covers at) ≡ map (def_of n) covers
covers_are all n bound [] here reads at = refl
covers_are all n bound (cover ∷ covers) here reads at =
    let line = line_at n cover at in
    let row = row_at n cover at in
    let left = covers_at n covers (end_of n cover at) in
    let is = pair n cover at in
    let rows : rows_of (row ∷ left) ≡ row ∷ [] = one_row row left (ap is_row is.row_line) ∙ ap (λ rs. row ∷ rs) (none_ahead n covers (end_of n cover at)) in
    covers_take all line (row ∷ left) (ap is_names is.names_line)
    ∙ ap₂ (λ (d : Def) (ds : List Def). d ∷ ds)
    (ap (cover_of all line) rows ∙ cover_is all n bound cover at here (All-head (ReadsBelow bound) cover covers reads))
    (covers_skip all row left (ap is_names is.row_line) ∙ covers_are all n bound covers here (All-tail (ReadsBelow bound) cover covers reads) (end_of n cover at))

-- no ports are named there
pub no_ports : (n : ℕ) (covers : List Printed) (at : ℕ) → port_words (covers_at n covers at) ≡ []
no_ports n [] at = refl
no_ports n (cover ∷ covers) at =
    let row = row_at n cover at in
    let left = covers_at n covers (end_of n cover at) in
    ap (λ d. ports_on d (line_at n cover at) ++ port_words (row ∷ left)) (pair n cover at).names_line
    ∙ ap (λ d. ports_on d row ++ port_words left) (pair n cover at).row_line
    ∙ no_ports n covers (end_of n cover at)

-- what is defined there
own_name : (n : ℕ) (cover : Printed) (at : ℕ) → (word_of (line_at n cover at) (length (line_at n cover at) - 1)).bytes ≡ name_of cover
own_name n (OfGate t gate) at = refl
own_name n (OfOutput k output) at = refl

pub defined_are : (n : ℕ) (covers : List Printed) (at : ℕ) → map (λ (w : Piece). w.bytes) (defined_words (covers_at n covers at)) ≡ map name_of covers
defined_are n [] at = refl
defined_are n (cover ∷ covers) at =
    let B : List Piece → List (List ℕ) = map (λ (w : Piece). w.bytes) in
    let line = line_at n cover at in
    let row = row_at n cover at in
    let left = covers_at n covers (end_of n cover at) in
    ap (λ d. B (defined_on d line ++ defined_words (row ∷ left))) (pair n cover at).names_line
    ∙ ap (λ d. B (word_of line (length line - 1) ∷ (defined_on d row ++ defined_words left))) (pair n cover at).row_line
    ∙ ap₂ (λ (w : List ℕ) (ws : List (List ℕ)). w ∷ ws) (own_name n cover at) (defined_are n covers (end_of n cover at))

-- P of the name of each signal below a bound, wherever it stands
abbrev pub HoldsBelow : (Piece → Type 0) → ℕ → ℕ → Type 0
HoldsBelow P n bound = (s at : ℕ) → s < bound → P (record { bytes = signal_name n s; at = at })

-- what is read there
operands_hold : (P : Piece → Type 0) (n bound : ℕ) (cover : Printed) (at : ℕ) → HoldsBelow P n bound → ReadsBelow bound cover → All P (operands (line_at n cover at))
operands_hold P n bound (OfGate t gate) at holds reads =
    let first = at + length (codes ".names") + 1 in
    let second = first + length (signal_name n (signal_of gate.a)) + 1 in
    let b : Piece = record { bytes = signal_name n (signal_of gate.b); at = second } in
    All-cons P (record { bytes = signal_name n (signal_of gate.a); at = first }) (b ∷ []) (holds (signal_of gate.a) first reads.1) (All-cons P b [] (holds (signal_of gate.b) second reads.2) (All-nil P))
operands_hold P n bound (OfOutput k output) at holds reads =
    let first = at + length (codes ".names") + 1 in
    All-cons P (record { bytes = signal_name n (signal_of output); at = first }) [] (holds (signal_of output) first reads.1) (All-nil P)

pub read_hold : (P : Piece → Type 0) (n bound : ℕ) (covers : List Printed) → HoldsBelow P n bound → All (ReadsBelow bound) covers → (at : ℕ) → All P (read_words (covers_at n covers at))
read_hold P n bound [] holds reads at = All-nil P
read_hold P n bound (cover ∷ covers) holds reads at =
    let line = line_at n cover at in
    let row = row_at n cover at in
    let left = covers_at n covers (end_of n cover at) in
    let words : read_words (line ∷ row ∷ left) ≡ operands line ++ read_words left =
    ap (λ d. read_on d line ++ read_words (row ∷ left)) (pair n cover at).names_line
    ∙ ap (λ d. operands line ++ (read_on d row ++ read_words left)) (pair n cover at).row_line in
    subst (All P) (sym words)
    (All-append P (operands line) (read_words left)
    (operands_hold P n bound cover at holds (All-head (ReadsBelow bound) cover covers reads))
    (read_hold P n bound covers holds (All-tail (ReadsBelow bound) cover covers reads) (end_of n cover at)))

-- No test finds one of what is left, after what stands before.
abbrev pub NoneFrom : {X : Type 0} → (List X → X → Bool) → List X → List X → Type 0
NoneFrom found earlier [] = Unit {0}
NoneFrom found earlier (x ∷ rest) = (found earlier x ≡ false) × NoneFrom found (earlier ++ x ∷ []) rest

pub none_from : {X : Type 0} (found : List X → X → Bool) (earlier rest : List X) → NoneIs found earlier → NoneFrom found earlier rest → NoneIs found (earlier ++ rest)
none_from found earlier [] before after = subst (NoneIs found) (sym (append-nil earlier)) before
none_from found earlier (x ∷ rest) before after =
    subst (NoneIs found) (append_assoc earlier (x ∷ []) rest) (none_from found (earlier ++ x ∷ []) rest (NoneIs-push found earlier x before after.0) after.1)

-- no line so far ends the model
abbrev pub HasNoEnd : List (List Piece) → Type 0
HasNoEnd earlier = has_line is_end earlier ≡ false

pub no_end_more : (earlier : List (List Piece)) (line : List Piece) → HasNoEnd earlier → is_end (directive_of line) ≡ false → HasNoEnd (earlier ++ line ∷ [])
no_end_more earlier line none here =
    list_any-append (λ (l : List Piece). is_end (directive_of l)) earlier (line ∷ [])
    ∙ ap (λ t. t || (is_end (directive_of line) || false)) none
    ∙ ap (λ t. t || false) here

-- a line before `.end`
pub sound_line : (earlier : List (List Piece)) (line : List Piece) (directive : Directive) → HasNoEnd earlier → directive_of line ≡ directive → is_some (fault_before_end earlier line directive) ≡ false → is_faulty earlier line ≡ false
sound_line earlier line directive none is sound =
    ap (λ t. is_some (if t then fault_after_end (directive_of line) else fault_before_end earlier line (directive_of line))) none
    ∙ ap (λ d. is_some (fault_before_end earlier line d)) is
    ∙ sound

row_after : (earlier : List (List Piece)) (line row : List Piece) → ArePair line row → row_fault (earlier ++ line ∷ []) row ≡ None
row_after earlier line row pair =
    let all = earlier ++ line ∷ [] in
    let no_row : is_row (directive_of line) ≡ false = ap is_row pair.names_line in
    let opened : opening all ≡ line = ap opening_of (reversed_push earlier line) ∙ (not_row (reverse earlier) line no_row).1 in
    let alone : rows_before all ≡ [] = ap rows_of (reversed_push earlier line) ∙ (not_row (reverse earlier) line no_row).0 in
    let fault_of : List Piece → List (List Piece) → Option NetKind = λ o rs. if not (is_names (directive_of o)) then Some fault.RowOutside else fault_in_cover (operand_count o) (list_any (differs_from (output_byte row)) rs) row in
    ap (λ o. fault_of o (rows_before all)) opened
    ∙ ap (fault_of line) alone
    ∙ ap (λ d. if not (is_names d) then Some fault.RowOutside else fault_in_cover (operand_count line) false row) pair.names_line
    ∙ ap (λ t. if not t then Some fault.RowWidth else if not (has_good_bytes row) then Some fault.RowChar else None) pair.widths
    ∙ ap (λ t. if not t then Some fault.RowChar else None) pair.good

-- the covers are sound after whatever has no end
pub sound_covers : (n : ℕ) (covers : List Printed) (at : ℕ) (earlier : List (List Piece)) → HasNoEnd earlier → NoneFrom is_faulty earlier (covers_at n covers at)
sound_covers n [] at earlier none = (sound_line earlier (placed at (codes ".end" ∷ [])) End none refl refl, tt)
sound_covers n (cover ∷ covers) at earlier none =
    let line = line_at n cover at in
    let row = row_at n cover at in
    let is = pair n cover at in
    let with_line = no_end_more earlier line none (ap is_end is.names_line) in
    let with_row = no_end_more (earlier ++ line ∷ []) row with_line (ap is_end is.row_line) in (
      sound_line earlier line Names none is.names_line (ap (λ t. is_some (if t then Some fault.Directive else None)) is.long),
      (sound_line (earlier ++ line ∷ []) row Row with_line is.row_line (ap is_some (row_after earlier line row is)), sound_covers n covers (end_of n cover at) ((earlier ++ line ∷ []) ++ row ∷ []) with_row),
    )
