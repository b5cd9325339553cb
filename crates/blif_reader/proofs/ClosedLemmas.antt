-- For the law that a file's netlist is closed: its names are known, and its rows as wide as their covers.
use Rattle.std.proofs.Common.{◌≡◌, ◌==◌, ℕ, suc, ◌+◌, ◌*◌, ◌/◌, ◌<◌, Bool, true, false, not, cond, List, [], ◌∷◌, ◌++◌, length, map, drop, All, Option, Some, None, refl, ap, sym, subst, ◌∙◌, arith, append_assoc, eqb-true, length-take, length-drop}
use Rattle.std.specs.Prelude.{nat_lt, is_some, reverse, filter}
use Rattle.std.specs.List.{position_or_len}
use Rattle.std.specs.Str.{bytes_eq}
use Rattle.std.proofs.lemmas.Bool.Decides.{nat_tests}
use Rattle.std.proofs.lemmas.Slice.Eq.{bytes_eq-Decides}
use Rattle.std.proofs.lemmas.List.{length-append, length-map}
use Rattle.std.proofs.lemmas.List.Elements.{All-nil, All-cons, All-append, All-map, All-weaker}
use Rattle.text_core.specs.Piece.{Piece}
use Rattle.circuits.specs.declared.port.PortKind.{PortKind}
use Rattle.circuits.specs.declared.port.PortKind.TheVariants.{Input, Output}
use Rattle.circuits.specs.declared.definition.Def.{Def}
use Rattle.circuits.specs.Literals.{signal_of}
use Rattle.circuits.specs.Circuits.{IsClosed, named_by, signals_in, HasWideRows}
use Rattle.net_file.specs.declared.fault.NetKind.{NetKind}
use Rattle.net_file.specs.declared.fault.NetKind.TheVariants as fault
use Rattle.blif_reader.specs.declared.directive.Directive.{Directive}
use Rattle.blif_reader.specs.declared.directive.Directive.TheVariants.{Inputs, Outputs, Names, Row}
use Rattle.blif_reader.specs.declared.survey.PortWord.{PortWord}
use Rattle.blif_reader.specs.Directives.{directive_of, is_row, is_names, is_end}
use Rattle.blif_reader.specs.Firsts.{NoneIs}
use Rattle.blif_reader.specs.Rows.{operand_count, has_widths, row_widths, literal_bytes, opening, row_fault, rows_of}
use Rattle.blif_reader.specs.Names.{is_same_kind, operands, read_on, read_words, defined_on, defined_words, named_ports, ports_on, port_words, input_words, output_words}
use Rattle.blif_reader.specs.Faults.{has_line, fault_before_end, fault_after_end, line_fault, is_faulty}
use Rattle.blif_reader.specs.Covers.{trit_of, trits_of, signal_names, signal_named, literal_named, cover_of, covers_of, blif_circuit}
use Rattle.blif_reader.specs.Building.{IsKnownIn, outputs_by, outputs_in}
use Rattle.blif_reader.proofs.FirstLemmas.{found-seam}
use Rattle.blif_reader.proofs.SurveyLemmas.{reversed_push, not_row, row_more, opening_of, not_ended}
use Rattle.blif_reader.proofs.NumberLemmas.{any_place}
use Rattle.blif_reader.proofs.BuildingLemmas.{covers_skip, covers_take, no_rows, one_row}
use Rattle.circuits.proofs.Lists.{All-front, All-back}

-- a name that is known has a signal after the constant
pub known_signal : (names : List (List ℕ)) (word : Piece) → IsKnownIn names word → signal_named names word < 1 + length names
known_signal names word k =
    let place = any_place (bytes_eq word.bytes) names ∙ k in
    below (position_or_len (bytes_eq word.bytes) names) (length names) place
  where
    below : (n m : ℕ) → nat_lt n m ≡ true → 1 + n < 1 + m
    below n m h = grind (arith, nat_tests)

-- what a list of definitions has for each
abbrev NamesBelow : ℕ → Def → Type 0
NamesBelow count def = All (λ s. s < count) (named_by def)

known_cover : (names : List (List ℕ)) (line : List Piece) (rows : List (List Piece)) → All (IsKnownIn names) (operands line) → NamesBelow (1 + length names) (cover_of names line rows)
known_cover names line rows known =
    All-map (λ s. s < 1 + length names) (signal_named names) (operands line) (All-weaker (IsKnownIn names) (λ w. signal_named names w < 1 + length names) (known_signal names) (operands line) known)

known_by_test : (t : Bool) (names : List (List ℕ)) (line : List Piece) (left : List (List Piece)) → is_names (directive_of line) ≡ t → All (IsKnownIn names) (read_on (directive_of line) line) → All (NamesBelow (1 + length names)) (covers_of names left) → All (NamesBelow (1 + length names)) (covers_of names (line ∷ left))
known_by_test true names line left e known rest =
    let here : All (IsKnownIn names) (operands line) = subst (λ d. All (IsKnownIn names) (read_on d line)) (names_kind (directive_of line) e) known in
    subst (All (NamesBelow (1 + length names))) (sym (covers_take names line left e)) (All-cons (NamesBelow (1 + length names)) (cover_of names line (rows_of left)) (covers_of names left) (known_cover names line (rows_of left) here) rest)
  where
    names_kind : (d : Directive) → is_names d ≡ true → d ≡ Names
    names_kind Names h = refl
    names_kind other h = cc h
known_by_test false names line left e known rest =
    subst (All (NamesBelow (1 + length names))) (sym (covers_skip names line left e)) rest

-- the definitions name only what is there
known_covers : (names : List (List ℕ)) (lines : List (List Piece)) → All (IsKnownIn names) (read_words lines) → All (NamesBelow (1 + length names)) (covers_of names lines)
known_covers names [] known = All-nil (NamesBelow (1 + length names))
known_covers names (line ∷ lines) known =
    known_by_test (is_names (directive_of line)) names line lines refl (All-front (IsKnownIn names) (read_on (directive_of line) line) (read_words lines) known) (known_covers names lines (All-back (IsKnownIn names) (read_on (directive_of line) line) (read_words lines) known))

-- as many definitions as defined names
count_by_directive : (names : List (List ℕ)) (line : List Piece) (left : List (List Piece)) (directive : Directive) → directive_of line ≡ directive → length (covers_of names left) ≡ length (defined_words left) → length (covers_of names (line ∷ left)) ≡ length (defined_on directive line ++ defined_words left)
count_by_directive names line left Names k h = ap length (covers_take names line left (ap is_names k)) ∙ ap suc h
count_by_directive names line left other k h = ap length (covers_skip names line left (ap is_names k)) ∙ h

pub length-covers_of : (names : List (List ℕ)) (lines : List (List Piece)) → length (covers_of names lines) ≡ length (defined_words lines)
length-covers_of names [] = refl
length-covers_of names (line ∷ lines) =
    count_by_directive names line lines (directive_of line) refl (length-covers_of names lines)

-- a line without a fault
no_fault : (found : Option NetKind) → is_some found ≡ false → found ≡ None
no_fault None h = refl
no_fault (Some kind) h = cc h

sound_line : (pre : List (List Piece)) (line : List Piece) (rest : List (List Piece)) → NoneIs is_faulty (pre ++ line ∷ rest) → line_fault pre line ≡ None
sound_line pre line rest sound =
    no_fault (line_fault pre line) (sym (found-seam is_faulty pre line rest []) ∙ sound (length pre) [] (omega (arith, length-append pre (line ∷ rest))))

pub by_tests : (names widths : Bool) (other : Option NetKind) → cond (not names) (Some fault.RowOutside) (cond (not widths) (Some fault.RowWidth) other) ≡ None → widths ≡ true
by_tests true true other h = refl
by_tests true false other h = cc h
by_tests false widths other h = cc h

-- a row without a fault has the widths of the cover that is open
sound_row : (pre : List (List Piece)) (row : List Piece) → directive_of row ≡ Row → line_fault pre row ≡ None → has_widths (operand_count (opening pre)) row ≡ true
sound_row pre row k h =
    let at_row = ap (λ d. cond (has_line is_end pre) (fault_after_end d) (fault_before_end pre row d)) (sym k) ∙ h in
    by_tests (is_names (directive_of (opening pre))) (has_widths (operand_count (opening pre)) row) _ (not_ended (has_line is_end pre) fault.Directive (row_fault pre row) at_row)

pub row_kind : (d : Directive) → is_row d ≡ true → d ≡ Row
row_kind Row h = refl
row_kind other h = cc h

pub opening-row : (pre : List (List Piece)) (row : List Piece) → is_row (directive_of row) ≡ true → opening (pre ++ row ∷ []) ≡ opening pre
opening-row pre row h = ap opening_of (reversed_push pre row) ∙ (row_more (reverse pre) row h).1

pub opening-line : (pre : List (List Piece)) (line : List Piece) → is_row (directive_of line) ≡ false → opening (pre ++ line ∷ []) ≡ line
opening-line pre line h = ap opening_of (reversed_push pre line) ∙ (not_row (reverse pre) line h).1

pub one_more : (pre : List (List Piece)) (line : List Piece) (rest : List (List Piece)) → NoneIs is_faulty (pre ++ line ∷ rest) → NoneIs is_faulty ((pre ++ line ∷ []) ++ rest)
one_more pre line rest sound = subst (NoneIs is_faulty) (sym (append_assoc pre (line ∷ []) rest)) sound

abbrev pub HasWidths : ℕ → List Piece → Type 0
HasWidths operands row = has_widths operands row ≡ true

-- the rows after a `.names` line have its widths
mutual_rows : (t : Bool) (pre : List (List Piece)) (line row : List Piece) (rest : List (List Piece)) → is_row (directive_of row) ≡ t → opening pre ≡ line → NoneIs is_faulty (pre ++ row ∷ rest) → (opening (pre ++ row ∷ []) ≡ line → All (HasWidths (operand_count line)) (rows_of rest)) → All (HasWidths (operand_count line)) (rows_of (row ∷ rest))
mutual_rows true pre line row rest e o sound tail =
    let here = sound_row pre row (row_kind (directive_of row) e) (sound_line pre row rest sound) in
    subst (All (HasWidths (operand_count line))) (sym (one_row row rest e)) (All-cons (HasWidths (operand_count line)) row (rows_of rest) (subst (λ l. has_widths (operand_count l) row ≡ true) o here) (tail (opening-row pre row e ∙ o)))
mutual_rows false pre line row rest e o sound tail =
    subst (All (HasWidths (operand_count line))) (sym (no_rows row rest e)) (All-nil (HasWidths (operand_count line)))

wide_rows : (rest pre : List (List Piece)) (line : List Piece) → opening pre ≡ line → NoneIs is_faulty (pre ++ rest) → All (HasWidths (operand_count line)) (rows_of rest)
wide_rows [] pre line o sound = All-nil (HasWidths (operand_count line))
wide_rows (row ∷ rest) pre line o sound =
    mutual_rows (is_row (directive_of row)) pre line row rest refl o sound (λ opened. wide_rows rest (pre ++ row ∷ []) line opened (one_more pre row rest sound))

-- the bytes for the operands are as many as these
widths_by_test : (t : Bool) (n : ℕ) (row : List Piece) → (n == 0) ≡ t → map (λ word. length word.bytes) row ≡ cond t (1 ∷ []) (n ∷ 1 ∷ []) → length (literal_bytes row) ≡ n
widths_by_test true n (output ∷ []) e h = sym (eqb-true n 0 e)
widths_by_test false n (literals ∷ output ∷ []) e h = cc h
widths_by_test t n row e h = cc h

pub literal_widths : (n : ℕ) (row : List Piece) → HasWidths n row → length (literal_bytes row) ≡ n
literal_widths n row h =
    widths_by_test (n == 0) n row refl ((bytes_eq-Decides (map (λ word. length word.bytes) row) (row_widths n)).0 h)

pub length-operands : (line : List Piece) → length (operands line) ≡ operand_count line
length-operands line =
    omega (arith, length-take (operand_count line) (drop 1 line), length-drop 1 line)

-- a cover's rows are as wide as its names
wide_cover : (names : List (List ℕ)) (line : List Piece) (rows : List (List Piece)) → All (HasWidths (operand_count line)) rows → HasWideRows (cover_of names line rows)
wide_cover names line rows wide =
    All-map (λ row. length row ≡ length (map (signal_named names) (operands line))) trits_of rows (All-weaker (HasWidths (operand_count line)) (λ row. length (trits_of row) ≡ length (map (signal_named names) (operands line))) (λ row h. length-map (literal_bytes row) trit_of ∙ (literal_widths (operand_count line) row h ∙ (sym (length-operands line) ∙ sym (length-map (operands line) (signal_named names))))) rows wide)

wide_by_test : (t : Bool) (names : List (List ℕ)) (pre : List (List Piece)) (line : List Piece) (rest : List (List Piece)) → is_names (directive_of line) ≡ t → NoneIs is_faulty (pre ++ line ∷ rest) → All HasWideRows (covers_of names rest) → All HasWideRows (covers_of names (line ∷ rest))
wide_by_test true names pre line rest e sound tail =
    let wide = wide_rows rest (pre ++ line ∷ []) line (opening-line pre line (names_no_row (directive_of line) e)) (one_more pre line rest sound) in
    subst (All HasWideRows) (sym (covers_take names line rest e)) (All-cons HasWideRows (cover_of names line (rows_of rest)) (covers_of names rest) (wide_cover names line (rows_of rest) wide) tail)
  where
    names_no_row : (d : Directive) → is_names d ≡ true → is_row d ≡ false
    names_no_row Names h = refl
    names_no_row other h = cc h
wide_by_test false names pre line rest e sound tail =
    subst (All HasWideRows) (sym (covers_skip names line rest e)) tail

wide_covers : (names : List (List ℕ)) (lines pre : List (List Piece)) → NoneIs is_faulty (pre ++ lines) → All HasWideRows (covers_of names lines)
wide_covers names [] pre sound = All-nil HasWideRows
wide_covers names (line ∷ rest) pre sound =
    wide_by_test (is_names (directive_of line)) names pre line rest refl sound (wide_covers names rest (pre ++ line ∷ []) (one_more pre line rest sound))

-- the outputs are among what is read
outputs_by_directive : (names : List (List ℕ)) (directive : Directive) (line : List Piece) → All (IsKnownIn names) (read_on directive line) → All (IsKnownIn names) (outputs_by directive line)
outputs_by_directive names Outputs line known = known
outputs_by_directive names other line known = All-nil (IsKnownIn names)

known_outputs : (names : List (List ℕ)) (lines : List (List Piece)) → All (IsKnownIn names) (read_words lines) → All (IsKnownIn names) (outputs_in lines)
known_outputs names [] known = All-nil (IsKnownIn names)
known_outputs names (line ∷ lines) known =
    All-append (IsKnownIn names) (outputs_by (directive_of line) line) (outputs_in lines) (outputs_by_directive names (directive_of line) line (All-front (IsKnownIn names) (read_on (directive_of line) line) (read_words lines) known)) (known_outputs names lines (All-back (IsKnownIn names) (read_on (directive_of line) line) (read_words lines) known))

-- the words of output ports are those of the output lines
filter_same : (kind : PortKind) (words : List Piece) (rest : List PortWord) → map (λ (p : PortWord). p.word) (filter (λ (p : PortWord). is_same_kind p.kind Output) (named_ports kind words ++ rest)) ≡ cond (is_same_kind kind Output) words [] ++ map (λ (p : PortWord). p.word) (filter (λ (p : PortWord). is_same_kind p.kind Output) rest)
filter_same Output [] rest = refl
filter_same Input [] rest = refl
filter_same Output (word ∷ words) rest = ap (λ ws. word ∷ ws) (filter_same Output words rest)
filter_same Input (word ∷ words) rest = filter_same Input words rest

outputs_on : (directive : Directive) (line : List Piece) (rest : List PortWord) → map (λ (p : PortWord). p.word) (filter (λ (p : PortWord). is_same_kind p.kind Output) (ports_on directive line ++ rest)) ≡ outputs_by directive line ++ map (λ (p : PortWord). p.word) (filter (λ (p : PortWord). is_same_kind p.kind Output) rest)
outputs_on Inputs line rest = filter_same Input (drop 1 line) rest
outputs_on Outputs line rest = filter_same Output (drop 1 line) rest
outputs_on other line rest = refl

pub output_words-outputs_in : (lines : List (List Piece)) → output_words lines ≡ outputs_in lines
output_words-outputs_in [] = refl
output_words-outputs_in (line ∷ lines) =
    outputs_on (directive_of line) line (port_words lines) ∙ ap (λ ws. outputs_by (directive_of line) line ++ ws) (output_words-outputs_in lines)

-- the signal of an output's literal
literal_signal : (names : List (List ℕ)) (word : Piece) → signal_of (literal_named names word) ≡ signal_named names word
literal_signal names word = let e : 2 * signal_named names word / 2 ≡ signal_named names word = omega arith in e

pub length-names : (lines : List (List Piece)) → length (signal_names lines) ≡ length (input_words lines) + length (defined_words lines)
length-names lines =
    length-map (input_words lines ++ defined_words lines) (λ (w : Piece). w.bytes) ∙ length-append (input_words lines) (defined_words lines)

-- a file without faulty lines, whose names are known, is a closed netlist
pub closed_circuit : (lines : List (List Piece)) → NoneIs is_faulty lines → All (IsKnownIn (signal_names lines)) (read_words lines) → IsClosed (blif_circuit lines)
closed_circuit lines sound known =
    let names = signal_names lines in
    let same : 1 + length names ≡ signals_in (blif_circuit lines) = omega (arith, length-names lines, length-covers_of names lines) in
    let outputs = All-map (λ output. signal_of output < 1 + length names) (literal_named names) (outputs_in lines) (All-weaker (IsKnownIn names) (λ w. signal_of (literal_named names w) < 1 + length names) (λ w k. subst (λ s. s < 1 + length names) (sym (literal_signal names w)) (known_signal names w k)) (outputs_in lines) (known_outputs names lines known)) in
    record {
      defs = subst (λ n. All (NamesBelow n) (covers_of names lines)) same (known_covers names lines known);
      rows = wide_covers names lines [] sound;
      outputs = subst (λ n. All (λ output. signal_of output < n) (map (literal_named names) (output_words lines))) same (subst (λ ws. All (λ output. signal_of output < 1 + length names) (map (literal_named names) ws)) (sym (output_words-outputs_in lines)) outputs);
    }
