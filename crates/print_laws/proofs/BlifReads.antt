-- A printed BLIF file is read as the netlist that it is a text of.
use Rattle.std.proofs.Common.{◌≡◌, ℕ, zero, suc, ◌+◌, ◌-◌, ◌^◌, ◌<◌, ◌≤◌, ◌==◌, ◌&&◌, ◌||◌, Bool, true, false, not, List, [], ◌∷◌, ◌++◌, length, map, take, drop, get_or, codes, nat_lt, if◌then◌else◌, All, refl, sym, ap, ap₂, subst, ◌∙◌, append_assoc, take-append-drop, inl, inr, arith, append-nil}
use Rattle.std.specs.Fmt.{decimal}
use Rattle.std.specs.Int.{IsInRange}
use Rattle.std.specs.List.{range_with_len, position_or_len, list_any, list_all, sum_by, join_with_byte}
use Rattle.std.specs.Str.{bytes_eq}
use Rattle.std.proofs.lemmas.Bool.{cases_lt}
use Rattle.std.proofs.lemmas.Bool.Decides.{nat_tests}
use Rattle.std.proofs.lemmas.Fmt.{digits_decimal}
use Rattle.std.proofs.lemmas.Str.Parse.{digit_at}
use Rattle.std.proofs.lemmas.List.{map-append, take-map, get_or-map, get_or_append_left, get_or-append-add, length-map, length-append, length-take}
use Rattle.std.proofs.lemmas.List.Folds.{list_any-append}
use Rattle.std.proofs.lemmas.List.Sums.{sum_by-cons, AllPass-from_list_all}
use Rattle.std.proofs.lemmas.List.Elements.{All-nil, All-cons, All-head, All-tail, All-append, All-from_get_or}
use Rattle.std.proofs.lemmas.List.FromFn.{map-range_with_len_more, get_or-map-range_with_len}
use Rattle.text_core.specs.Bytes.{is_blank, is_line_feed}
use Rattle.text_core.specs.Piece.{Piece}
use Rattle.text_core.proofs.NumberLemmas.{numerals}
use Rattle.circuits.specs.declared.port.PortKind.TheVariants.{Input, Output}
use Rattle.circuits.specs.declared.netlist.Lit.{Lit}
use Rattle.circuits.specs.declared.netlist.Gate.{Gate}
use Rattle.circuits.specs.declared.definition.Trit.TheVariants.{Zero, One}
use Rattle.circuits.specs.declared.definition.Def.{Def}
use Rattle.circuits.specs.declared.definition.Def.TheVariants.{Cover}
use Rattle.circuits.specs.Literals.{signal_of, is_negated, plain_literal}
use Rattle.circuits.specs.Netlists.{Net}
use Rattle.circuits.specs.Circuits.{Circuit}
use Rattle.circuits.specs.Expansion.{def_gates}
use Rattle.blif_reader.specs.JoinedLines.{placed, is_comment_sign}
use Rattle.blif_reader.specs.Directives.{is_inputs, is_outputs}
use Rattle.blif_reader.specs.Firsts.{NoneIs}
use Rattle.blif_reader.specs.Names.{same_name, named_ports, port_words, words_of_kind, input_words, output_words, defined_words, read_words, repeats_port, is_redefined}
use Rattle.blif_reader.specs.Faults.{has_line, is_faulty, AreDeclared, AreDistinct, AreDefinedOnce, AreKnown}
use Rattle.blif_reader.specs.Covers.{signal_names, literal_named, cover_of, covers_of}
use Rattle.blif_reader.specs.Building.{IsKnownIn}
use Rattle.blif_reader.specs.Blif.{AreBlif, IsBlif, blif_lines}
use Rattle.blif_reader.proofs.NumberLemmas.{list_any-map, repeats_named, words_of_kind-append}
use Rattle.blif_reader.proofs.BlifLemmas.{all_known, port_names-bytes}
use Rattle.net_print.specs.BlifLines.{row_byte, signal_name, gate_name, output_name, input_name, declarations, words_text, blif_text}
use Rattle.print_laws.specs.Printable.{IsWithinLimits}
use Rattle.print_laws.specs.PrintedCircuits.{gate_cover, output_cover, printed_signal, printed_circuit}
use Rattle.print_laws.proofs.PrintedMeaning.{signal_below, printed_acyclic}
use Rattle.print_laws.proofs.BlifWords.{IsPlainByte, IsPlain, IsPlainLine, lined, blif_lines_are}
use Rattle.print_laws.proofs.BlifNames.{name, names, defined_names, all_names, length-names, apart_names, constant_place, gate_place, output_place, signal_place, known_name, none_before}
use Rattle.print_laws.proofs.PrintedCovers.{Printed, OfGate, OfOutput, name_of, def_of, names_words, row_words, covers_lines, numbered, printed_covers, map_numbered, names_numbered, ReadsBelow, covers_read, words_are}
use Rattle.print_laws.proofs.BlifLines.{covers_at, none_ahead, ArePlaced, covers_are, no_ports, defined_are, HoldsBelow, read_hold, NoneFrom, none_from, sound_covers}

bytes_placed : (at : ℕ) (ws : List (List ℕ)) → map (λ (w : Piece). w.bytes) (placed at ws) ≡ ws
bytes_placed at [] = refl
bytes_placed at (w ∷ ws) = ap (λ l. w ∷ l) (bytes_placed (at + length w + 1) ws)

-- the ports
no_inputs : (others : List Piece) → words_of_kind Input (named_ports Output others ++ []) ≡ []
no_inputs [] = refl
no_inputs (w ∷ others) = no_inputs others

inputs_in : (ws others : List Piece) → words_of_kind Input (named_ports Input ws ++ (named_ports Output others ++ [])) ≡ ws
inputs_in [] others = no_inputs others
inputs_in (w ∷ ws) others = ap (λ l. w ∷ l) (inputs_in ws others)

own_outputs : (others : List Piece) → words_of_kind Output (named_ports Output others ++ []) ≡ others
own_outputs [] = refl
own_outputs (w ∷ others) = ap (λ l. w ∷ l) (own_outputs others)

outputs_in : (ws others : List Piece) → words_of_kind Output (named_ports Input ws ++ (named_ports Output others ++ [])) ≡ others
outputs_in [] others = own_outputs others
outputs_in (w ∷ ws) others = outputs_in ws others

-- the next name of a letter is none of those before
fresh : (letter a b n : ℕ) → b + n ≤ a → a < 2 ^ 64 → list_any (bytes_eq (name letter a)) (names letter b n) ≡ false
fresh letter a b zero before few = refl
fresh letter a b (suc n) before few =
    ap (λ t. t || list_any (bytes_eq (name letter a)) (names letter (b + 1) n)) (apart_names letter a b few (omega (arith, before, few)) (λ e. omega (arith, e, before)))
    ∙ fresh letter a (b + 1) n (omega (arith, before)) few

names_more : (letter a : ℕ) → names letter 0 a ++ name letter a ∷ [] ≡ names letter 0 (a + 1)
names_more letter a = sym (map-range_with_len_more (name letter) 0 a a (omega arith))

-- Names of one letter that are told apart by those before: `own` are the names of a kind so far, `other` those of the other.
once_names : {X : Type 0} (found : List X → X → Bool) (make : Piece → X) (own other : List X → List (List ℕ)) → ((earlier : List X) (w : Piece) → found earlier (make w) ≡ list_any (bytes_eq w.bytes) (own earlier)) → ((earlier : List X) (w : Piece) → own (earlier ++ make w ∷ []) ≡ own earlier ++ w.bytes ∷ []) → ((earlier : List X) (w : Piece) → other (earlier ++ make w ∷ []) ≡ other earlier) → (letter a n at : ℕ) (others : List (List ℕ)) (earlier rest : List X) → a + n < 2 ^ 32 → own earlier ≡ names letter 0 a → other earlier ≡ others → ((earlier : List X) → own earlier ≡ names letter 0 (a + n) → other earlier ≡ others → NoneFrom found earlier rest) → NoneFrom found earlier (map make (placed at (names letter a n)) ++ rest)
once_names found make own other found_is own_more other_more letter a zero at others earlier rest few here there later =
    let same : a ≡ a + 0 = omega arith in
    later earlier (here ∙ ap (names letter 0) same) there
once_names found make own other found_is own_more other_more letter a (suc n) at others earlier rest few here there later =
    let w : Piece = record { bytes = name letter a; at = at } in
    let more : own (earlier ++ make w ∷ []) ≡ names letter 0 (a + 1) =
    own_more earlier w ∙ ap (λ l. l ++ name letter a ∷ []) here ∙ names_more letter a in
    let sum : a + 1 + n ≡ a + suc n = omega arith in (
      found_is earlier w ∙ ap (list_any (bytes_eq (name letter a))) here ∙ fresh letter a 0 a (omega arith) (omega (arith, few)),
      once_names found make own other found_is own_more other_more letter (a + 1) n (at + length (name letter a) + 1) others (earlier ++ make w ∷ []) rest (omega (arith, few)) more (other_more earlier w ∙ there)
          (λ e full kept. later e (full ∙ ap (names letter 0) sum) kept),
    )

-- the place of what is defined
defined_place : (n g m k : ℕ) → n + g + m < 2 ^ 32 → k < 1 + g + m → position_or_len (bytes_eq (get_or (defined_names g m) k [])) (all_names n g m) ≡ n + k
defined_place n g m zero few h = omega (arith, constant_place n g m few)
defined_place n g m (suc j) few h =
    elim (cases_lt j g) [
      | inl gate ↦
          let is : get_or (names 103 0 g ++ names 111 0 m) j [] ≡ name 103 j =
          get_or_append_left (names 103 0 g) (names 111 0 m) [] j (omega (arith, gate, length-names 103 0 g))
          ∙ get_or-map-range_with_len (name 103) 0 g j j [] gate (omega arith) in
          omega (arith, ap (λ w. position_or_len (bytes_eq w) (all_names n g m)) is, gate_place n g m few j gate)
      | inr output ↦
          let k = j - g in
          let place : j ≡ length (names 103 0 g) + k = omega (arith, output, length-names 103 0 g) in
          let is : get_or (names 103 0 g ++ names 111 0 m) j [] ≡ name 111 k =
          ap (λ i. get_or (names 103 0 g ++ names 111 0 m) i []) place
          ∙ get_or-append-add (names 103 0 g) (names 111 0 m) k []
          ∙ get_or-map-range_with_len (name 111) 0 m k k [] (omega (arith, h, output)) (omega arith) in
          omega (arith, ap (λ w. position_or_len (bytes_eq w) (all_names n g m)) is, output_place n g m few k (omega (arith, h, output)), output)
    ]

-- nothing is defined twice
defined_once : (n g m : ℕ) (inputs defined : List Piece) → n + g + m < 2 ^ 32 → map (λ (w : Piece). w.bytes) inputs ≡ names 105 0 n → map (λ (w : Piece). w.bytes) defined ≡ defined_names g m → NoneIs (is_redefined inputs) defined
defined_once n g m inputs defined few inputs_are defined_are k d below =
    let B : Piece → List ℕ = λ w. w.bytes in
    let own = get_or defined k d in
    let w = own.bytes in
    let D = defined_names g m in
    let count : length defined ≡ 1 + (g + m) =
    omega (arith, length-map defined B, ap length defined_are, length_defined) in
    let is : w ≡ get_or D k [] = sym (get_or-map B defined k d [] below) ∙ ap (λ l. get_or l k []) defined_are in
    let place : position_or_len (bytes_eq w) (all_names n g m) ≡ n + k =
    ap (λ x. position_or_len (bytes_eq x) (all_names n g m)) is ∙ defined_place n g m k few (omega (arith, below, count)) in
    let parts : (names 105 0 n ++ take k D) ++ drop k D ≡ all_names n g m =
    append_assoc (names 105 0 n) (take k D) (drop k D) ∙ ap (λ l. names 105 0 n ++ l) (take-append-drop k D) in
    let long : length (names 105 0 n ++ take k D) ≤ position_or_len (bytes_eq w) ((names 105 0 n ++ take k D) ++ drop k D) =
    omega (arith, ap (λ l. position_or_len (bytes_eq w) l) parts, place, length-append (names 105 0 n) (take k D), length-names 105 0 n, length-take k D) in
    let none : list_any (bytes_eq w) (names 105 0 n ++ take k D) ≡ false = none_before w (names 105 0 n ++ take k D) (drop k D) long in
    let first : list_any (same_name own) inputs ≡ list_any (bytes_eq w) (names 105 0 n) = sym (list_any-map (bytes_eq w) B inputs) ∙ ap (list_any (bytes_eq w)) inputs_are in
    let second : list_any (same_name own) (take k defined) ≡ list_any (bytes_eq w) (take k D) =
    sym (list_any-map (bytes_eq w) B (take k defined)) ∙ ap (list_any (bytes_eq w)) (sym (take-map B k defined) ∙ ap (take k) defined_are) in
    ap (λ t. t || list_any (same_name own) (take k defined)) first
    ∙ ap (λ t. list_any (bytes_eq w) (names 105 0 n) || t) second
    ∙ sym (list_any-append (bytes_eq w) (names 105 0 n) (take k D))
    ∙ none
  where
    length_defined : length (defined_names g m) ≡ 1 + (g + m)
    length_defined = ap suc (length-append (names 103 0 g) (names 111 0 m)) ∙ omega (arith, length-names 103 0 g, length-names 111 0 m)

-- each output's literal is that of its definition
outputs_numbered : (n g m a k at : ℕ) → n + g + m < 2 ^ 32 → a + k ≤ m → map (literal_named (all_names n g m)) (placed at (names 111 a k)) ≡ map (λ i. plain_literal (2 + n + g + i)) (range_with_len a k)
outputs_numbered n g m a zero at few within = refl
outputs_numbered n g m a (suc k) at few within =
    let place : 1 + position_or_len (bytes_eq (name 111 a)) (all_names n g m) ≡ 2 + n + g + a = omega (arith, output_place n g m few a (omega (arith, within))) in
    ap (λ s. plain_literal s ∷ map (literal_named (all_names n g m)) (placed (at + length (name 111 a) + 1) (names 111 (a + 1) k))) place
    ∙ ap (λ l. plain_literal (2 + n + g + a) ∷ l) (outputs_numbered n g m (a + 1) k (at + length (name 111 a) + 1) few (omega (arith, within)))

outputs_known : (n g m a k at : ℕ) → n + g + m < 2 ^ 32 → a + k ≤ m → All (IsKnownIn (all_names n g m)) (placed at (names 111 a k))
outputs_known n g m a zero at few within = All-nil (IsKnownIn (all_names n g m))
outputs_known n g m a (suc k) at few within =
    let word : Piece = record { bytes = name 111 a; at = at } in
    All-cons (IsKnownIn (all_names n g m)) word (placed (at + length (name 111 a) + 1) (names 111 (a + 1) k))
    (known_name n g m few (name 111 a) (omega (arith, output_place n g m few a (omega (arith, within)), within)))
    (outputs_known n g m (a + 1) k (at + length (name 111 a) + 1) few (omega (arith, within)))

-- how many gates the covers have
gate_count : (names : List ℕ) (a b : Bool) → def_gates (Cover names (((if a then Zero else One) ∷ (if b then Zero else One) ∷ []) ∷ []) true) ≡ 1
gate_count names true true = refl
gate_count names true false = refl
gate_count names false true = refl
gate_count names false false = refl

output_count : (names : List ℕ) (a : Bool) → def_gates (Cover names (((if a then Zero else One) ∷ []) ∷ []) true) ≡ 0
output_count names true = refl
output_count names false = refl

sum_outputs : (n : ℕ) (outputs : List Lit) → sum_by def_gates (map (output_cover n) outputs) ≡ 0
sum_outputs n [] = refl
sum_outputs n (output ∷ outputs) =
    omega (arith, sum_by-cons def_gates (output_cover n output) (map (output_cover n) outputs), output_count (printed_signal n (signal_of output) ∷ []) (is_negated output), sum_outputs n outputs)

sum_gates : (n : ℕ) (gates : List Gate) (outputs : List Lit) → sum_by def_gates (map (gate_cover n) gates ++ map (output_cover n) outputs) ≡ length gates
sum_gates n [] outputs = sum_outputs n outputs
sum_gates n (gate ∷ gates) outputs =
    omega (arith, sum_by-cons def_gates (gate_cover n gate) (map (gate_cover n) gates ++ map (output_cover n) outputs), gate_count (printed_signal n (signal_of gate.a) ∷ printed_signal n (signal_of gate.b) ∷ []) (is_negated gate.a) (is_negated gate.b), sum_gates n gates outputs)

-- words of bytes that stand for themselves
abbrev is_plain : ℕ → Bool
is_plain byte = not (is_blank byte) && (not (is_line_feed byte) && (not (is_comment_sign byte) && not (byte == 92)))

plain_byte : (byte : ℕ) → is_plain byte ≡ true → IsPlainByte byte
plain_byte byte h = by_tests (is_blank byte) (is_line_feed byte) (is_comment_sign byte) (byte == 92) refl refl refl refl h
  where
    by_tests : (a b c d : Bool) → is_blank byte ≡ a → is_line_feed byte ≡ b → is_comment_sign byte ≡ c → (byte == 92) ≡ d → (not a && (not b && (not c && not d))) ≡ true → IsPlainByte byte
    by_tests false false false false p q r s h = record { no_blank = p; no_line_feed = q; no_comment = r; no_backslash = s }
    by_tests a b c d p q r s h = cc h

digit_plain : (x : ℕ) → IsInRange 48 57 x → IsPlainByte x
digit_plain x h = record { no_blank = grind (arith, nat_tests); no_line_feed = grind (arith, nat_tests); no_comment = grind (arith, nat_tests); no_backslash = grind (arith, nat_tests) }

decimal_plain : (n : ℕ) → n < 2 ^ 64 → All IsPlainByte (decimal n)
decimal_plain n h =
    let digits = numerals.to (decimal n) (digits_decimal numerals n h) in
    All-from_get_or IsPlainByte (decimal n) 0 (λ i below. digit_plain _ (digit_at (decimal n) i digits below))

all_plain : (word : List ℕ) → list_all is_plain word ≡ true → All IsPlainByte word
all_plain word h k d below = plain_byte (get_or word k d) (AllPass-from_list_all is_plain word h k d below)

word_plain : (word : List ℕ) → 0 < length word → list_all is_plain word ≡ true → IsPlain word
word_plain word some h = record { filled = some; plain = all_plain word h }

name_plain : (letter n : ℕ) → list_all is_plain (letter ∷ []) ≡ true → n < 2 ^ 64 → IsPlain (name letter n)
name_plain letter n h few = record {
  filled = omega arith;
  plain = All-cons IsPlainByte letter (decimal n) (All-head IsPlainByte letter [] (all_plain (letter ∷ []) h)) (decimal_plain n few);
}

signal_plain : (n s : ℕ) → s < 2 ^ 63 → n < 2 ^ 32 → IsPlain (signal_name n s)
signal_plain n s few few_inputs = by_tests (s == 0) (nat_lt n s)
  where
    by_tests : (zero_is many : Bool) → IsPlain (if zero_is then codes "z" else if many then gate_name (s - 1 - n) else input_name (s - 1))
    by_tests true many = word_plain (codes "z") (omega arith) refl
    by_tests false true = name_plain 103 (s - 1 - n) refl (omega (arith, few))
    by_tests false false = name_plain 105 (s - 1) refl (omega (arith, few))

two_plain : (a b : Bool) → IsPlain ((if a then 48 else 49) ∷ (if b then 48 else 49) ∷ [])
two_plain true true = word_plain _ (omega arith) refl
two_plain true false = word_plain _ (omega arith) refl
two_plain false true = word_plain _ (omega arith) refl
two_plain false false = word_plain _ (omega arith) refl

one_plain : (a : Bool) → IsPlain ((if a then 48 else 49) ∷ [])
one_plain true = word_plain _ (omega arith) refl
one_plain false = word_plain _ (omega arith) refl

line_of : (word : List ℕ) (words : List (List ℕ)) → IsPlain word → All IsPlain words → IsPlainLine (word ∷ words)
line_of word words first rest = record { some = omega arith; all = All-cons IsPlain word words first rest }

row_plain : (word : List ℕ) → IsPlain word → IsPlainLine (word ∷ codes "1" ∷ [])
row_plain word plain = line_of word (codes "1" ∷ []) plain (All-cons IsPlain (codes "1") [] (word_plain (codes "1") (omega arith) refl) (All-nil IsPlain))

names_plain : (letter a n : ℕ) → list_all is_plain (letter ∷ []) ≡ true → a + n < 2 ^ 32 → All IsPlain (names letter a n)
names_plain letter a zero h few = All-nil IsPlain
names_plain letter a (suc n) h few = All-cons IsPlain (name letter a) (names letter (a + 1) n) (name_plain letter a h (omega (arith, few))) (names_plain letter (a + 1) n h (omega (arith, few)))

names_line_plain : (words : List (List ℕ)) → All IsPlain words → IsPlainLine (codes ".names" ∷ words)
names_line_plain words all = line_of (codes ".names") words (word_plain (codes ".names") (omega arith) refl) all

-- the lines of a cover
record ArePlainLines (n : ℕ) (cover : Printed) : Type 0 where
  names_line : IsPlainLine (names_words n cover)
  row_line : IsPlainLine (row_words cover)

cover_plain : (n bound : ℕ) (cover : Printed) → n < 2 ^ 32 → bound ≤ 2 ^ 32 → ReadsBelow bound cover → ArePlainLines n cover
cover_plain n bound (OfGate t gate) few small reads =
    let right = signal_name n (signal_of gate.b) in
    let own = All-cons IsPlain (gate_name t) [] (name_plain 103 t refl (omega (arith, reads.0))) (All-nil IsPlain) in
    let operands = All-cons IsPlain right (gate_name t ∷ []) (signal_plain n (signal_of gate.b) (omega (arith, reads.2, small)) few) own in
    let all = All-cons IsPlain (signal_name n (signal_of gate.a)) (right ∷ gate_name t ∷ []) (signal_plain n (signal_of gate.a) (omega (arith, reads.1, small)) few) operands in
    record {
      names_line = names_line_plain (signal_name n (signal_of gate.a) ∷ right ∷ gate_name t ∷ []) all;
      row_line = row_plain (row_byte gate.a ∷ row_byte gate.b ∷ []) (two_plain (is_negated gate.a) (is_negated gate.b));
    }
cover_plain n bound (OfOutput k output) few small reads =
    let own = All-cons IsPlain (output_name k) [] (name_plain 111 k refl (omega (arith, reads.0))) (All-nil IsPlain) in
    let all = All-cons IsPlain (signal_name n (signal_of output)) (output_name k ∷ []) (signal_plain n (signal_of output) (omega (arith, reads.1, small)) few) own in
    record {
      names_line = names_line_plain (signal_name n (signal_of output) ∷ output_name k ∷ []) all;
      row_line = row_plain (row_byte output ∷ []) (one_plain (is_negated output));
    }

covers_plain : (n bound : ℕ) (covers : List Printed) → n < 2 ^ 32 → bound ≤ 2 ^ 32 → All (ReadsBelow bound) covers → All IsPlainLine (covers_lines n covers)
covers_plain n bound [] few small reads =
    let last = line_of (codes ".end") [] (word_plain (codes ".end") (omega arith) refl) (All-nil IsPlain) in
    All-cons IsPlainLine (codes ".end" ∷ []) [] last (All-nil IsPlainLine)
covers_plain n bound (cover ∷ covers) few small reads =
    let lines = cover_plain n bound cover few small (All-head (ReadsBelow bound) cover covers reads) in
    All-cons IsPlainLine (names_words n cover) (row_words cover ∷ covers_lines n covers) lines.names_line
    (All-cons IsPlainLine (row_words cover) (covers_lines n covers) lines.row_line
    (covers_plain n bound covers few small (All-tail (ReadsBelow bound) cover covers reads)))

-- the lines of the file
abbrev file_lines : Net → List (List (List ℕ))
file_lines net = declarations net ++ covers_lines net.inputs (printed_covers net)

file_plain : (net : Net) → IsWithinLimits net → All IsPlainLine (file_lines net)
file_plain net within =
    let n = net.inputs in
    let m = length net.outputs in
    let inputs = codes ".inputs" ∷ names 105 0 n in
    let outputs = codes ".outputs" ∷ names 111 0 m in
    let constant = codes ".names" ∷ codes "z" ∷ [] in
    let after = covers_lines n (printed_covers net) in
    let covers = covers_plain n (1 + n + length net.gates) (printed_covers net) (omega (arith, within.inputs)) (omega (arith, within.inputs, within.gates)) (covers_read net within) in
    let model = line_of (codes ".model") (codes "npnp" ∷ []) (word_plain (codes ".model") (omega arith) refl) (All-cons IsPlain (codes "npnp") [] (word_plain (codes "npnp") (omega arith) refl) (All-nil IsPlain)) in
    let input_line = line_of (codes ".inputs") (names 105 0 n) (word_plain (codes ".inputs") (omega arith) refl) (names_plain 105 0 n refl (omega (arith, within.inputs))) in
    let output_line = line_of (codes ".outputs") (names 111 0 m) (word_plain (codes ".outputs") (omega arith) refl) (names_plain 111 0 m refl (omega (arith, within.outputs))) in
    let constant_line = names_line_plain (codes "z" ∷ []) (All-cons IsPlain (codes "z") [] (word_plain (codes "z") (omega arith) refl) (All-nil IsPlain)) in
    All-cons IsPlainLine (codes ".model" ∷ codes "npnp" ∷ []) (inputs ∷ outputs ∷ constant ∷ after) model
    (All-cons IsPlainLine inputs (outputs ∷ constant ∷ after) input_line
    (All-cons IsPlainLine outputs (constant ∷ after) output_line
    (All-cons IsPlainLine constant after constant_line covers)))

-- a signal's name is among the names
known_below : (n g m : ℕ) → n + g + m < 2 ^ 32 → (s : ℕ) → s < 1 + n + g → position_or_len (bytes_eq (signal_name n s)) (all_names n g m) < 1 + n + g + m
known_below n g m few s h = omega (arith, signal_place n g m few s h, signal_below n s (1 + n + g) h (omega arith))

-- a word is one of the names
abbrev IsFileName : Net → Piece → Type 0
IsFileName net = IsKnownIn (all_names net.inputs (length net.gates) (length net.outputs))

-- What the lines of a printed file say, before they are a netlist.
record Says (net : Net) (lines : List (List Piece)) : Type 0 where
  input_place : ℕ
  output_place : ℕ
  ports : port_words lines ≡ named_ports Input (placed input_place (names 105 0 net.inputs)) ++ (named_ports Output (placed output_place (names 111 0 (length net.outputs))) ++ [])
  defined : map (λ (w : Piece). w.bytes) (defined_words lines) ≡ defined_names (length net.gates) (length net.outputs)
  read : All (IsFileName net) (placed output_place (names 111 0 (length net.outputs))) → HoldsBelow (IsFileName net) net.inputs (1 + net.inputs + length net.gates) → All (IsFileName net) (read_words lines)
  covers : (all : List (List ℕ)) → ArePlaced net.inputs (1 + net.inputs + length net.gates) all → covers_of all lines ≡ (printed_circuit net).defs
  sound : NoneIs is_faulty lines
  has_inputs : has_line is_inputs lines ≡ true
  has_outputs : has_line is_outputs lines ≡ true

says : (net : Net) → IsWithinLimits net → Says net (lined 0 (file_lines net))
says net within =
    let n = net.inputs in
    let m = length net.outputs in
    let bound = 1 + n + length net.gates in
    let covers = printed_covers net in
    let reads = covers_read net within in
    let gates = numbered OfGate 0 net.gates in
    let others = numbered OfOutput 0 net.outputs in
    let i = 0 + length (join_with_byte 32 (codes ".model" ∷ codes "npnp" ∷ [])) + 1 in
    let o = i + length (join_with_byte 32 (codes ".inputs" ∷ names 105 0 n)) + 1 in
    let z = o + length (join_with_byte 32 (codes ".outputs" ∷ names 111 0 m)) + 1 in
    let b = z + length (join_with_byte 32 (codes ".names" ∷ codes "z" ∷ [])) + 1 in
    let inputs = placed (i + length (codes ".inputs") + 1) (names 105 0 n) in
    let outputs = placed (o + length (codes ".outputs") + 1) (names 111 0 m) in
    let left = covers_at n covers b in
    record {
      input_place = i + length (codes ".inputs") + 1;
      output_place = o + length (codes ".outputs") + 1;
      ports = ap (λ ps. named_ports Input inputs ++ (named_ports Output outputs ++ ps)) (no_ports n covers b);
      defined = ap (λ ws. codes "z" ∷ ws) (defined_are n covers b ∙ map-append name_of gates others ∙ ap₂ (λ (xs ys : List (List ℕ)). xs ++ ys) (names_numbered OfGate 103 0 net.gates (λ t gate. refl)) (names_numbered OfOutput 111 0 net.outputs (λ k output. refl)));
      read = λ own holds. All-append (IsFileName net) outputs (read_words left) own (read_hold (IsFileName net) n bound covers holds reads b);
      covers = λ all here.
          ap (λ rs. cover_of all (placed z (codes ".names" ∷ codes "z" ∷ [])) rs ∷ covers_of all left) (none_ahead n covers b)
          ∙ ap (λ ds. Cover [] [] true ∷ ds) (covers_are all n bound covers here reads b ∙ map-append (def_of n) gates others ∙ ap₂ (λ (xs ys : List Def). xs ++ ys) (map_numbered OfGate (def_of n) (gate_cover n) 0 net.gates (λ t gate. refl)) (map_numbered OfOutput (def_of n) (output_cover n) 0 net.outputs (λ k output. refl)));
      sound = none_from is_faulty [] (lined 0 (file_lines net)) (λ k d h. absurd (omega (arith, h))) (refl, (refl, (refl, (refl, sound_covers n covers b _ refl))));
      has_inputs = refl;
      has_outputs = refl;
    }

-- lines that say this are the netlist
are_blif : (net : Net) (lines : List (List Piece)) → IsWithinLimits net → Says net lines → AreBlif lines (printed_circuit net) (names 105 0 net.inputs) (names 111 0 (length net.outputs))
are_blif net lines within said =
    let n = net.inputs in
    let m = length net.outputs in
    let g = length net.gates in
    let B : Piece → List ℕ = λ w. w.bytes in
    let few : n + g + m < 2 ^ 32 = omega (arith, within.inputs, within.outputs, within.gates) in
    let inputs = placed said.input_place (names 105 0 n) in
    let outputs = placed said.output_place (names 111 0 m) in
    let own = named_ports Output outputs ++ [] in
    let inputs_are : input_words lines ≡ inputs =
    ap (words_of_kind Input) said.ports ∙ inputs_in inputs outputs in
    let outputs_are : output_words lines ≡ outputs =
    ap (words_of_kind Output) said.ports ∙ outputs_in inputs outputs in
    let input_bytes : map B (input_words lines) ≡ names 105 0 n = ap (map B) inputs_are ∙ bytes_placed said.input_place (names 105 0 n) in
    let output_bytes : map B (output_words lines) ≡ names 111 0 m = ap (map B) outputs_are ∙ bytes_placed said.output_place (names 111 0 m) in
    let all : signal_names lines ≡ all_names n g m =
    map-append B (input_words lines) (defined_words lines) ∙ ap (λ l. l ++ map B (defined_words lines)) input_bytes ∙ ap (λ l. names 105 0 n ++ l) said.defined in
    let N = all_names n g m in
    let here : ArePlaced n (1 + n + g) N = λ s at h. signal_place n g m few s h in
    let known_words : All (IsKnownIn N) (read_words lines) = said.read (outputs_known n g m 0 m said.output_place few (omega arith)) (λ s at h. known_name n g m few (signal_name n s) (known_below n g m few s h)) in
    let declared : AreDeclared lines = record { sound = said.sound; inputs = said.has_inputs; outputs = said.has_outputs } in
    let once : NoneIs repeats_port (port_words lines) =
    subst (NoneIs repeats_port) (sym said.ports)
    (none_from repeats_port [] (named_ports Input inputs ++ own) (λ k d h. absurd (omega (arith, h)))
    (once_names repeats_port (λ w. record { kind = Input; word = w }) (λ ports. map B (words_of_kind Input ports)) (λ ports. map B (words_of_kind Output ports))
    (λ earlier w. repeats_named earlier (record { kind = Input; word = w }) ∙ ap (list_any (bytes_eq w.bytes)) (port_names-bytes Input earlier))
    (λ earlier w. ap (map B) (words_of_kind-append Input earlier (record { kind = Input; word = w } ∷ [])) ∙ map-append B (words_of_kind Input earlier) (w ∷ []))
    (λ earlier w. ap (map B) (words_of_kind-append Output earlier (record { kind = Input; word = w } ∷ []) ∙ append-nil (words_of_kind Output earlier)))
    105 0 n said.input_place [] [] own (omega (arith, few)) refl refl
    (λ earlier full none. once_names repeats_port (λ w. record { kind = Output; word = w }) (λ ports. map B (words_of_kind Output ports)) (λ ports. map B (words_of_kind Input ports))
    (λ earlier w. repeats_named earlier (record { kind = Output; word = w }) ∙ ap (list_any (bytes_eq w.bytes)) (port_names-bytes Output earlier))
    (λ earlier w. ap (map B) (words_of_kind-append Output earlier (record { kind = Output; word = w } ∷ [])) ∙ map-append B (words_of_kind Output earlier) (w ∷ []))
    (λ earlier w. ap (map B) (words_of_kind-append Input earlier (record { kind = Output; word = w } ∷ []) ∙ append-nil (words_of_kind Input earlier)))
    111 0 m said.output_place (names 105 0 (0 + n)) earlier [] (omega (arith, few)) none full (λ e a b. tt)))) in
    let distinct : AreDistinct lines = record { declared = declared; once = once } in
    let single : AreDefinedOnce lines = record { distinct = distinct; once = defined_once n g m (input_words lines) (defined_words lines) few input_bytes said.defined } in
    let known : AreKnown lines = all_known lines single (subst (λ ns. All (IsKnownIn ns) (read_words lines)) (sym all) known_words) in
    let count_in : length (input_words lines) ≡ n = omega (arith, length-map (input_words lines) B, ap length input_bytes, length-names 105 0 n) in
    let count_out : length (output_words lines) ≡ m = omega (arith, length-map (output_words lines) B, ap length output_bytes, length-names 111 0 m) in
    let defs : covers_of (signal_names lines) lines ≡ (printed_circuit net).defs = ap (λ ns. covers_of ns lines) all ∙ said.covers N here in
    let literals : map (literal_named (signal_names lines)) (output_words lines) ≡ (printed_circuit net).outputs =
    ap (λ ns. map (literal_named ns) (output_words lines)) all ∙ ap (map (literal_named N)) outputs_are ∙ outputs_numbered n g m 0 m said.output_place few (omega arith) in
    let no_gates : def_gates (Cover [] [] true) ≡ 0 = refl in
    let circuit : List Def → ℕ → List Lit → Circuit = λ ds i os. record { inputs = i; defs = ds; outputs = os } in
    record {
      names = record { known = known; inputs = omega (arith, count_in, within.inputs); outputs = omega (arith, count_out, within.outputs) };
      same = sym (ap (λ ds. circuit ds (length (input_words lines)) (map (literal_named (signal_names lines)) (output_words lines))) defs
          ∙ ap (λ i. circuit (printed_circuit net).defs i (map (literal_named (signal_names lines)) (output_words lines))) count_in
          ∙ ap (circuit (printed_circuit net).defs n) literals);
      acyclic = printed_acyclic net within.ordered;
      few_gates = omega (arith, sum_by-cons def_gates (Cover [] [] true) (map (gate_cover n) net.gates ++ map (output_cover n) net.outputs), no_gates, sum_gates n net.gates net.outputs, within.gates);
      input_names_are = sym input_bytes;
      output_names_are = sym output_bytes;
    }

pub printed_blif : (net : Net) → IsWithinLimits net → IsBlif (blif_text net) (printed_circuit net) (names 105 0 net.inputs) (names 111 0 (length net.outputs))
printed_blif net within =
    let lines : blif_lines (blif_text net) ≡ lined 0 (file_lines net) = ap (λ ws. blif_lines (words_text ws)) (words_are net) ∙ blif_lines_are (file_lines net) (file_plain net within) in
    subst (λ lines. AreBlif lines (printed_circuit net) (names 105 0 net.inputs) (names 111 0 (length net.outputs))) (sym lines)
    (are_blif net (lined 0 (file_lines net)) within (says net within))
