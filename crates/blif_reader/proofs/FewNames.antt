-- For the bound on signals that `read` needs: a file has no more names than bytes, since each name is a word, and a
-- word has a byte of its own.
use Rattle.std.proofs.Common.{◌≡◌, ℕ, ◌+◌, ◌-◌, ◌≤◌, Bool, true, false, cond, List, [], ◌∷◌, length, take, drop, refl, ap, ◌∙◌, arith, length-take, length-drop}
use Rattle.std.specs.Prelude.{reverse}
use Rattle.std.specs.List.{filter, onto_first, prefix_len, position_or_len, before_first, slice_split}
use Rattle.std.proofs.lemmas.List.{length-append, length-map}
use Rattle.text_core.specs.Bytes.{is_blank, is_line_feed}
use Rattle.text_core.specs.Piece.{Piece}
use Rattle.circuits.specs.declared.port.PortKind.{PortKind}
use Rattle.circuits.specs.declared.port.PortKind.TheVariants.{Input, Output}
use Rattle.text_core.specs.Lines.{lines}
use Rattle.text_core.specs.Words.{is_not_empty}
use Rattle.blif_reader.specs.declared.directive.Directive.{Directive}
use Rattle.blif_reader.specs.declared.directive.Directive.TheVariants.{Inputs, Outputs, Names}
use Rattle.blif_reader.specs.declared.survey.PortWord.{PortWord}
use Rattle.blif_reader.specs.JoinedLines.{placed, lines_at, words_at, is_comment_sign, content, ends_with_backslash, without_backslash, goes_on, line_words, onto_next, joined, has_words}
use Rattle.blif_reader.specs.Directives.{directive_of}
use Rattle.blif_reader.specs.Names.{is_same_kind, named_ports, ports_on, port_words, words_of_kind, input_words, defined_on, defined_words}
use Rattle.blif_reader.specs.Covers.{signal_names}
use Rattle.blif_reader.specs.Blif.{blif_lines}
use Rattle.blif_reader.proofs.NumberLemmas.{words_of_kind-append}
use Rattle.blif_reader.proofs.ClosedLemmas.{length-names}

-- how many elements lists have together
abbrev total : {X : Type 0} → List (List X) → ℕ
total [] = 0
total (part ∷ parts) = length part + total parts

-- the parts of a text that is cut at some of its bytes
total-onto_first : (byte : ℕ) (parts : List (List ℕ)) → total (onto_first byte parts) ≡ 1 + total parts
total-onto_first byte [] = omega arith
total-onto_first byte (part ∷ parts) = omega arith

cut_by_test : (t : Bool) (byte : ℕ) (parts : List (List ℕ)) → total (cond t ([] ∷ parts) (onto_first byte parts)) ≤ 1 + total parts
cut_by_test true byte parts = omega arith
cut_by_test false byte parts = omega (arith, total-onto_first byte parts)

total-lines : (bytes : List ℕ) → total (lines bytes) ≤ length bytes
total-lines [] = omega arith
total-lines (byte ∷ bytes) = omega (arith, cut_by_test (is_line_feed byte) byte (lines bytes), total-lines bytes)

total-slice_split : (test : ℕ → Bool) (bytes : List ℕ) → total (slice_split test bytes) ≤ length bytes
total-slice_split test [] = omega arith
total-slice_split test (byte ∷ bytes) =
    omega (arith, cut_by_test (test byte) byte (slice_split test bytes), total-slice_split test bytes)

-- a part that is kept as a word has a byte
one_more_at_most : {X : Type 0} (t : Bool) (x : X) (xs : List X) → length (cond t (x ∷ xs) xs) ≤ 1 + length xs
one_more_at_most true x xs = omega arith
one_more_at_most false x xs = omega arith

word_by_part : (part : List ℕ) (word : Piece) (words : List Piece) → length (cond (is_not_empty part) (word ∷ words) words) ≤ length part + length words
word_by_part [] word words = omega arith
word_by_part (byte ∷ bytes) word words = omega (arith, one_more_at_most (is_not_empty (byte ∷ bytes)) word words)

words_of_parts : (at : ℕ) (parts : List (List ℕ)) → length (filter (λ word. is_not_empty word.bytes) (placed at parts)) ≤ total parts
words_of_parts at [] = omega arith
words_of_parts at (part ∷ parts) =
    let after = at + length part + 1 in
    let words = filter (λ (word : Piece). is_not_empty word.bytes) (placed after parts) in
    omega (arith, word_by_part part (record { bytes = part; at = at }) words, words_of_parts after parts)

few_words_at : (line : Piece) → length (words_at line) ≤ length line.bytes
few_words_at line =
    omega (arith, words_of_parts line.at (slice_split is_blank line.bytes), total-slice_split is_blank line.bytes)

-- a line has no more bytes without its comment, the blanks at its end and its backslash
length-take_at_most : (count : ℕ) (bytes : List ℕ) → length (take count bytes) ≤ length bytes
length-take_at_most count bytes = omega (arith, length-take count bytes)

length-content : (line : List ℕ) → length (content line) ≤ length line
length-content line =
    let kept = before_first is_comment_sign line in
    omega (arith, length-take_at_most (length kept - prefix_len is_blank (reverse kept)) kept, length-take_at_most (position_or_len is_comment_sign line) line)

backslash_by_test : (t : Bool) (bytes : List ℕ) → length (cond t (take (length bytes - 1) bytes) bytes) ≤ length bytes
backslash_by_test true bytes = length-take_at_most (length bytes - 1) bytes
backslash_by_test false bytes = omega arith

few_line_words : (line : Piece) → length (line_words line) ≤ length line.bytes
few_line_words line =
    let cut = content line.bytes in
    omega (arith, few_words_at (record { bytes = without_backslash cut; at = line.at }), backslash_by_test (ends_with_backslash cut) cut, length-content line.bytes)

-- joining lines keeps their words
total-onto_next : (words : List Piece) (next : List (List Piece)) → total (onto_next words next) ≡ length words + total next
total-onto_next words [] = refl
total-onto_next words (next ∷ more) = omega (arith, length-append words next)

joined_by_test : (t : Bool) (words : List Piece) (next : List (List Piece)) → total (cond t (onto_next words next) (words ∷ next)) ≡ length words + total next
joined_by_test true words next = total-onto_next words next
joined_by_test false words next = refl

total-joined : (at : ℕ) (parts : List (List ℕ)) → total (joined (placed at parts)) ≤ total parts
total-joined at [] = omega arith
total-joined at (part ∷ parts) =
    let line : Piece = record { bytes = part; at = at } in
    let after = at + length part + 1 in
    omega (arith, joined_by_test (goes_on part) (line_words line) (joined (placed after parts)), few_line_words line, total-joined after parts)

total-words : (bytes : List ℕ) → total (joined (lines_at (record { bytes = bytes; at = 0 }))) ≤ length bytes
total-words bytes = omega (arith, total-joined 0 (lines bytes), total-lines bytes)

-- the words of a line that name inputs or are defined
few_of_kind : (kind : PortKind) (ports : List PortWord) → length (words_of_kind kind ports) ≤ length ports
few_of_kind kind [] = omega arith
few_of_kind kind (port ∷ ports) =
    let word = λ (p : PortWord). p.word in
    let test = λ (p : PortWord). is_same_kind p.kind kind in
    omega (arith, length-map (filter test (port ∷ ports)) word, length-map (filter test ports) word, one_more_at_most (test port) port (filter test ports), few_of_kind kind ports)

few_named_ports : (kind : PortKind) (line : List Piece) → length (named_ports kind (drop 1 line)) ≤ length line
few_named_ports kind line =
    let port : Piece → PortWord = λ word. record { kind = kind; word = word } in
    omega (arith, length-map (drop 1 line) port, length-drop 1 line)

-- how many names a line gives to inputs and signals
abbrev names_on : Directive → List Piece → ℕ
names_on directive line = length (words_of_kind Input (ports_on directive line)) + length (defined_on directive line)

few_names_on : (directive : Directive) (word : Piece) (words : List Piece) → names_on directive (word ∷ words) ≤ length (word ∷ words)
few_names_on Inputs word words =
    let ports = named_ports Input (drop 1 (word ∷ words)) in
    omega (arith, few_of_kind Input ports, few_named_ports Input (word ∷ words))
few_names_on Outputs word words =
    let ports = named_ports Output (drop 1 (word ∷ words)) in
    omega (arith, few_of_kind Input ports, few_named_ports Output (word ∷ words))
few_names_on Names word words = omega arith
few_names_on other word words = omega arith

-- the names of all lines that have words
abbrev names_in : List (List Piece) → ℕ
names_in lines = length (input_words lines) + length (defined_words lines)

names_in-cons : (line : List Piece) (lines : List (List Piece)) → names_in (line ∷ lines) ≡ names_on (directive_of line) line + names_in lines
names_in-cons line lines =
    let ports = ports_on (directive_of line) line in
    let defined = defined_on (directive_of line) line in
    let inputs = ap length (words_of_kind-append Input ports (port_words lines)) ∙ length-append (words_of_kind Input ports) (input_words lines) in
    omega (arith, inputs, length-append defined (defined_words lines))

names_by_line : (line : List Piece) (lines : List (List Piece)) → names_in (cond (has_words line) (line ∷ lines) lines) ≤ length line + names_in lines
names_by_line [] lines = omega arith
names_by_line (word ∷ words) lines = by_test (has_words (word ∷ words))
  where
    by_test : (t : Bool) → names_in (cond t ((word ∷ words) ∷ lines) lines) ≤ length (word ∷ words) + names_in lines
    by_test true =
        omega (arith, names_in-cons (word ∷ words) lines, few_names_on (directive_of (word ∷ words)) word words)
    by_test false = omega arith

few_names_in : (lines : List (List Piece)) → names_in (filter has_words lines) ≤ total lines
few_names_in [] = omega arith
few_names_in (line ∷ lines) = omega (arith, names_by_line line (filter has_words lines), few_names_in lines)

pub few_names : (bytes : List ℕ) → length (signal_names (blif_lines bytes)) ≤ length bytes
few_names bytes =
    let all = joined (lines_at (record { bytes = bytes; at = 0 })) in
    omega (arith, length-names (blif_lines bytes), few_names_in all, total-words bytes)
