-- A symbol's line can have each name that a file gives a port, but for a carriage return at its end.
use Rattle.std.proofs.Common.{◌≡◌, ◌≢◌, ℕ, ◌+◌, ◌-◌, ◌<◌, ◌≤◌, ◌^◌, ◌==◌, Bool, true, false, cond, List, [], ◌∷◌, ◌++◌, length, get_or, set, take, drop, map, All, inl, inr, if◌then◌else◌, refl, sym, ap, subst, ◌∙◌, arith}
use Rattle.std.specs.Fmt.{decimal}
use Rattle.std.specs.List.{before_first, onto_first, position_or_len, slice_split}
use Rattle.std.proofs.lemmas.Bool.{eq-eqb, false≢true}
use Rattle.std.proofs.lemmas.List.{get_or-set_same, get_or_push, length-set, length_push}
use Rattle.std.proofs.lemmas.List.Elements.{All-nil, All-cons, All-head, All-tail, All-append, All-set, All-take, All-drop, All-map, All-filter, filter_passes}
use Rattle.circuits.specs.declared.port.PortKind.{PortKind}
use Rattle.circuits.specs.declared.port.PortKind.TheVariants.{Input, Output}
use Rattle.circuits.specs.Circuits.{Circuit}
use Rattle.circuits.proofs.Lists.{All-front, All-back}
use Rattle.text_core.specs.Bytes.{is_blank, is_line_feed}
use Rattle.text_core.specs.Lines.{IsLine, lines}
use Rattle.text_core.specs.Piece.{Piece}
use Rattle.text_core.specs.Words.{is_not_empty}
use Rattle.text_core.proofs.LineLemmas.{lines-each}
use Rattle.aiger_reader.specs.Aiger.{IsAiger}
use Rattle.circuits.specs.Ports.{letter_of}
use Rattle.net_core.specs.Limits.{most_ports}
use Rattle.aiger_reader.specs.Symbols.{ArePortNames, Entry, GiveNames, GivesName, IsNameOf, NamesPort, Port, port_at, symbol_lines}
use Rattle.aiger_reader.proofs.LimitLemmas.{accepted_limits}
use Rattle.aiger_reader.proofs.OneSymbols.{named_or_not}
use Rattle.blif_reader.specs.Blif.{IsBlif, blif_lines}
use Rattle.blif_reader.specs.Directives.{directive_of}
use Rattle.blif_reader.specs.JoinedLines.{content, ends_with_backslash, goes_on, has_words, is_comment_sign, joined, line_words, lines_at, onto_next, placed, without_backslash}
use Rattle.blif_reader.specs.Names.{input_words, named_ports, output_words, port_words, ports_on, words_of_kind}
use Rattle.blif_reader.proofs.NumberLemmas.{words_of_kind-append}
use Rattle.blif_reader.specs.declared.directive.Directive.{Directive}
use Rattle.blif_reader.specs.declared.directive.Directive.TheVariants.{Inputs, Outputs}
use Rattle.print_laws.specs.Printable.{IsSymbolName, symbol_name}
use Rattle.print_laws.proofs.NumberLines.{IsLine-decimal}
use Rattle.print_laws.proofs.SymbolLines.{letter_on_line}

-- a name that stands on a line
abbrev pub IsNameOnLine : List ℕ → Type 0
IsNameOnLine name = (name ≢ []) × IsLine name

abbrev IsNoFeed : ℕ → Type 0
IsNoFeed byte = is_line_feed byte ≡ false

-- a symbol's line can have such a name as it is printed

last_byte : (name : List ℕ) (front : List ℕ) (byte : ℕ) → name ≡ front ++ byte ∷ [] → get_or name (length name - 1) 0 ≡ byte
last_byte name front byte is =
    let at : length name - 1 ≡ length front = omega (arith, ap length is, length_push front byte) in
    ap (λ k. get_or name k 0) at ∙ (ap (λ n. get_or n (length front) 0) is ∙ get_or_push front byte 0 (length front) refl)

some_byte : (name : List ℕ) → name ≢ [] → 0 < length name
some_byte [] some = absurd (some refl)
some_byte (byte ∷ name) some = omega arith

no_byte : (name : List ℕ) → 0 < length name → name ≢ []
no_byte name some none = omega (arith, some, ap length none)

returned : (name : List ℕ) → IsNameOnLine name → IsSymbolName (set name (length name - 1) 95)
returned name good =
    let some = some_byte name good.0 in
    let printed = set name (length name - 1) 95 in
    let long : length printed ≡ length name = length-set name (length name - 1) 95 in
    record {
      filled = no_byte printed (omega (arith, some, long));
      on_line = All-set IsNoFeed name (length name - 1) 95 refl good.1;
      no_return = λ front is.
          let one : get_or printed (length printed - 1) 0 ≡ 13 = last_byte printed front 13 is in
          let other : get_or printed (length name - 1) 0 ≡ 95 = get_or-set_same name (length name - 1) 95 0 (omega (arith, some)) in
          let place : length printed - 1 ≡ length name - 1 = omega (arith, long) in
          omega (arith, sym (ap (λ k. get_or printed k 0) place ∙ other) ∙ one);
    }

plain : (name : List ℕ) → (get_or name (length name - 1) 0 == 13) ≡ false → IsNameOnLine name → IsSymbolName name
plain name other good = record {
  filled = good.0;
  on_line = good.1;
  no_return = λ front is. false≢true (sym other ∙ eq-eqb (get_or name (length name - 1) 0) 13 (last_byte name front 13 is));
}

by_test : (name : List ℕ) (t : Bool) → (get_or name (length name - 1) 0 == 13) ≡ t → IsNameOnLine name → IsSymbolName (if t then set name (length name - 1) 95 else name)
by_test name true is good = returned name good
by_test name false is good = plain name is good

pub symbol_name_good : (name : List ℕ) → IsNameOnLine name → IsSymbolName (symbol_name name)
symbol_name_good name good = by_test name (get_or name (length name - 1) 0 == 13) refl good

pub symbol_names_good : (names : List (List ℕ)) → All IsNameOnLine names → All IsSymbolName (map symbol_name names)
symbol_names_good names good = All-map IsSymbolName symbol_name names (λ k d h. symbol_name_good (get_or names k d) (good k d h))

-- the names of an AIGER file

abbrev IsGoodEntry : Entry → Type 0
IsGoodEntry entry = IsNameOnLine entry.1

port_good : (line : List ℕ) (port : Port) (name : List ℕ) → IsLine line → NamesPort line port name → IsNameOnLine name
port_good line port name on_line is =
    let rest : IsLine is.rest = All-tail IsNoFeed (letter_of port.kind) is.rest (subst IsLine is.form on_line) in
    let after : IsLine (is.place.blank ∷ is.tail) = All-back IsNoFeed is.place.digits (is.place.blank ∷ is.tail) (subst IsLine is.place.form rest) in
    let tail : IsLine is.tail = All-tail IsNoFeed is.place.blank is.tail after in (
      is.named,
      elim is.name_is.cases [
        | inl with_return ↦ All-front IsNoFeed name (13 ∷ []) (subst IsLine with_return tail)
        | inr (same, none) ↦ subst IsLine same tail
      ],
    )

gives_good : (line : List ℕ) (new : List Entry) → IsLine line → GivesName line new → All IsGoodEntry new
gives_good line [] on_line is = All-nil IsGoodEntry
gives_good line (entry ∷ []) on_line is =
    All-cons IsGoodEntry entry [] (port_good line entry.0 entry.1 on_line is) (All-nil IsGoodEntry)
gives_good line (entry ∷ other ∷ entries) on_line is = absurd is

give_good : (inputs outputs : ℕ) (all : List (List ℕ)) (before entries : List Entry) → All IsLine all → All IsGoodEntry before → GiveNames inputs outputs all before entries → All IsGoodEntry entries
give_good inputs outputs [] before entries on_lines good is = subst (All IsGoodEntry) (sym is) good
give_good inputs outputs (line ∷ all) before entries on_lines good is =
    give_good inputs outputs all (before ++ is.0) entries (All-tail IsLine line all on_lines)
    (All-append IsGoodEntry before is.0 good (gives_good line is.0 (All-head IsLine line all on_lines) is.1)) is.4

name_good : (entries : List Entry) (port : Port) (name : List ℕ) → All IsGoodEntry entries → port.position < 2 ^ 64 → IsNameOf entries port name → IsNameOnLine name
name_good entries port name all few is =
    elim (named_or_not entries port) [
      | inl (k, there, named) ↦ let d : Entry = (port, []) in subst IsNameOnLine (sym (is.given k there d (named d))) (all k d there)
      | inr none ↦ subst IsNameOnLine (sym (is.unnamed none)) (
        λ e. cc,
        All-cons IsNoFeed (letter_of port.kind) (decimal port.position) (letter_on_line port.kind) (IsLine-decimal port.position few),
      )
    ]

port_names_good : (entries : List Entry) (kind : PortKind) (count : ℕ) (names : List (List ℕ)) → count ≤ most_ports → All IsGoodEntry entries → ArePortNames entries kind count names → All IsNameOnLine names
port_names_good entries kind count names few all are = λ k d h.
    name_good entries (port_at kind k) (get_or names k d) all (omega (arith, few, h, are.count_is)) (are.each k d h)

pub aiger_names : (bytes : List ℕ) (circuit : Circuit) (i o : List (List ℕ)) → IsAiger bytes circuit i o → All IsNameOnLine i × All IsNameOnLine o
aiger_names bytes circuit i o is =
    let limits = accepted_limits is.h is.netlist.begins.accepted in
    let names = is.names in
    let on_lines : All IsLine (symbol_lines is.rest) = All-take IsLine _ (lines is.rest) (lines-each is.rest) in
    let all = give_good is.h.inputs is.h.outputs (symbol_lines is.rest) [] names.entries on_lines (All-nil IsGoodEntry) names.symbols in (
      port_names_good names.entries Input is.h.inputs i limits.inputs all names.input_names_are,
      port_names_good names.entries Output is.h.outputs o limits.outputs all names.output_names_are,
    )

-- the names of a BLIF file: words of its lines

abbrev IsNoBlank : ℕ → Type 0
IsNoBlank byte = is_blank byte ≡ false

abbrev pub IsGoodWord : Piece → Type 0
IsGoodWord word = IsNameOnLine word.bytes × All IsNoBlank word.bytes

-- a carriage return is a blank, so a symbol's line can have such a word as it is
pub good_symbol : (word : Piece) → IsGoodWord word → IsSymbolName word.bytes
good_symbol word good = record {
  filled = good.0.0;
  on_line = good.0.1;
  no_return = λ front is. false≢true (sym (All-head IsNoBlank 13 [] (All-back IsNoBlank front (13 ∷ []) (subst (All IsNoBlank) is good.1))));
}

abbrev IsLinePiece : Piece → Type 0
IsLinePiece line = IsLine line.bytes

placed_all : (P : List ℕ → Type 0) (at : ℕ) (parts : List (List ℕ)) → All P parts → All (λ (piece : Piece). P piece.bytes) (placed at parts)
placed_all P at [] all = All-nil (λ (piece : Piece). P piece.bytes)
placed_all P at (part ∷ parts) all =
    All-cons (λ (piece : Piece). P piece.bytes) (record { bytes = part; at = at }) (placed (at + length part + 1) parts) (All-head P part parts all)
    (placed_all P (at + length part + 1) parts (All-tail P part parts all))

split_by : (P : ℕ → Type 0) (t : Bool) (byte : ℕ) (parts : List (List ℕ)) → (t ≡ false → P byte) → All (All P) parts → All (All P) (cond t ([] ∷ parts) (onto_first byte parts))
split_by P true byte parts here rest = All-cons (All P) [] parts (All-nil P) rest
split_by P false byte [] here rest =
    All-cons (All P) (byte ∷ []) [] (All-cons P byte [] (here refl) (All-nil P)) (All-nil (All P))
split_by P false byte (part ∷ parts) here rest =
    All-cons (All P) (byte ∷ part) parts (All-cons P byte part (here refl) (All-head (All P) part parts rest)) (All-tail (All P) part parts rest)

split_lines : (line : List ℕ) → IsLine line → All IsLine (slice_split is_blank line)
split_lines [] on_line = All-cons IsLine [] [] (All-nil IsNoFeed) (All-nil IsLine)
split_lines (byte ∷ bytes) on_line =
    split_by IsNoFeed (is_blank byte) byte (slice_split is_blank bytes) (λ other. All-head IsNoFeed byte bytes on_line)
    (split_lines bytes (All-tail IsNoFeed byte bytes on_line))

split_words : (line : List ℕ) → All (All IsNoBlank) (slice_split is_blank line)
split_words [] = All-cons (All IsNoBlank) [] [] (All-nil IsNoBlank) (All-nil (All IsNoBlank))
split_words (byte ∷ bytes) = split_by IsNoBlank (is_blank byte) byte (slice_split is_blank bytes) (λ other. other) (split_words bytes)

without : (t : Bool) (bytes : List ℕ) → IsLine bytes → IsLine (if t then take (length bytes - 1) bytes else bytes)
without true bytes on_line = All-take IsNoFeed (length bytes - 1) bytes on_line
without false bytes on_line = on_line

content_line : (line : List ℕ) → IsLine line → IsLine (without_backslash (content line))
content_line line on_line =
    without (ends_with_backslash (content line)) (content line)
    (All-take IsNoFeed _ (before_first is_comment_sign line) (All-take IsNoFeed (position_or_len is_comment_sign line) line on_line))

words_good : (line : Piece) → IsLinePiece line → All IsGoodWord (line_words line)
words_good line on_line = λ k d h.
    let is_word : Piece → Bool = λ word. is_not_empty word.bytes in
    let parts = placed line.at (slice_split is_blank (without_backslash (content line.bytes))) in
    let split = slice_split is_blank (without_backslash (content line.bytes)) in
    let all : All IsLinePiece parts = placed_all IsLine line.at split (split_lines (without_backslash (content line.bytes)) (content_line line.bytes on_line)) in
    let no_blanks : All (λ (word : Piece). All IsNoBlank word.bytes) parts = placed_all (All IsNoBlank) line.at split (split_words (without_backslash (content line.bytes))) in (
      (
        λ none. false≢true (sym (ap is_not_empty none) ∙ filter_passes is_word parts k d h),
        All-filter is_word IsLinePiece parts all k d h,
      ),
      All-filter is_word (λ (word : Piece). All IsNoBlank word.bytes) parts no_blanks k d h,
    )

joined_by : (t : Bool) (words : List Piece) (more : List (List Piece)) → All IsGoodWord words → All (All IsGoodWord) more → All (All IsGoodWord) (if t then onto_next words more else words ∷ more)
joined_by true words [] here rest = All-cons (All IsGoodWord) words [] here (All-nil (All IsGoodWord))
joined_by true words (next ∷ more) here rest =
    All-cons (All IsGoodWord) (words ++ next) more (All-append IsGoodWord words next here (All-head (All IsGoodWord) next more rest)) (All-tail (All IsGoodWord) next more rest)
joined_by false words more here rest = All-cons (All IsGoodWord) words more here rest

joined_good : (all : List Piece) → All IsLinePiece all → All (All IsGoodWord) (joined all)
joined_good [] on_lines = All-nil (All IsGoodWord)
joined_good (line ∷ all) on_lines =
    joined_by (goes_on line.bytes) (line_words line) (joined all) (words_good line (All-head IsLinePiece line all on_lines)) (joined_good all (All-tail IsLinePiece line all on_lines))

pub blif_words_good : (bytes : List ℕ) → All (All IsGoodWord) (blif_lines bytes)
blif_words_good bytes =
    let text : Piece = record { bytes = bytes; at = 0 } in
    All-filter has_words (All IsGoodWord) (joined (lines_at text)) (joined_good (lines_at text) (placed_all IsLine 0 (lines bytes) (lines-each bytes)))

kind_good : (kind given : PortKind) (words : List Piece) → All IsGoodWord words → All IsGoodWord (words_of_kind kind (named_ports given words))
kind_good kind given [] good = All-nil IsGoodWord
kind_good Input Input (word ∷ words) good =
    All-cons IsGoodWord word (words_of_kind Input (named_ports Input words)) (All-head IsGoodWord word words good) (kind_good Input Input words (All-tail IsGoodWord word words good))
kind_good Output Output (word ∷ words) good =
    All-cons IsGoodWord word (words_of_kind Output (named_ports Output words)) (All-head IsGoodWord word words good) (kind_good Output Output words (All-tail IsGoodWord word words good))
kind_good Input Output (word ∷ words) good = kind_good Input Output words (All-tail IsGoodWord word words good)
kind_good Output Input (word ∷ words) good = kind_good Output Input words (All-tail IsGoodWord word words good)

on_good : (kind : PortKind) (directive : Directive) (line : List Piece) → All IsGoodWord line → All IsGoodWord (words_of_kind kind (ports_on directive line))
on_good kind Inputs line good = kind_good kind Input (drop 1 line) (All-drop IsGoodWord 1 line good)
on_good kind Outputs line good = kind_good kind Output (drop 1 line) (All-drop IsGoodWord 1 line good)
on_good kind other line good = All-nil IsGoodWord

ports_good : (kind : PortKind) (all : List (List Piece)) → All (All IsGoodWord) all → All IsGoodWord (words_of_kind kind (port_words all))
ports_good kind [] good = All-nil IsGoodWord
ports_good kind (line ∷ all) good =
    subst (All IsGoodWord) (sym (words_of_kind-append kind (ports_on (directive_of line) line) (port_words all)))
    (All-append IsGoodWord (words_of_kind kind (ports_on (directive_of line) line)) (words_of_kind kind (port_words all)) (on_good kind (directive_of line) line (All-head (All IsGoodWord) line all good))
    (ports_good kind all (All-tail (All IsGoodWord) line all good)))

bytes_good : (words : List Piece) (names : List (List ℕ)) → names ≡ map (λ word. word.bytes) words → All IsGoodWord words → All IsNameOnLine names
bytes_good words names are good =
    subst (All IsNameOnLine) (sym are) (All-map IsNameOnLine (λ word. word.bytes) words (λ k d h. (good k d h).0))

pub blif_names : (bytes : List ℕ) (circuit : Circuit) (i o : List (List ℕ)) → IsBlif bytes circuit i o → All IsNameOnLine i × All IsNameOnLine o
blif_names bytes circuit i o is =
    let good = blif_words_good bytes in (
      bytes_good (input_words (blif_lines bytes)) i is.input_names_are (ports_good Input (blif_lines bytes) good),
      bytes_good (output_words (blif_lines bytes)) o is.output_names_are (ports_good Output (blif_lines bytes) good),
    )
