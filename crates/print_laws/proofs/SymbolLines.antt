-- The symbols that are printed name each port once, by its name.
use Rattle.std.proofs.Common.{◌≡◌, ◌≢◌, ℕ, zero, suc, ◌+◌, ◌^◌, ◌<◌, ◌≤◌, Bool, true, false, not, List, [], ◌∷◌, ◌++◌, length, get_or, take, All, refl, sym, ap, subst, ◌∙◌, inr, arith, append_assoc, length-append}
use Rattle.std.specs.List.{take_while}
use Rattle.std.proofs.lemmas.List.Sums.{prefix_len_is}
use Rattle.std.specs.Fmt.{decimal}
use Rattle.std.proofs.lemmas.List.{append-nil, take_all, get_or-append-add, get_or_append_left, get_or_default}
use Rattle.std.proofs.lemmas.List.Elements.{All-nil, All-cons, All-head, All-tail, All-append}
use Rattle.text_core.specs.Bytes.{is_line_feed}
use Rattle.text_core.specs.Lines.{IsLine}
use Rattle.text_core.proofs.NumberLemmas.{number-decimal}
use Rattle.circuits.specs.declared.port.PortKind.{PortKind}
use Rattle.circuits.specs.declared.port.PortKind.TheVariants.{Input, Output}
use Rattle.circuits.specs.Ports.{letter_of}
use Rattle.aiger_reader.specs.Symbols.{Port, Entry, port_at, count_of, is_comment, IsThere, NamesPort, GiveNames, ArePortNames}
use Rattle.net_print.specs.Rows.{symbol_line, symbol_lines}
use Rattle.print_laws.specs.Printable.{IsSymbolName}
use Rattle.print_laws.proofs.NumberLines.{IsLine-decimal}

-- the names of the ports of a kind from a position on
abbrev pub entries_from : PortKind → ℕ → List (List ℕ) → List Entry
entries_from kind position [] = []
entries_from kind position (name ∷ names) = (port_at kind position, name) ∷ entries_from kind (position + 1) names

pub length-entries_from : (kind : PortKind) (position : ℕ) (names : List (List ℕ)) → length (entries_from kind position names) ≡ length names
length-entries_from kind position [] = refl
length-entries_from kind position (name ∷ names) = ap suc (length-entries_from kind (position + 1) names)

one_more : (position k : ℕ) → position + 1 + k ≡ position + suc k
one_more position k = omega arith

pub entry_at : (kind : PortKind) (position : ℕ) (names : List (List ℕ)) (k : ℕ) (d : Entry) → k < length names → (get_or (entries_from kind position names) k d).0 ≡ port_at kind (position + k)
entry_at kind position [] k d h = absurd (omega (arith, h))
entry_at kind position (name ∷ names) zero d h = let e : position + 0 ≡ position = omega arith in rw e refl
entry_at kind position (name ∷ names) (suc k) d h =
    entry_at kind (position + 1) names k d (omega (arith, h))
    ∙ ap (port_at kind) (one_more position k)

-- a letter of a port is no line feed, and begins no comment
pub letter_on_line : (kind : PortKind) → is_line_feed (letter_of kind) ≡ false
letter_on_line Input = refl
letter_on_line Output = refl

no_comment : (kind : PortKind) (position : ℕ) (name : List ℕ) → not (is_comment (symbol_line (letter_of kind) position name)) ≡ true
no_comment Input position name = refl
no_comment Output position name = refl

symbol_on_line : (kind : PortKind) (position : ℕ) (name : List ℕ) → position < 2 ^ 64 → IsSymbolName name → IsLine (symbol_line (letter_of kind) position name)
symbol_on_line kind position name few good =
    let P : ℕ → Type 0 = λ byte. is_line_feed byte ≡ false in
    let place = All-append P (decimal position) (32 ∷ name) (IsLine-decimal position few) (All-cons P 32 name refl good.on_line) in
    All-cons P (letter_of kind) (decimal position ++ 32 ∷ name) (letter_on_line kind) place

abbrev pub IsSymbol : List ℕ → Type 0
IsSymbol line = IsLine line × (not (is_comment line) ≡ true)

pub symbols_good : (kind : PortKind) (position : ℕ) (names : List (List ℕ)) → position + length names ≤ 2 ^ 64 → All IsSymbolName names → All IsSymbol (symbol_lines (letter_of kind) position names)
symbols_good kind position [] few all = All-nil IsSymbol
symbols_good kind position (name ∷ names) few all =
    let few_after : position + suc (length names) ≤ 2 ^ 64 = few in
    let one = symbol_on_line kind position name (omega (arith, few_after)) (All-head IsSymbolName name names all) in
    All-cons IsSymbol (symbol_line (letter_of kind) position name) (symbol_lines (letter_of kind) (position + 1) names) (one, no_comment kind position name)
    (symbols_good kind (position + 1) names (omega (arith, few_after)) (All-tail IsSymbolName name names all))

pub all_taken : (lines : List (List ℕ)) → All IsSymbol lines → take_while (λ line. not (is_comment line)) lines ≡ lines
all_taken lines all =
    let p : List ℕ → Bool = λ line. not (is_comment line) in
    let count = prefix_len_is p lines (length lines) [] (omega arith) (λ k h. (all k [] h).1) (λ h. absurd (omega (arith, h))) in
    ap (λ n. take n lines) count ∙ take_all (length lines) lines (omega arith)

-- a line of the symbols names its port
names_port : (kind : PortKind) (position : ℕ) (name : List ℕ) → position < 2 ^ 64 → IsSymbolName name → NamesPort (symbol_line (letter_of kind) position name) (port_at kind position) name
names_port kind position name few good = record {
  rest = decimal position ++ 32 ∷ name;
  tail = name;
  form = refl;
  place = record {
    digits = decimal position;
    blank = 32;
    form = refl;
    place = number-decimal position few;
    blank_is = refl;
  };
  name_is = record { cases = inr (refl, good.no_return) };
  named = good.filled;
}

-- the names so far are of other kinds, or of earlier positions
abbrev pub IsBefore : PortKind → ℕ → Entry → Type 0
IsBefore kind position entry = entry.0.kind ≡ kind → entry.0.position < position

abbrev IsFree : Port → Entry → Type 0
IsFree port old = old.0 ≢ port

free_before : (kind : PortKind) (position : ℕ) (before : List Entry) → All (IsBefore kind position) before → All (IsFree (port_at kind position)) before
free_before kind position before all k d h same =
    omega (arith, all k d h (ap (λ (port : Port). port.kind) same), ap (λ (port : Port). port.position) same)

later : (kind : PortKind) (position : ℕ) (name : List ℕ) (before : List Entry) → All (IsBefore kind position) before → All (IsBefore kind (position + 1)) (before ++ (port_at kind position, name) ∷ [])
later kind position name before all =
    let P : Entry → Type 0 = IsBefore kind (position + 1) in
    let entry : Entry = (port_at kind position, name) in
    let old : All P before = λ k d h is. omega (arith, all k d h is) in
    All-append P before (entry ∷ []) old (All-cons P entry [] (λ _. omega arith) (All-nil P))

pub given : (inputs outputs : ℕ) (kind : PortKind) (position : ℕ) (names more : List (List ℕ)) (before entries : List Entry) → position + length names ≤ count_of kind inputs outputs → count_of kind inputs outputs < 2 ^ 64 → All IsSymbolName names → All (IsBefore kind position) before → GiveNames inputs outputs more (before ++ entries_from kind position names) entries → GiveNames inputs outputs (symbol_lines (letter_of kind) position names ++ more) before entries
given inputs outputs kind position [] more before entries few wide all free next =
    subst (λ (now : List Entry). GiveNames inputs outputs more now entries) (append-nil before) next
given inputs outputs kind position (name ∷ names) more before entries few wide all free next =
    let few_after : position + suc (length names) ≤ count_of kind inputs outputs = few in
    let entry : Entry = (port_at kind position, name) in
    let There : Entry → Type 0 = λ entry. IsThere inputs outputs entry.0 in
    let Free : Entry → Type 0 = λ entry. All (IsFree entry.0) before in
    let here : position < count_of kind inputs outputs = omega (arith, few_after) in
    let rest = subst (λ (now : List Entry). GiveNames inputs outputs more now entries) (sym (append_assoc before (entry ∷ []) (entries_from kind (position + 1) names))) next in (
      entry ∷ [],
      names_port kind position name (omega (arith, here, wide)) (All-head IsSymbolName name names all),
      All-cons There entry [] here (All-nil There),
      All-cons Free entry [] (free_before kind position before free) (All-nil Free),
      given inputs outputs kind (position + 1) names more (before ++ entry ∷ []) entries (omega (arith, few_after)) wide (All-tail IsSymbolName name names all) (later kind position name before free) rest,
    )

-- an entry gives its port the name that stands at its position
abbrev IsNameAt : PortKind → List (List ℕ) → Entry → Type 0
IsNameAt kind names entry = (position : ℕ) → position < length names → entry.0 ≡ port_at kind position → get_or names position [] ≡ entry.1

own_names : (kind : PortKind) (names rest : List (List ℕ)) (start : ℕ) → ((j : ℕ) → j < length rest → get_or names (start + j) [] ≡ get_or rest j []) → All (IsNameAt kind names) (entries_from kind start rest)
own_names kind names [] start same = All-nil (IsNameAt kind names)
own_names kind names (name ∷ rest) start same =
    let first : get_or names (start + 0) [] ≡ name = same 0 (omega arith) in
    let here : IsNameAt kind names (port_at kind start, name) = λ position there is.
    let e : position ≡ start + 0 = omega (arith, ap (λ (port : Port). port.position) is) in rw e first in
    All-cons (IsNameAt kind names) (port_at kind start, name) (entries_from kind (start + 1) rest) here
    (own_names kind names rest (start + 1) (λ j h. let e : start + 1 + j ≡ start + suc j = omega arith in rw e (same (suc j) (omega (arith, h)))))

other_names : (kind other : PortKind) (names rest : List (List ℕ)) (start : ℕ) → other ≢ kind → All (IsNameAt kind names) (entries_from other start rest)
other_names kind other names [] start differ = All-nil (IsNameAt kind names)
other_names kind other names (name ∷ rest) start differ =
    All-cons (IsNameAt kind names) (port_at other start, name) (entries_from other (start + 1) rest) (λ position there is. absurd (differ (ap (λ (port : Port). port.kind) is)))
    (other_names kind other names rest (start + 1) differ)

no_more : (n : ℕ) → 0 + n ≡ n
no_more n = omega arith

from_zero : (names : List (List ℕ)) (j : ℕ) → get_or names (0 + j) [] ≡ get_or names j []
from_zero names j = ap (λ n. get_or names n []) (no_more j)

-- all ports' names
abbrev pub all_entries : List (List ℕ) → List (List ℕ) → List Entry
all_entries ins outs = entries_from Input 0 ins ++ entries_from Output 0 outs

-- the ports of a kind have their names, where all entries beside theirs are of other kinds
named_among : (kind : PortKind) (names : List (List ℕ)) (front back : List Entry) → All (IsNameAt kind names) front → All (IsNameAt kind names) back → ArePortNames (front ++ (entries_from kind 0 names ++ back)) kind (length names) names
named_among kind names front back before after =
    let P : Entry → Type 0 = IsNameAt kind names in
    let own = entries_from kind 0 names in
    let wide = length-entries_from kind 0 names in
    let all = All-append P front (own ++ back) before (All-append P own back (own_names kind names names 0 (λ j h. from_zero names j)) after) in
    record {
      count_is = refl;
      each = λ position d h.
          let e : Entry = (port_at kind position, []) in
          let port : (get_or (front ++ (own ++ back)) (length front + position) e).0 ≡ port_at kind position =
          ap (λ (entry : Entry). entry.0) (get_or-append-add front (own ++ back) position e ∙ get_or_append_left own back e position (omega (arith, h, wide)))
          ∙ entry_at kind 0 names position e h
          ∙ ap (port_at kind) (no_more position) in
          record {
            given = λ k few e is. get_or_default names position d [] h ∙ all k e few position h is;
            unnamed = λ none. absurd (none (length front + position) e (omega (arith, h, length-append front (own ++ back), length-append own back, wide)) port);
          };
    }

pub inputs_named : (ins outs : List (List ℕ)) → ArePortNames (all_entries ins outs) Input (length ins) ins
inputs_named ins outs =
    named_among Input ins [] (entries_from Output 0 outs) (All-nil (IsNameAt Input ins)) (other_names Input Output ins outs 0 (λ clash. cc clash))

pub outputs_named : (ins outs : List (List ℕ)) → ArePortNames (all_entries ins outs) Output (length outs) outs
outputs_named ins outs =
    let front = entries_from Input 0 ins in
    subst (λ (own : List Entry). ArePortNames (front ++ own) Output (length outs) outs) (append-nil (entries_from Output 0 outs))
    (named_among Output outs front [] (other_names Output Input outs ins 0 (λ clash. cc clash)) (All-nil (IsNameAt Output outs)))
