-- Each text of symbols gives all ports their names, or has a first bad line.
use Rattle.std.proofs.Common.{◌≡◌, ◌≢◌, ℕ, zero, suc, ◌+◌, ◌-◌, ◌<◌, ◌⊎◌, List, [], ◌∷◌, ◌++◌, length, take, drop, get_or, All, Option, None, Some, inl, inr, refl, sym, ap, ◌∙◌, subst, arith, append-nil}
use Rattle.std.proofs.lemmas.List.{take_more, take_all, length_push, same_from_push}
use Rattle.std.proofs.lemmas.List.Elements.{All-nil, All-head, All-tail, All-push}
use Rattle.circuits.specs.Literals.{EachAt}
use Rattle.circuits.specs.declared.port.PortKind.{PortKind}
use Rattle.circuits.specs.declared.port.PortKind.TheVariants.{Input, Output}
use Rattle.text_core.specs.Lines.{lines, text_of_lines}
use Rattle.text_core.specs.Numbers.{number}
use Rattle.text_core.specs.Words.{words, word_length}
use Rattle.circuits.specs.Ports.{letter_of}
use Rattle.aiger_reader.specs.Symbols.{Port, Entry, IsWithoutReturn, BeginsPosition, NamesPort, GivesName, GiveNames, AddsName, IsThere, AreSymbols, IsSymbolFault, IsNameOf, ArePortNames, AreNames, port_at, name_or, symbol_lines}
use Rattle.aiger_reader.proofs.PositionLemmas.{position_parts, position_here}
use Rattle.aiger_reader.proofs.SymbolLemmas.{after_letter, unnamed, gives_same}
use Rattle.aiger_reader.proofs.GiveLemmas.{give_more, give_split, give_same}
use Rattle.aiger_reader.proofs.OneSymbols.{port_or_not}
use Rattle.aiger_reader.proofs.DecidableLemmas.{Decidable, decidable_both, decidable_by, decidable_not, decidable_same, decidable_lt, decidable_all, decidable_list, steps_or}

-- a text without a carriage return at its end
last_or_none : (text : List ℕ) → (text ≡ []) ⊎ ((front : List ℕ) × (last : ℕ) × (text ≡ front ++ last ∷ []))
last_or_none [] = inl refl
last_or_none (x ∷ xs) =
    elim (last_or_none xs) [
      | inl none ↦ inr ([], x, ap (λ ys. x ∷ ys) none)
      | inr some ↦ inr (x ∷ some.0, some.1, ap (λ ys. x ∷ ys) some.2)
    ]

without_return : (text : List ℕ) → (name : List ℕ) × IsWithoutReturn text name
without_return text =
    elim (last_or_none text) [
      | inl none ↦ (text, record { cases = inr (refl, λ front e. omega (arith, ap length e, ap length none, length_push front 13)) })
      | inr some ↦ elim (decidable_same some.1 13) [
        | inl e ↦ (some.0, record { cases = inl (some.2 ∙ ap (λ b. some.0 ++ b ∷ []) e) })
        | inr apart ↦ (text, record { cases = inr (refl, λ front e. apart (same_from_push some.0 front some.1 13 (sym some.2 ∙ e)).1) })
      ]
    ]

some_or_none : (o : Option ℕ) → ((n : ℕ) × (o ≡ Some n)) ⊎ (o ≡ None)
some_or_none None = inr refl
some_or_none (Some n) = inl (n, refl)

abbrev HasPosition : List ℕ → Type 0
HasPosition bytes = (position : ℕ) × (tail : List ℕ) × BeginsPosition bytes position tail

decidable_position : (bytes : List ℕ) → Decidable (HasPosition bytes)
decidable_position bytes =
    let n = word_length bytes in
    elim (decidable_lt n (length bytes)) [
      | inr none ↦ inr (λ has. none (position_parts bytes has.1 has.0 has.2).there)
      | inl there ↦ elim (some_or_none (number (take n bytes))) [
        | inl some ↦ let tail = take (length bytes - (n + 1)) (drop (n + 1) bytes) in inl (some.0, tail, position_here bytes tail some.0 there some.1 refl)
        | inr none ↦ inr (λ has. let same : number (take n bytes) ≡ Some has.0 = ap number (position_parts bytes has.1 has.0 has.2).front ∙ has.2.place in cc (same, none))
      ]
    ]

kind_or_none : (byte : ℕ) → ((kind : PortKind) × (byte ≡ letter_of kind)) ⊎ ((byte ≡ 105 → ⊥) × (byte ≡ 111 → ⊥))
kind_or_none byte =
    elim (decidable_same byte 105) [
      | inl e ↦ inl (Input, e)
      | inr not_input ↦ elim (decidable_same byte 111) [ inl e ↦ inl (Output, e) | inr not_output ↦ inr (not_input, not_output) ]
    ]

no_kind : (byte : ℕ) (kind : PortKind) → (byte ≡ 105 → ⊥) → (byte ≡ 111 → ⊥) → byte ≡ letter_of kind → ⊥
no_kind byte Input not_input not_output e = not_input e
no_kind byte Output not_input not_output e = not_output e

abbrev HasNamed : List ℕ → Type 0
HasNamed line = (port : Port) × (name : List ℕ) × NamesPort line port name

decidable_tail : (byte : ℕ) (rest tail : List ℕ) (kind : PortKind) (position : ℕ) → byte ≡ letter_of kind → BeginsPosition rest position tail → Decidable (HasNamed (byte ∷ rest))
decidable_tail byte rest tail kind position letter begins =
    let name = without_return tail in
    elim (decidable_list name.0 []) [
      | inl empty ↦ inr (λ has. unnamed (byte ∷ rest) rest tail has.1 name.0 position has.0 refl begins name.1 empty has.2)
      | inr some ↦ inl (port_at kind position, name.0, record { rest = rest; tail = tail; form = ap (λ b. b ∷ rest) letter; place = begins; name_is = name.1; named = some })
    ]

decidable_named : (line : List ℕ) → Decidable (HasNamed line)
decidable_named [] = inr (λ has. let form = has.2.form in cc)
decidable_named (byte ∷ rest) =
    elim (kind_or_none byte) [
      | inr none ↦ inr (λ has. let form = has.2.form in no_kind byte has.0.kind none.0 none.1 (cc))
      | inl kind ↦ elim (decidable_position rest) [
        | inr none ↦ inr (λ has. none (has.0.position, has.2.tail, after_letter (byte ∷ rest) rest has.1 has.0 has.2 refl))
        | inl position ↦ decidable_tail byte rest position.1 kind.0 position.0 kind.1 position.2
      ]
    ]

decidable_no_words : (parts : List (List ℕ)) → Decidable (parts ≡ [])
decidable_no_words [] = inl refl
decidable_no_words (part ∷ parts) = inr (λ e. cc)

gives_none : (line : List ℕ) (new : List Entry) → (words line ≡ [] → ⊥) → (HasNamed line → ⊥) → GivesName line new → ⊥
gives_none line [] some none gives = some gives
gives_none line (entry ∷ []) some none gives = none (entry.0, entry.1, gives)
gives_none line (entry ∷ other ∷ new) some none gives = absurd gives

decidable_gives : (line : List ℕ) → Decidable ((new : List Entry) × GivesName line new)
decidable_gives line =
    elim (decidable_no_words (words line)) [
      | inl none ↦ inl ([], none)
      | inr some ↦ elim (decidable_named line) [
        | inl named ↦ inl ((named.0, named.1) ∷ [], named.2)
        | inr none ↦ inr (λ has. gives_none line has.0 some none has.1)
      ]
    ]

-- the ports are there and have no names yet
abbrev AreFree : ℕ → ℕ → List Entry → List Entry → Type 0
AreFree inputs outputs before new =
    All (λ entry. IsThere inputs outputs entry.0) new × All (λ entry. All (λ old. old.0 ≢ entry.0) before) new

decidable_free : (inputs outputs : ℕ) (before new : List Entry) → Decidable (AreFree inputs outputs before new)
decidable_free inputs outputs before new =
    let P : Entry → Type 0 = λ entry. IsThere inputs outputs entry.0 in
    let Q : Entry → Type 0 = λ entry. All (λ old. old.0 ≢ entry.0) before in
    let there : (entry : Entry) → Decidable (P entry) = λ entry. elim (entry.0.kind) as (λ kind. Decidable (IsThere inputs outputs (port_at kind entry.0.position))) [
      | Input ↦ decidable_lt entry.0.position inputs
      | Output ↦ decidable_lt entry.0.position outputs
    ] in
    let fresh : (entry : Entry) → Decidable (Q entry) = λ entry. decidable_all (λ (old : Entry). old.0 ≢ entry.0) (λ old. decidable_not (port_or_not old.0 entry.0)) before in
    decidable_both (decidable_all P there new) (decidable_all Q fresh new)

decidable_adds : (inputs outputs : ℕ) (line : List ℕ) (before : List Entry) → Decidable ((after : List Entry) × AddsName inputs outputs line before after)
decidable_adds inputs outputs line before =
    elim (decidable_gives line) [
      | inr none ↦ inr (λ adds. none (adds.1.0, adds.1.1))
      | inl new ↦ decidable_by (λ both. (before ++ new.0, (new.0, new.1, both.0, both.1, refl))) (λ adds. subst (AreFree inputs outputs before) (gives_same line adds.1.0 new.0 adds.1.1 new.1) (adds.1.2, adds.1.3)) (decidable_free inputs outputs before new.0)
    ]

-- the names that n lines give
abbrev Front : ℕ → ℕ → List ℕ → ℕ → Type 0
Front inputs outputs text n = (entries : List Entry) × GiveNames inputs outputs (take n (symbol_lines text)) [] entries

abbrev pub HasSymbolFault : ℕ → ℕ → ℕ → List ℕ → Type 0
HasSymbolFault inputs outputs base text = (at : ℕ) × IsSymbolFault inputs outputs base text at

line_or_fault : (inputs outputs base : ℕ) (text : List ℕ) (n : ℕ) → n < length (symbol_lines text) → Front inputs outputs text n → Front inputs outputs text (n + 1) ⊎ HasSymbolFault inputs outputs base text
line_or_fault inputs outputs base text n below front =
    let all = symbol_lines text in
    let line = get_or all n [] in
    let more = take_more all n [] below in
    elim (decidable_adds inputs outputs line front.0) [
      | inl adds ↦ inl (adds.0, subst (λ xs. GiveNames inputs outputs xs [] adds.0) (sym more) (give_more inputs outputs (take n all) line [] front.0 adds.0 front.1 adds.1))
      | inr none ↦ inr (
        base + length (text_of_lines (take n (lines text))),
        record {
          place = n;
          entries = front.0;
          there = below;
          good = front.1;
          bad = λ after given. let parts = give_split inputs outputs (take n all) line [] after (subst (λ xs. GiveNames inputs outputs xs [] after) more given) in
              none (after, subst (λ xs. AddsName inputs outputs line xs after) (give_same inputs outputs (take n all) [] parts.0 front.0 parts.1 front.1) parts.2);
          offset = refl;
        },
      )
    ]

-- no port has two names
abbrev IsOnce : List Entry → Type 0
IsOnce [] = Unit {0}
IsOnce (entry ∷ entries) = All (λ other. other.0 ≢ entry.0) entries × IsOnce entries

once_push : (entries : List Entry) (new : Entry) → IsOnce entries → All (λ old. old.0 ≢ new.0) entries → IsOnce (entries ++ new ∷ [])
once_push [] new once fresh = (All-nil (λ (other : Entry). other.0 ≢ new.0), tt)
once_push (entry ∷ entries) new once fresh =
    let P : Entry → Type 0 = λ old. old.0 ≢ new.0 in
    let Q : Entry → Type 0 = λ other. other.0 ≢ entry.0 in
    (All-push Q entries new once.0 (λ e. All-head P entry entries fresh (sym e)), once_push entries new once.1 (All-tail P entry entries fresh))

once_more : (line : List ℕ) (before new : List Entry) → GivesName line new → All (λ entry. All (λ old. old.0 ≢ entry.0) before) new → IsOnce before → IsOnce (before ++ new)
once_more line before [] gives fresh once = subst IsOnce (sym (append-nil before)) once
once_more line before (entry ∷ []) gives fresh once =
    once_push before entry once (All-head (λ (e : Entry). All (λ (old : Entry). old.0 ≢ e.0) before) entry [] fresh)
once_more line before (entry ∷ other ∷ new) gives fresh once = absurd gives

once_given : (inputs outputs : ℕ) (done : List (List ℕ)) (before after : List Entry) → GiveNames inputs outputs done before after → IsOnce before → IsOnce after
once_given inputs outputs [] before after given once = subst IsOnce (sym given) once
once_given inputs outputs (line ∷ done) before after given once =
    once_given inputs outputs done (before ++ given.0) after given.4 (once_more line before given.0 given.1 given.3 once)

-- the name of each port
first_only : (entry : Entry) (entries : List Entry) (port : Port) → entry.0 ≡ port → All (λ other. other.0 ≢ entry.0) entries → (k : ℕ) → k < length (entry ∷ entries) → (d : Entry) → (get_or (entry ∷ entries) k d).0 ≡ port → entry.1 ≡ (get_or (entry ∷ entries) k d).1
first_only entry entries port same apart zero below d is = refl
first_only entry entries port same apart (suc k) below d is =
    absurd (apart k d (omega (arith, below)) (is ∙ sym same))

given_after : (entry : Entry) (entries : List Entry) (port : Port) (name : List ℕ) → entry.0 ≢ port → IsNameOf entries port name → (k : ℕ) → k < length (entry ∷ entries) → (d : Entry) → (get_or (entry ∷ entries) k d).0 ≡ port → name ≡ (get_or (entry ∷ entries) k d).1
given_after entry entries port name apart is_name zero below d is = absurd (apart is)
given_after entry entries port name apart is_name (suc k) below d is = is_name.given k (omega (arith, below)) d is

some_name : (entries : List Entry) (port : Port) → IsOnce entries → (name : List ℕ) × IsNameOf entries port name
some_name [] port once = (name_or port None, record { given = λ k below d is. absurd (omega (arith, below)); unnamed = λ all. refl })
some_name (entry ∷ entries) port once =
    let P : Entry → Type 0 = λ other. other.0 ≢ port in
    elim (port_or_not entry.0 port) [
      | inl same ↦ (entry.1, record { given = first_only entry entries port same once.0; unnamed = λ all. absurd (All-head P entry entries all same) })
      | inr apart ↦ let following = some_name entries port once.1 in
          (following.0, record { given = given_after entry entries port following.0 apart following.1; unnamed = λ all. following.1.unnamed (All-tail P entry entries all) })
    ]

each_cons : (P : ℕ → List ℕ → Type 0) (x : List ℕ) (xs : List (List ℕ)) → P 0 x → EachAt (λ k. P (suc k)) xs → EachAt P (x ∷ xs)
each_cons P x xs here following zero d below = here
each_cons P x xs here following (suc k) d below = following k d (omega (arith, below))

some_each : (P : ℕ → List ℕ → Type 0) → ((k : ℕ) → (x : List ℕ) × P k x) → (n : ℕ) → (xs : List (List ℕ)) × (length xs ≡ n) × EachAt P xs
some_each P each zero = ([], refl, λ k d below. absurd (omega (arith, below)))
some_each P each (suc n) =
    let following = some_each (λ k. P (suc k)) (λ k. each (suc k)) n in
    let first = each 0 in
    (first.0 ∷ following.0, omega (arith, following.1), each_cons P first.0 following.0 first.1 following.2)

some_names : (entries : List Entry) (kind : PortKind) (count : ℕ) → IsOnce entries → (names : List (List ℕ)) × ArePortNames entries kind count names
some_names entries kind count once =
    let names = some_each (λ position name. IsNameOf entries (port_at kind position) name) (λ position. some_name entries (port_at kind position) once) count in
    (names.0, record { count_is = names.1; each = names.2 })

pub names_or_bad : (inputs outputs base : ℕ) (text : List ℕ) → ((i : List (List ℕ)) × (o : List (List ℕ)) × AreNames inputs outputs text i o) ⊎ HasSymbolFault inputs outputs base text
names_or_bad inputs outputs base text =
    let all = symbol_lines text in
    elim (steps_or (Front inputs outputs text) (HasSymbolFault inputs outputs base text) (length all) ([], refl) (line_or_fault inputs outputs base text)) [
      | inr bad ↦ inr bad
      | inl front ↦
          let symbols : AreSymbols inputs outputs text front.0 = subst (λ xs. GiveNames inputs outputs xs [] front.0) (take_all (length all) all (omega arith)) front.1 in
          let once = once_given inputs outputs all [] front.0 symbols tt in
          let i = some_names front.0 Input inputs once in
          let o = some_names front.0 Output outputs once in
          inl (i.0, o.0, record { entries = front.0; symbols = symbols; input_names_are = i.1; output_names_are = o.1 })
    ]
