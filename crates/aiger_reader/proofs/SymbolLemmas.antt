-- A line of the symbols gives one name at most, and to one port.
use Rattle.std.proofs.Common.{◌≡◌, ℕ, false, List, [], ◌∷◌, drop, filter, inl, inr, refl, sym, ap, ap₂, ◌∙◌, subst, arith}
use Rattle.std.specs.List.{onto_first, slice_split}
use Rattle.std.proofs.lemmas.List.{same_from_push}
use Rattle.std.proofs.lemmas.List.Splits.{slice_split-cons_no}
use Rattle.text_core.specs.Bytes.{is_blank}
use Rattle.circuits.specs.declared.port.PortKind.{PortKind}
use Rattle.circuits.specs.declared.port.PortKind.TheVariants.{Input, Output}
use Rattle.text_core.specs.Words.{is_not_empty, words}
use Rattle.circuits.specs.Ports.{letter_of}
use Rattle.aiger_reader.specs.Symbols.{IsWithoutReturn, Port, NamesPort, BeginsPosition, GivesName, port_at}
use Rattle.aiger_reader.proofs.PositionLemmas.{position_same}

letter_same : (a b : PortKind) → letter_of a ≡ letter_of b → a ≡ b
letter_same Input Input h = refl
letter_same Input Output h = absurd (omega arith)
letter_same Output Input h = absurd (omega arith)
letter_same Output Output h = refl

letter_not_blank : (a : PortKind) → is_blank (letter_of a) ≡ false
letter_not_blank Input = refl
letter_not_blank Output = refl

pub return_same : (text a b : List ℕ) → IsWithoutReturn text a → IsWithoutReturn text b → a ≡ b
return_same text a b one other =
    elim one.cases [
      | inl e ↦ elim other.cases [
        | inl f ↦ (same_from_push a b 13 13 (sym e ∙ f)).0
        | inr f ↦ absurd (f.1 a e)
      ]
      | inr e ↦ elim other.cases [
        | inl f ↦ absurd (e.1 b f)
        | inr f ↦ sym e.0 ∙ f.0
      ]
    ]

-- what stands after the letter
pub after_letter : (line rest name : List ℕ) (port : Port) → (named : NamesPort line port name) → rest ≡ drop 1 line → BeginsPosition rest port.position named.tail
after_letter line rest name port named same =
    let P : List ℕ → Type 0 = λ xs. BeginsPosition xs port.position named.tail in
    let e : rest ≡ named.rest = same ∙ ap (drop 1) named.form in
    subst P (sym e) named.place

pub named_same : (line a b : List ℕ) (p q : Port) → NamesPort line p a → NamesPort line q b → (p ≡ q) × (a ≡ b)
named_same line a b p q one other =
    let letters : letter_of p.kind ≡ letter_of q.kind = cc (one.form, other.form) in
    let kind = letter_same p.kind q.kind letters in
    let after = position_same (drop 1 line) one.tail other.tail p.position q.position (after_letter line (drop 1 line) a p one refl) (after_letter line (drop 1 line) b q other refl) in
    let P : List ℕ → Type 0 = λ tail. IsWithoutReturn tail b in
    (ap₂ port_at kind after.0, return_same one.tail a b one.name_is (subst P (sym after.1) other.name_is))

-- a line with no name, where a carriage return alone stands after the blank, or nothing
pub unnamed : (line rest tail name none : List ℕ) (position : ℕ) (port : Port) → rest ≡ drop 1 line → BeginsPosition rest position tail → IsWithoutReturn tail none → none ≡ [] → NamesPort line port name → ⊥
unnamed line rest tail name none position port same begins without empty named =
    let after = position_same rest tail named.tail position port.position begins (after_letter line rest name port named same) in
    let P : List ℕ → Type 0 = λ xs. IsWithoutReturn xs name in
    named.named (sym (return_same tail none name without (subst P (sym after.1) named.name_is)) ∙ empty)

filter_filled : (x : ℕ) (part : List ℕ) (parts : List (List ℕ)) → filter is_not_empty ((x ∷ part) ∷ parts) ≡ (x ∷ part) ∷ filter is_not_empty parts
filter_filled x part parts = grind arith

filled_front : (x : ℕ) (parts : List (List ℕ)) → filter is_not_empty (onto_first x parts) ≡ [] → ⊥
filled_front x [] h = let e = filter_filled x [] [] in cc
filled_front x (part ∷ parts) h = let e = filter_filled x part parts in cc

-- a line that names a port has a word
pub named_has_word : (line name : List ℕ) (port : Port) → NamesPort line port name → words line ≡ [] → ⊥
named_has_word line name port named none =
    let rest = named.rest in
    let x = letter_of port.kind in
    filled_front x (slice_split is_blank rest) (sym (ap (filter is_not_empty) (slice_split-cons_no is_blank x rest (letter_not_blank port.kind))) ∙ (sym (ap words named.form) ∙ none))

pub gives_same : (line : List ℕ) (xs ys : List (Port × List ℕ)) → GivesName line xs → GivesName line ys → xs ≡ ys
gives_same line [] [] one other = refl
gives_same line [] (e ∷ []) one other = absurd (named_has_word line e.1 e.0 other one)
gives_same line [] (e ∷ f ∷ ys) one other = absurd other
gives_same line (e ∷ []) [] one other = absurd (named_has_word line e.1 e.0 one other)
gives_same line (e ∷ []) (f ∷ []) one other =
    let same = named_same line e.1 f.1 e.0 f.0 one other in
    let pairs : e ≡ f = ap₂ (λ a b. (a, b)) same.0 same.1 in
    ap (λ x. x ∷ []) pairs
gives_same line (e ∷ []) (f ∷ g ∷ ys) one other = absurd other
gives_same line (e ∷ f ∷ xs) ys one other = absurd one
