-- The lines of the symbols, one after another.
use Rattle.std.proofs.Common.{◌≡◌, ◌==◌, ℕ, ◌+◌, ◌⊎◌, Bool, true, false, cond, not, List, [], ◌∷◌, ◌++◌, length, take, All, Option, None, Some, inl, inr, refl, sym, ap, ◌∙◌, subst, arith, append-nil, length-append, append_assoc}
use Rattle.std.specs.List.{take_while}
use Rattle.std.proofs.lemmas.List.{drop_all, length-take-le, take_at, length_push}
use Rattle.std.proofs.lemmas.List.Elements.{All-push, All-head, All-tail}
use Rattle.std.proofs.lemmas.List.Sums.{take_while-cons}
use Rattle.std.proofs.lemmas.Bool.{cases_lt}
use Rattle.text_core.specs.Lines.{lines, text_of_lines, line_length, first_line, after_line}
use Rattle.text_core.specs.Piece.{Piece, front}
use Rattle.aiger_reader.specs.Symbols.{Port, is_comment, symbol_lines, AddsName, GiveNames, ArePortSlots, AreSymbols, IsSymbolFault}
use Rattle.aiger_reader.proofs.GiveLemmas.{give_more, give_split, give_same}
use Rattle.aiger_reader.proofs.PlaceLemmas.{length_of_lines}

-- What is known after some lines: they gave these names, which the slots have, and this is left of the text.
pub record IsUnderWay (inputs outputs : ℕ) (text left : Piece) (input_slots output_slots : List (Option (List ℕ))) : Type 0 where
  pub done : List (List ℕ)
  pub entries : List (Port × List ℕ)
  pub split : lines text.bytes ≡ done ++ lines left.bytes
  pub symbols : All (λ line. is_comment line ≡ false) done
  pub given : GiveNames inputs outputs done [] entries
  pub ports : ArePortSlots entries input_slots output_slots
  pub offset : (left.bytes ≡ []) ⊎ (left.at ≡ text.at + length (text_of_lines done))

some_of : (b : Bool) (x y : Piece) → cond b None (Some x) ≡ Some y → x ≡ y
some_of true x y h = cc
some_of false x y h = cc

line_is : (left line : Piece) → first_line left ≡ Some line → front (line_length left.bytes) left ≡ line
line_is left line h =
    some_of (length left.bytes == 0) (front (line_length left.bytes) left) line h

-- the offset after a line, where anything is left there
offset_after : (left line : Piece) → first_line left ≡ Some line → ((after_line left).bytes ≡ []) ⊎ ((after_line left).at ≡ left.at + (length line.bytes + 1))
offset_after left line first =
    let n = line_length left.bytes in
    let bytes : take n left.bytes ≡ line.bytes = ap (λ (p : Piece). p.bytes) (line_is left line first) in
    elim (cases_lt n (length left.bytes)) [
      | inl h ↦ inr (omega (arith, length-take-le n left.bytes (omega arith), ap length bytes))
      | inr h ↦ inl (drop_all (n + 1) left.bytes (omega arith))
    ]

-- one line more
pub one_more : (inputs outputs : ℕ) (text left line after : Piece) (input_slots output_slots new_inputs new_outputs : List (Option (List ℕ))) (new_entries : List (Port × List ℕ)) → (way : IsUnderWay inputs outputs text left input_slots output_slots) → first_line left ≡ Some line → after ≡ after_line left → lines left.bytes ≡ line.bytes ∷ lines after.bytes → is_comment line.bytes ≡ false → AddsName inputs outputs line.bytes way.entries new_entries → ArePortSlots new_entries new_inputs new_outputs → IsUnderWay inputs outputs text after new_inputs new_outputs
one_more inputs outputs text left line after input_slots output_slots new_inputs new_outputs new_entries way first next split symbol adds ports =
    let offset : (after.bytes ≡ []) ⊎ (after.at ≡ left.at + (length line.bytes + 1)) = let P : Piece → Type 0 = λ p. (p.bytes ≡ []) ⊎ (p.at ≡ left.at + (length line.bytes + 1)) in subst P (sym next) (offset_after left line first) in
    record {
      done = way.done ++ line.bytes ∷ [];
      entries = new_entries;
      split = way.split ∙ (ap (λ xs. way.done ++ xs) split ∙ sym (append_assoc way.done (line.bytes ∷ []) (lines after.bytes)));
      symbols = All-push (λ l. is_comment l ≡ false) way.done line.bytes way.symbols symbol;
      given = give_more inputs outputs way.done line.bytes [] way.entries new_entries way.given adds;
      ports = ports;
      offset = elim way.offset [
        | inl none ↦ absurd (let e : line.bytes ∷ lines after.bytes ≡ [] = sym split ∙ ap lines none in cc)
        | inr at ↦ elim offset [
          | inl none ↦ inl none
          | inr following ↦ inr (omega (arith, at, following, length_of_lines way.done line.bytes))
        ]
      ];
    }

abbrev is_symbol : List ℕ → Bool
is_symbol line = not (is_comment line)

symbols_front : (done rest : List (List ℕ)) → All (λ line. is_comment line ≡ false) done → take_while is_symbol (done ++ rest) ≡ done ++ take_while is_symbol rest
symbols_front [] rest symbols = refl
symbols_front (line ∷ done) rest symbols =
    let here = All-head (λ l. is_comment l ≡ false) line done symbols in
    take_while-cons is_symbol line (done ++ rest)
    ∙ (ap (λ b. cond (not b) (line ∷ take_while is_symbol (done ++ rest)) []) here
    ∙ ap (λ xs. line ∷ xs) (symbols_front done rest (All-tail (λ l. is_comment l ≡ false) line done symbols)))

-- no line is left, or the comment begins
symbols_of : (inputs outputs : ℕ) (text left : Piece) (input_slots output_slots : List (Option (List ℕ))) → (way : IsUnderWay inputs outputs text left input_slots output_slots) → take_while is_symbol (lines left.bytes) ≡ [] → AreSymbols inputs outputs text.bytes way.entries
symbols_of inputs outputs text left input_slots output_slots way none =
    let all : symbol_lines text.bytes ≡ way.done = ap (take_while is_symbol) way.split ∙ (symbols_front way.done (lines left.bytes) way.symbols ∙ (ap (λ xs. way.done ++ xs) none ∙ append-nil way.done)) in
    let P : List (List ℕ) → Type 0 = λ xs. GiveNames inputs outputs xs [] way.entries in
    subst P (sym all) way.given

pub at_end : (inputs outputs : ℕ) (text left : Piece) (input_slots output_slots : List (Option (List ℕ))) → (way : IsUnderWay inputs outputs text left input_slots output_slots) → lines left.bytes ≡ [] → AreSymbols inputs outputs text.bytes way.entries
at_end inputs outputs text left input_slots output_slots way none =
    symbols_of inputs outputs text left input_slots output_slots way (ap (take_while is_symbol) none)

pub at_comment : (inputs outputs : ℕ) (text left : Piece) (line : List ℕ) (more : List (List ℕ)) (input_slots output_slots : List (Option (List ℕ))) → (way : IsUnderWay inputs outputs text left input_slots output_slots) → lines left.bytes ≡ line ∷ more → is_comment line ≡ true → AreSymbols inputs outputs text.bytes way.entries
at_comment inputs outputs text left line more input_slots output_slots way split comment =
    symbols_of inputs outputs text left input_slots output_slots way (ap (take_while is_symbol) split ∙ (take_while-cons is_symbol line more ∙ ap (λ b. cond (not b) (line ∷ take_while is_symbol more) []) comment))

-- a line that adds no name
pub at_fault : (inputs outputs at : ℕ) (text left line : Piece) (more : List (List ℕ)) (input_slots output_slots : List (Option (List ℕ))) → (way : IsUnderWay inputs outputs text left input_slots output_slots) → first_line left ≡ Some line → lines left.bytes ≡ line.bytes ∷ more → is_comment line.bytes ≡ false → at ≡ line.at → ((after : List (Port × List ℕ)) → AddsName inputs outputs line.bytes way.entries after → ⊥) → IsSymbolFault inputs outputs text.at text.bytes at
at_fault inputs outputs at text left line more input_slots output_slots way first split symbol place bad =
    let done = way.done in
    let last = take_while is_symbol more in
    let symbols : symbol_lines text.bytes ≡ done ++ line.bytes ∷ last = ap (take_while is_symbol) (way.split ∙ ap (λ xs. done ++ xs) split) ∙ (symbols_front done (line.bytes ∷ more) way.symbols ∙ ap (λ xs. done ++ xs) (take_while-cons is_symbol line.bytes more ∙ ap (λ b. cond (not b) (line.bytes ∷ last) []) symbol)) in
    let before : take (length done) (symbol_lines text.bytes) ≡ done = ap (take (length done)) symbols ∙ take_at done (line.bytes ∷ last) (length done) refl in
    let with_it : take (length done + 1) (symbol_lines text.bytes) ≡ done ++ line.bytes ∷ [] = ap (take (length done + 1)) (symbols ∙ sym (append_assoc done (line.bytes ∷ []) last)) ∙ take_at (done ++ line.bytes ∷ []) last (length done + 1) (length_push done line.bytes) in
    let lines_before : take (length done) (lines text.bytes) ≡ done = ap (take (length done)) way.split ∙ take_at done (lines left.bytes) (length done) refl in
    let P : List (List ℕ) → Type 0 = λ xs. GiveNames inputs outputs xs [] way.entries in
    record {
      place = length done;
      entries = way.entries;
      there = omega (arith, ap length symbols, length-append done (line.bytes ∷ last));
      good = subst P (sym before) way.given;
      bad = λ all given. let Q : List (List ℕ) → Type 0 = λ xs. GiveNames inputs outputs xs [] all in
          let parts = give_split inputs outputs done line.bytes [] all (subst Q with_it given) in
          let R : List (Port × List ℕ) → Type 0 = λ xs. AddsName inputs outputs line.bytes xs all in
          bad all (subst R (give_same inputs outputs done [] parts.0 way.entries parts.1 way.given) parts.2);
      offset = elim way.offset [
        | inl none ↦ absurd (let e : line.bytes ∷ more ≡ [] = sym split ∙ ap lines none in cc)
        | inr here ↦ place ∙ (sym (ap (λ (p : Piece). p.at) (line_is left line first)) ∙ (here ∙ ap (λ xs. text.at + length (text_of_lines xs)) (sym lines_before)))
      ];
    }
