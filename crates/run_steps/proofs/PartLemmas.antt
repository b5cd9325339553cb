-- A first part of an account that ends in the line `end` is the whole account.
use Rattle.std.proofs.Common.{◌≡◌, ℕ, ◌+◌, ◌⊎◌, inl, inr, Bool, true, false, cond, eqb, List, [], ◌∷◌, ◌++◌, codes, fold, length, take, drop, Option, None, Some, refl, sym, ap, subst, ◌∙◌, arith, append-nil, length-append, take-append-drop}
use Rattle.std.specs.List.{AllZip, join_with_byte}
use Rattle.std.proofs.lemmas.List.{nil_from_length}
use Rattle.account_file.specs.declared.record.Record.{Record}
use Rattle.account_file.specs.declared.record.Record.TheVariants as record_of
use Rattle.account_file.specs.declared.place.Place.{Place}
use Rattle.account_file.specs.declared.place.Place.TheVariants.{Start, Headed, FactLog, Logs, Ended}
use Rattle.account_file.specs.Accounts.{IsAccountBy, IsAccountOf}
use Rattle.account_file.specs.Binary.{is_binary}
use Rattle.account_file.specs.TextAccounts.{HasForm, IsTextAccount}
use Rattle.account_file.specs.Lines.{after_lines, whole_lines}
use Rattle.account_file.specs.Order.{next_place, place_after_one}
use Rattle.account_file.proofs.LawLemmas.{same_record}
use Rattle.account_file.proofs.LineLemmas.{lines_stay, text_of}
use Rattle.account_file.proofs.OrderLemmas.{none_stays}

abbrev pub end_line : List ℕ
end_line = codes "end"

-- after the end nothing stands

none_after_end : (entry : Record) → next_place Ended entry ≡ None
none_after_end entry = refl

nothing_after : (records : List Record) → fold place_after_one (Some Ended) records ≡ Some Ended → records ≡ []
nothing_after [] e = refl
nothing_after (entry ∷ records) e =
    let none : None ≡ Some Ended = sym (ap (λ p. fold place_after_one p records) (none_after_end entry) ∙ none_stays records) ∙ e in
    absurd (let no : ⊥ = cc in no)

end_place : (place : Place) → (next_place place record_of.End ≡ Some Ended) ⊎ (next_place place record_of.End ≡ None)
end_place (Logs logs) = by (eqb logs 0)
  where
    by : (b : Bool) → (cond b (Some Ended) None ≡ Some Ended) ⊎ (cond b (Some Ended) None ≡ None)
    by true = inl refl
    by false = inr refl
end_place Start = inr refl
end_place Headed = inr refl
end_place FactLog = inr refl
end_place Ended = inr refl

no_lines : (rest : List (List ℕ)) (records : List Record) → records ≡ [] → AllZip HasForm rest records → rest ≡ []
no_lines rest records none forms = by rest (subst (AllZip HasForm rest) none forms)
  where
    by : (r : List (List ℕ)) → AllZip HasForm r [] → r ≡ []
    by [] z = refl
    by (line ∷ r) z = absurd z

not_ended : (records : List Record) (p : Option Place) → p ≡ None → fold place_after_one p records ≡ Some Ended → ⊥
not_ended records p is e =
    let none : None ≡ Some Ended = sym (ap (λ q. fold place_after_one q records) is ∙ none_stays records) ∙ e in
    let no : ⊥ = cc in no

-- so where records end, no line comes after a line `end`
last_line : (lines rest : List (List ℕ)) (records : List Record) (place : Place) → AllZip HasForm ((lines ++ end_line ∷ []) ++ rest) records → fold place_after_one (Some place) records ≡ Some Ended → rest ≡ []
last_line [] rest [] place forms e = absurd forms
last_line [] rest (entry ∷ records) place forms e =
    let is : entry ≡ record_of.End = same_record end_line entry record_of.End forms.0 (tt, refl) in
    let there = ap (next_place place) is in
    elim (end_place place) [
      | inl ended ↦ no_lines rest records (nothing_after records (sym (ap (λ p. fold place_after_one p records) (there ∙ ended)) ∙ e)) forms.1
      | inr none ↦ absurd (not_ended records (next_place place entry) (there ∙ none) e)
    ]
last_line (line ∷ lines) rest [] place forms e = absurd forms
last_line (line ∷ lines) rest (entry ∷ records) place forms e = by (next_place place entry) refl (λ next more. last_line lines rest records next forms.1 more)
  where
    by : (p : Option Place) → next_place place entry ≡ p → ((next : Place) → fold place_after_one (Some next) records ≡ Some Ended → rest ≡ []) → rest ≡ []
    by None is later = absurd (not_ended records (next_place place entry) is e)
    by (Some next) is later = later next (sym (ap (λ p. fold place_after_one p records) is) ∙ e)

-- a text by its whole lines and what stands after them

length_joined : (lines : List (List ℕ)) (last : List ℕ) → length (join_with_byte 10 (lines ++ last ∷ [])) ≡ length (join_with_byte 10 (lines ++ [] ∷ [])) + length last
length_joined [] last = omega arith
length_joined (line ∷ []) last = omega (arith, length-append line (10 ∷ last), length-append line (10 ∷ []))
length_joined (line ∷ next ∷ lines) last =
    omega (arith, length-append line (10 ∷ join_with_byte 10 (next ∷ lines ++ last ∷ [])), length-append line (10 ∷ join_with_byte 10 (next ∷ lines ++ [] ∷ [])), length_joined (next ∷ lines) last)

-- where a text goes on without a line more, and nothing stands after its lines, nothing more came
nothing_more : (part more : List ℕ) → whole_lines (part ++ more) ≡ whole_lines part → after_lines (part ++ more) ≡ [] → more ≡ []
nothing_more part more same nothing =
    let lines = whole_lines part in
    let front = length (join_with_byte 10 (lines ++ [] ∷ [])) in
    let all : length (part ++ more) ≡ front + length (after_lines (part ++ more)) =
    ap length (text_of (part ++ more)) ∙ ap (λ l. length (join_with_byte 10 (l ++ after_lines (part ++ more) ∷ []))) same ∙ length_joined lines (after_lines (part ++ more)) in
    let few : length part ≡ front + length (after_lines part) = ap length (text_of part) ∙ length_joined lines (after_lines part) in
    nil_from_length more (omega (arith, all, few, length-append part more, ap length nothing))

ends_once : (part more : List ℕ) (records : List Record) (lines : List (List ℕ)) → IsTextAccount (part ++ more) records → whole_lines part ≡ lines ++ end_line ∷ [] → more ≡ []
ends_once part more records lines account is =
    let stay = lines_stay part more in
    let all : whole_lines (part ++ more) ≡ (lines ++ end_line ∷ []) ++ stay.0 = stay.1 ∙ ap (λ l. l ++ stay.0) is in
    let none : stay.0 ≡ [] = last_line lines stay.0 records Start (subst (λ l. AllZip HasForm l records) all account.records_are.form) account.ended in
    nothing_more part more (stay.1 ∙ ap (λ l. whole_lines part ++ l) none ∙ append-nil (whole_lines part)) account.nothing_after

pub whole_by_end : (count : ℕ) (account : List ℕ) (records : List Record) (lines : List (List ℕ)) → is_binary account ≡ false → IsAccountOf account records → whole_lines (take count account) ≡ lines ++ end_line ∷ [] → take count account ≡ account
whole_by_end count account records lines text is last =
    let whole = take-append-drop count account in
    let none = ends_once (take count account) (drop count account) records lines (subst (λ bytes. IsTextAccount bytes records) (sym whole) (subst (λ b. IsAccountBy b account records) text is)) last in
    sym (append-nil (take count account)) ∙ ap (λ l. take count account ++ l) (sym none) ∙ whole
