-- Records in bytes: no bytes begin with two of them, and what is so of the first records of bytes.
use Rattle.std.proofs.Common.{◌≡◌, ◌≢◌, ℕ, zero, suc, ◌+◌, ◌<◌, ◌≤◌, true, false, List, [], ◌∷◌, ◌++◌, length, get_or, take, drop, All, Option, None, Some, IsSome, refl, sym, ap, subst, ◌∙◌, arith, inl, inr, append_assoc, append-nil, take-append-drop}
use Rattle.std.specs.List.{flat_map}
use Rattle.std.proofs.Math.Seq.{take-append_seam}
use Rattle.std.proofs.lemmas.Bool.{cases_Bool, cases_lt}
use Rattle.std.proofs.lemmas.Bool.Decides.{Decides-eqb}
use Rattle.std.proofs.lemmas.List.{take-append-le}
use Rattle.std.proofs.lemmas.Slice.Eq.{starts_is}
use Rattle.std.specs.Cmp.Lexicographic.{pointwise}
use Rattle.std.specs.Prelude.{nat_eq}
use Rattle.std.proofs.lemmas.Bool.{false≢true}
use Rattle.std.proofs.lemmas.List.{append_cancel_left}
use Rattle.std.proofs.lemmas.List.Elements.{All-head, All-push, All-tail, All-take}
use Rattle.std.proofs.lemmas.Grind.{flat_map-append}
use Rattle.account_core.specs.declared.conclusion.Conclusion.TheVariants.{NonePorts, NoneBan, Match}
use Rattle.account_core.specs.declared.fact.FactHead.TheVariants.{Fails, Holds}
use Rattle.byte_form.specs.Codes.{BeginsNone, BeginsWith, IsPrefixCode}
use Rattle.byte_form.proofs.CodeLemmas.{same_left}
use Rattle.account_bytes.specs.declared.entry.Entry.{Entry}
use Rattle.account_bytes.specs.declared.entry.Entry.TheVariants as entry_of
use Rattle.account_bytes.specs.Entries.{EntryFits, FrameFits, IsMalformed, entry_body, entry_bytes, entry_tag, frame_bytes}
use Rattle.account_bytes.proofs.EntryLemmas.{entry_code, frame_code}
use Rattle.account_file.specs.declared.record.Record.{Record}
use Rattle.account_file.specs.declared.record.Record.TheVariants as record_of
use Rattle.account_file.specs.declared.place.Place.{Place}
use Rattle.account_file.specs.declared.place.Place.TheVariants.{Start, Headed, FactLog, Logs, Ended}
use Rattle.account_file.specs.Order.{next_place, place_after, HaveEnded, MayStand}
use Rattle.account_file.specs.Lines.{whole_lines}
use Rattle.account_file.specs.Binary.{FitsBy, HasBytes, bytes_by, entry_in, is_binary, record_bytes, record_with, signature}
use Rattle.account_file.specs.BinaryAccounts.{AreEntries}
use Rattle.account_file.specs.TextAccounts.{AreUnderWay}
use Rattle.account_file.proofs.OrderLemmas.{at_start, place_after_last, place_there, take_in_order}

-- a record is known by its entry
tag_small : (entry : Entry) → entry_tag entry ≤ 10
tag_small (entry_of.Fact (Fails claim bits)) = omega arith
tag_small (entry_of.Fact (Holds claim)) = omega arith
tag_small (entry_of.Line line) = omega arith
tag_small (entry_of.Ban ban) = omega arith
tag_small (entry_of.Conclusion NonePorts) = omega arith
tag_small (entry_of.Conclusion (NoneBan ban)) = omega arith
tag_small (entry_of.Conclusion (Match pairs)) = omega arith
tag_small entry_of.End = omega arith
tag_small (entry_of.DropFact fact) = omega arith
tag_small (entry_of.DropBan ban) = omega arith

abbrev record_by : Option Entry → Record
record_by None = record_of.Header
record_by (Some entry) = record_with entry

known : (entry : Record) → record_by (entry_in entry) ≡ entry
known record_of.Header = refl
known (record_of.Fact head) = refl
known (record_of.Line line) = refl
known (record_of.Ban ban) = refl
known (record_of.Conclusion conclusion) = refl
known (record_of.DropFact fact) = refl
known (record_of.DropBan ban) = refl
known record_of.End = refl

pub entry_back : (entry : Entry) → entry_in (record_with entry) ≡ Some entry
entry_back (entry_of.Fact head) = refl
entry_back (entry_of.Line line) = refl
entry_back (entry_of.Ban ban) = refl
entry_back (entry_of.Conclusion conclusion) = refl
entry_back (entry_of.DropFact fact) = refl
entry_back (entry_of.DropBan ban) = refl
entry_back entry_of.End = refl

first_byte : (entry : Entry) (after other : List ℕ) → signature ++ after ≡ entry_bytes entry ++ other → ⊥
first_byte entry after other same =
    let first : 78 ≡ entry_tag entry = ap (λ l. get_or l 0 0) same in
    omega (arith, first, tag_small entry)

one_by : (x y : Option Entry) (after other : List ℕ) → FitsBy x → FitsBy y → bytes_by x ++ after ≡ bytes_by y ++ other → x ≡ y
one_by None None after other fits fit same = refl
one_by None (Some entry) after other fits fit same = absurd (first_byte entry after other same)
one_by (Some entry) None after other fits fit same = absurd (first_byte entry other after (sym same))
one_by (Some x) (Some y) after other fits fit same = ap (λ e. Some e) (entry_code.one x y after other fits fit same)

pub record_code : IsPrefixCode record_bytes HasBytes
record_code = record {
  one = λ x y after other fits fit same. sym (known x) ∙ (ap record_by (one_by (entry_in x) (entry_in y) after other fits fit same) ∙ known y);
}

-- of two lists that begin the same bytes the shorter one is the first part of the other
pub record IsFront {X : Type 0} (bytes : X → List ℕ) (xs ys : List X) (after other : List ℕ) : Type 0 where
  pub same : xs ≡ take (length xs) ys
  pub rest : after ≡ flat_map bytes (drop (length xs) ys) ++ other

front_items : {X : Type 0} (bytes : X → List ℕ) (Fits : X → Type 0) → IsPrefixCode bytes Fits → (xs ys : List X) (after other : List ℕ) → length xs ≤ length ys → All Fits xs → All Fits ys → flat_map bytes xs ++ after ≡ flat_map bytes ys ++ other
    → IsFront bytes xs ys after other
front_items {X} bytes Fits code [] ys after other fewer all each same = record { same = refl; rest = same }
front_items {X} bytes Fits code (x ∷ xs) [] after other fewer all each same = absurd (omega (arith, fewer))
front_items {X} bytes Fits code (x ∷ xs) (y ∷ ys) after other fewer all each same =
    let moved = sym (append_assoc (bytes x) (flat_map bytes xs) after) ∙ (same ∙ append_assoc (bytes y) (flat_map bytes ys) other) in
    let fits = All-head Fits x xs all in
    let fit = All-head Fits y ys each in
    let first = code.one x y (flat_map bytes xs ++ after) (flat_map bytes ys ++ other) fits fit moved in
    let left = same_left bytes Fits code x y (flat_map bytes xs ++ after) (flat_map bytes ys ++ other) fits fit moved in
    let front = front_items bytes Fits code xs ys after other (omega (arith, fewer)) (All-tail Fits x xs all) (All-tail Fits y ys each) left in record {
      same = ap (λ z. z ∷ xs) first ∙ ap (λ l. y ∷ l) front.same;
      rest = front.rest;
    }

pub front_entries : (bytes : List ℕ) (few more : List Record) (left other : List ℕ) → AreEntries bytes few left → AreEntries bytes more other → length few ≤ length more → IsFront record_bytes few more left other
front_entries bytes few more left other first second fewer =
    front_items record_bytes HasBytes record_code few more left other fewer first.items.each second.items.each (sym first.items.text_is ∙ second.items.text_is)

-- the first of records are those of the same bytes
pub take_entries : (bytes : List ℕ) (records : List Record) (left : List ℕ) (k : ℕ) → AreEntries bytes records left → AreEntries bytes (take k records) (flat_map record_bytes (drop k records) ++ left)
take_entries bytes records left k are = record {
  items = record {
    each = All-take HasBytes k records are.items.each;
    text_is = are.items.text_is ∙ (ap (λ l. flat_map record_bytes l ++ left) (sym (take-append-drop k records))
        ∙ (ap (λ l. l ++ left) (flat_map-append record_bytes (take k records) (drop k records)) ∙ append_assoc (flat_map record_bytes (take k records)) (flat_map record_bytes (drop k records)) left));
  };
  order = take_in_order k records are.order;
}

-- what is left after the same records is the same
pub same_rest : (bytes : List ℕ) (records : List Record) (left other : List ℕ) → AreEntries bytes records left → AreEntries bytes records other → left ≡ other
same_rest bytes records left other first second =
    append_cancel_left (flat_map record_bytes records) left other (sym first.items.text_is ∙ second.items.text_is)

-- the next record
pub more_entries : (bytes : List ℕ) (before : List Record) (entry : Record) (left after : List ℕ) → AreEntries bytes before left → HasBytes entry → left ≡ record_bytes entry ++ after → MayStand before entry → AreEntries bytes (before ++ entry ∷ []) after
more_entries bytes before entry left after are fits left_is may = record {
  items = record {
    each = All-push HasBytes before entry are.items.each fits;
    text_is = are.items.text_is ∙ (ap (λ l. flat_map record_bytes before ++ l) left_is ∙ (sym (append_assoc (flat_map record_bytes before) (record_bytes entry) after)
        ∙ ap (λ l. l ++ after) (ap (λ l. flat_map record_bytes before ++ l) (sym (append-nil (record_bytes entry))) ∙ sym (flat_map-append record_bytes before (entry ∷ [])))));
  };
  order = may;
}

pub next_left : (bytes : List ℕ) (before : List Record) (entry : Record) (left after : List ℕ) → AreEntries bytes before left → AreEntries bytes (before ++ entry ∷ []) after → left ≡ record_bytes entry ++ after
next_left bytes before entry left after are more =
    append_cancel_left (flat_map record_bytes before) left (record_bytes entry ++ after)
    (sym are.items.text_is ∙ (more.items.text_is ∙ (ap (λ l. l ++ after) (flat_map-append record_bytes before (entry ∷ []) ∙ ap (λ l. flat_map record_bytes before ++ l) (append-nil (record_bytes entry)))
    ∙ append_assoc (flat_map record_bytes before) (record_bytes entry) after)))

last_fits : (before : List Record) (entry : Record) → All HasBytes (before ++ entry ∷ []) → HasBytes entry
last_fits [] entry all = All-head HasBytes entry [] all
last_fits (e ∷ before) entry all = last_fits before entry (All-tail HasBytes e (before ++ entry ∷ []) all)

-- a header stands at the start alone
no_header : (place : Place) → place ≢ Start → next_place place record_of.Header ≡ None
no_header Start later = absurd (later refl)
no_header Headed later = refl
no_header FactLog later = refl
no_header (Logs logs) later = refl
no_header Ended later = refl

-- after records that are under way stands an entry
pub record BeginsNext (left : List ℕ) (entry : Record) (after : List ℕ) : Type 0 where
  pub of : Entry
  pub is : entry ≡ record_with of
  pub begins : BeginsWith entry_bytes EntryFits left of after

by_entry : (left after : List ℕ) (entry : Record) (of : Option Entry) → entry_in entry ≡ of → HasBytes entry → left ≡ record_bytes entry ++ after → (of ≡ None → ⊥) → BeginsNext left entry after
by_entry left after entry None e fits left_is other = absurd (other refl)
by_entry left after entry (Some of) e fits left_is other = record {
  of = of;
  is = sym (known entry) ∙ ap record_by e;
  begins = record { fits = subst FitsBy e fits; text_is = left_is ∙ ap (λ o. bytes_by o ++ after) e };
}

pub next_begins : (bytes : List ℕ) (before : List Record) (entry : Record) (left after : List ℕ) → AreUnderWay before → AreEntries bytes before left → AreEntries bytes (before ++ entry ∷ []) after → BeginsNext left entry after
next_begins bytes before entry left after under are more =
    by_entry left after entry (entry_in entry) refl (last_fits before entry more.items.each) (next_left bytes before entry left after are more) no_head
  where
    no_head : entry_in entry ≡ None → ⊥
    no_head e =
        let at' = place_there before are.order in
        let head : entry ≡ record_of.Header = sym (known entry) ∙ ap record_by e in
        let none : place_after (before ++ entry ∷ []) ≡ None =
        place_after_last before entry at'.0 at'.1 ∙ (ap (λ r. next_place at'.0 r) head ∙ no_header at'.0 (λ start. under.begun (at_start before (at'.1 ∙ ap (λ p. Some p) start)))) in
        false≢true (subst IsSome none more.order)

-- nothing stands after the end
pub none_after_end : (before : List Record) (entry : Record) → HaveEnded before → MayStand before entry → ⊥
none_after_end before entry ended may =
    false≢true (subst IsSome (place_after_last before entry Ended ended) may)

-- frames and entries exclude each other
pub entry_is_frame : (left after : List ℕ) (entry : Entry) → BeginsWith entry_bytes EntryFits left entry after → BeginsNone frame_bytes FrameFits left → ⊥
entry_is_frame left after entry begins h =
    h.none (entry_tag entry, entry_body entry) after (record { fits = begins.fits.length_fits; text_is = begins.text_is })

pub same_begins : (left after other : List ℕ) (x y : Entry) → BeginsWith entry_bytes EntryFits left x after → BeginsWith entry_bytes EntryFits left y other → x ≡ y
same_begins left after other x y one two = entry_code.one x y after other one.fits two.fits (sym one.text_is ∙ two.text_is)

-- what is malformed stays so where bytes go on
pub malformed_stays : (left piece : List ℕ) → IsMalformed left → IsMalformed (left ++ piece)
malformed_stays left piece bad = record {
  frame = bad.frame;
  left = bad.left ++ piece;
  whole = record {
    fits = bad.whole.fits;
    text_is = ap (λ l. l ++ piece) bad.whole.text_is ∙ append_assoc (frame_bytes bad.frame) bad.left piece;
  };
  none = record { none = λ entry after begins. goes entry after begins };
}
  where
    goes : (entry : Entry) (after : List ℕ) → BeginsWith entry_bytes EntryFits (left ++ piece) entry after → ⊥
    goes entry after begins =
        let whole = ap (λ l. l ++ piece) bad.whole.text_is ∙ append_assoc (frame_bytes bad.frame) bad.left piece in
        let same = frame_code.one (entry_tag entry, entry_body entry) bad.frame after (bad.left ++ piece) begins.fits.length_fits bad.whole.fits (sym begins.text_is ∙ whole) in
        bad.none.none entry bad.left (record { fits = begins.fits; text_is = bad.whole.text_is ∙ ap (λ f. frame_bytes f ++ bad.left) (sym same) })

-- records stay where bytes go on
pub longer_entries : (bytes piece : List ℕ) (records : List Record) (left : List ℕ) → AreEntries bytes records left → AreEntries (bytes ++ piece) records (left ++ piece)
longer_entries bytes piece records left are = record {
  items = record {
    each = are.items.each;
    text_is = ap (λ l. l ++ piece) are.items.text_is ∙ append_assoc (flat_map record_bytes records) left piece;
  };
  order = are.order;
}

-- bytes that go on are of the same version

pub binary_longer : (bytes piece : List ℕ) → is_binary bytes ≡ true → is_binary (bytes ++ piece) ≡ true
binary_longer bytes piece e =
    let first = starts_is Decides-eqb bytes signature (is_binary bytes) refl in
    let longer = starts_is Decides-eqb (bytes ++ piece) signature (is_binary (bytes ++ piece)) refl in
    longer.1 (drop 8 bytes ++ piece) (ap (λ l. l ++ piece) (first.0 e) ∙ append_assoc signature (drop 8 bytes) piece)

-- a part of the signature has no line
no_line : (n : ℕ) → n ≤ 8 → whole_lines (take n signature) ≡ []
no_line zero few = refl
no_line (suc zero) few = refl
no_line (suc (suc zero)) few = refl
no_line (suc (suc (suc zero))) few = refl
no_line (suc (suc (suc (suc zero)))) few = refl
no_line (suc (suc (suc (suc (suc zero))))) few = refl
no_line (suc (suc (suc (suc (suc (suc zero)))))) few = refl
no_line (suc (suc (suc (suc (suc (suc (suc zero))))))) few = refl
no_line (suc (suc (suc (suc (suc (suc (suc (suc zero)))))))) few = refl
no_line (suc (suc (suc (suc (suc (suc (suc (suc (suc n))))))))) few = absurd (omega (arith, few))

-- text that has a line, or eight bytes, stays text
pub text_longer : (bytes piece : List ℕ) → is_binary bytes ≡ false → 0 < length (whole_lines bytes) → is_binary (bytes ++ piece) ≡ false
text_longer bytes piece e some = elim (cases_lt (length bytes) 8) [
  | inl short ↦ elim (cases_Bool (is_binary (bytes ++ piece))) [
    | inl told ↦
        let longer = starts_is Decides-eqb (bytes ++ piece) signature (is_binary (bytes ++ piece)) refl in
        let all = longer.0 told in
        let part : bytes ≡ take (length bytes) signature =
        sym (take-append_seam bytes piece) ∙ (ap (take (length bytes)) all ∙ take-append-le (length bytes) signature (drop 8 (bytes ++ piece)) (omega (arith, short))) in
        let none : whole_lines bytes ≡ [] = ap whole_lines part ∙ no_line (length bytes) (omega (arith, short)) in
        absurd (omega (arith, some, ap length none))
    | inr other ↦ other
  ]
  | inr long ↦ ap (λ l. pointwise nat_eq signature l) (take-append-le 8 bytes piece long) ∙ e
]
