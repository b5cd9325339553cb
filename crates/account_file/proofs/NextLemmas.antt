-- A record that is read uses a whole line, which isn't empty.
use Rattle.std.proofs.Common.{◌≡◌, ℕ, zero, suc, ◌+◌, ◌-◌, ◌≤◌, eqb, not, Option, None, Some, Bool, true, false, cond, List, [], ◌∷◌, ◌++◌, length, take, drop, Result, Ok, Err, refl, sym, ap, subst, ◌∙◌, inl, inr, arith, length-append, length-drop, length-take, zero-add}
use Rattle.std.specs.List.{before_first, position_or_len, prefix_len}
use Rattle.std.proofs.lemmas.Bool.{cases_Bool, ltb-true}
use Rattle.std.proofs.lemmas.List.{drop-append-le}
use Rattle.std.proofs.lemmas.List.Folds.{prefix_len-append}
use Rattle.std.proofs.lemmas.List.Sums.{prefix_len-le-length}
use Rattle.text_core.specs.Bytes.{is_line_feed}
use Rattle.account_file.specs.declared.record.Record.{Record}
use Rattle.account_file.specs.declared.fault.RecordFault.{RecordFault}
use Rattle.account_file.specs.declared.place.Place.{Place}
use Rattle.account_file.specs.declared.place.Place.TheVariants.{Start, Ended}
use Rattle.account_file.specs.declared.next_record.NextRecord.{NextRecord}
use Rattle.account_file.specs.declared.next_record.NextRecord.TheVariants.{Wait, Read}
use Rattle.account_file.specs.Forms.{record_in}
use Rattle.account_file.specs.Words.{words_of}
use Rattle.account_file.specs.Reading.{IsCounted, IsReader}
use Rattle.account_file.specs.Binary.{is_binary}
use Rattle.account_file.specs.NextRecords.{IsNext, form_at, has_line, in_place, line_at, looked_after, next_from, next_at_line, next_at_end, next_of}
use Rattle.account_file.proofs.ReadingLemmas.{waits}

by_used : (used : ℕ) (found : Result (Record × Place) RecordFault) (entry : Record) (place : Place) (n : ℕ) → next_from used found ≡ Read entry place n → used ≡ n
by_used used (Ok found) entry place n e = cc
by_used used (Err fault) entry place n e = cc

at_line : (place : Place) (line : List ℕ) (entry : Record) (after : Place) (n : ℕ) → next_at_line place line ≡ Read entry after n → (2 ≤ n) × (n ≡ length line + 1)
at_line Ended line entry after n e = cc
at_line place [] entry after n e = cc
at_line place (b ∷ line) entry after n e = let u = by_used (length (b ∷ line) + 1) (line_at place (b ∷ line)) entry after n e in (omega (arith, u), sym u)

at_end : (place : Place) (left : List ℕ) (entry : Record) (after : Place) (n : ℕ) → next_at_end place left ≡ Read entry after n → ⊥
at_end Ended (b ∷ left) entry after n e = cc
at_end place left entry after n e = cc

used_within : (left : List ℕ) (finished : Bool) (place : Place) (entry : Record) (after : Place) (n : ℕ) → next_of left finished place ≡ Read entry after n → (2 ≤ n) × (n ≤ length left)
used_within left finished place entry after n e =
    elim (cases_Bool (has_line left)) [
      | inl there ↦
          let line = before_first is_line_feed left in
          let other : NextRecord = cond finished (next_at_end place left) Wait in
          let used = at_line place line entry after n (sym (ap (λ b. cond b (next_at_line place line) other) there) ∙ e) in
          let below = ltb-true (position_or_len is_line_feed left) (length left) there in
          (used.0, omega (arith, used.1, below, length-take (position_or_len is_line_feed left) left))
      | inr none ↦ absurd (no_read finished (sym (ap (λ b. cond b (next_at_line place (before_first is_line_feed left)) (cond finished (next_at_end place left) Wait)) none) ∙ e))
    ]
  where
    no_read : (f : Bool) → cond f (next_at_end place left) Wait ≡ Read entry after n → ⊥
    no_read true read = at_end place left entry after n read
    no_read false read = cc

-- the same in either version, of bytes of which the first were read
used_in : (binary : Bool) (left : List ℕ) (finished : Bool) (place : Place) (entry : Record) (after : Place) (n : ℕ) → IsNext binary left finished place (Read entry after n) → (2 ≤ n) × (n ≤ length left)
used_in false left finished place entry after n is = used_within left finished place entry after n (sym is)
used_in true left finished place entry after n is = (is.some_used, is.within)

pub used_of : (binary : Bool) (bytes all : List ℕ) (start : ℕ) (finished : Bool) (place : Place) (entry : Record) (after : Place) (n : ℕ) → all ≡ bytes → IsNext binary (take (length all - start) (drop start all)) finished place (Read entry after n) → (2 ≤ n) × (n ≤ length bytes - start)
used_of binary bytes all start finished place entry after n same is =
    let used = used_in binary (take (length all - start) (drop start all)) finished place entry after n is in
    (used.0, omega (arith, used.1, length-take (length all - start) (drop start all), length-drop start all, ap length same))

-- a reader of text waits where no line feed is left
pub waits_in : (binary : Bool) (left : List ℕ) (finished : Bool) (place : Place) → IsNext binary left finished place Wait → looked_after binary (length left) ≤ position_or_len is_line_feed left
waits_in false left finished place is = waits left finished place (sym is)
waits_in true left finished place is = omega arith

-- the version, where no record was given
pub form_told : (place : Place) (left : List ℕ) (binary found : Bool) → found ≡ form_at place left binary → place ≡ Start → is_binary left ≡ found
form_told place left binary found e start = sym (e ∙ ap (λ p. form_at p left binary) start)

-- what is done, by the bytes that a reader has
pub next_here : (slice left : List ℕ) (found binary finished : Bool) (place : Place) (next : NextRecord) → slice ≡ left → found ≡ form_at place slice binary → IsNext found slice finished place next → IsNext (form_at place left binary) left finished place next
next_here slice left found binary finished place next same form is =
    subst (λ l. IsNext (form_at place l binary) l finished place next) same (subst (λ f. IsNext f slice finished place next) form is)

-- one record more was given
pub counted_more : (given : Option RecordFault) (line left total used : ℕ) → ((x : RecordFault) → given ≡ Some x → ⊥) → IsCounted given line left total → 2 ≤ used → used ≤ left → IsCounted given (line + 1) (left - used) total
counted_more None line left total used none counted two within = omega (arith, counted, two, within)
counted_more (Some fault) line left total used none counted two within = absurd (none fault refl)

-- a line feed that is none of the first bytes is sought after them
pub line_end_within : (bytes : List ℕ) (looked : ℕ) → looked ≤ position_or_len is_line_feed bytes → looked ≤ length bytes
line_end_within bytes looked none = omega (arith, none, prefix_len-le-length (λ byte. not (is_line_feed byte)) bytes)

pub line_end_after : (bytes : List ℕ) (looked : ℕ) → looked ≤ position_or_len is_line_feed bytes → looked + position_or_len is_line_feed (drop looked bytes) ≡ position_or_len is_line_feed bytes
line_end_after bytes zero none = zero-add (position_or_len is_line_feed bytes)
line_end_after [] (suc looked) none = absurd (omega (arith, none))
line_end_after (byte ∷ bytes) (suc looked) none = by (not (is_line_feed byte)) none (λ rest. line_end_after bytes looked rest)
  where
    by : (b : Bool) → suc looked ≤ cond b (1 + position_or_len is_line_feed bytes) 0
        → (looked ≤ position_or_len is_line_feed bytes → looked + position_or_len is_line_feed (drop looked bytes) ≡ position_or_len is_line_feed bytes)
        → suc looked + position_or_len is_line_feed (drop looked bytes) ≡ cond b (1 + position_or_len is_line_feed bytes) 0
    by true below more = let rest = more (omega (arith, below)) in omega (arith, rest)
    by false below more = absurd (omega (arith, below))

-- more bytes after
later_line_end : (bytes piece : List ℕ) (looked : ℕ) → looked ≤ position_or_len is_line_feed bytes → looked ≤ position_or_len is_line_feed (bytes ++ piece)
later_line_end bytes piece looked none =
    let p : ℕ → Bool = λ byte. not (is_line_feed byte) in
    by (eqb (prefix_len p bytes) (length bytes)) (prefix_len-append p bytes piece)
  where
    by : (b : Bool) → position_or_len is_line_feed (bytes ++ piece) ≡ cond b (length bytes + position_or_len is_line_feed piece) (position_or_len is_line_feed bytes)
        → looked ≤ position_or_len is_line_feed (bytes ++ piece)
    by true e = let within = line_end_within bytes looked none in omega (arith, e, within)
    by false e = omega (arith, e, none)

counted_feed : (given : Option RecordFault) (line left total more : ℕ) → IsCounted given line left total → IsCounted given line (left + more) (total + more)
counted_feed None line left total more counted = omega (arith, counted)
counted_feed (Some fault) line left total more counted = tt

pub reader_fed : (bytes piece : List ℕ) (start looked line : ℕ) (given : Option RecordFault) (total : ℕ) → IsReader bytes start looked line given total
    → IsReader (bytes ++ piece) start looked line given (total + length piece)
reader_fed bytes piece start looked line given total reader =
    let left : length (bytes ++ piece) - start ≡ length bytes - start + length piece = omega (arith, length-append bytes piece, reader.within) in
    record {
      within = omega (arith, reader.within, length-append bytes piece);
      no_line_feed = subst (λ l. looked ≤ position_or_len is_line_feed l) (sym (drop-append-le start bytes piece reader.within)) (later_line_end (drop start bytes) piece looked reader.no_line_feed);
      counted = subst (λ n. IsCounted given line n (total + length piece)) (sym left) (counted_feed given line (length bytes - start) total (length piece) reader.counted);
    }

-- what a line is where one record was read at least
pub later_line : (place : Place) (line : List ℕ) → (place ≡ Start → ⊥) → line_at place line ≡ in_place place (record_in (words_of line))
later_line Start line later = absurd (later refl)
later_line other line later = refl
