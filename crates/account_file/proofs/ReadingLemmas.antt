-- What the next line, or the first fault, says of a whole text, and what is left after it.
use Rattle.std.proofs.Common.{◌≡◌, ℕ, ◌+◌, ◌<◌, ◌≤◌, Bool, true, false, cond, List, [], ◌∷◌, ◌++◌, length, get_or, take, drop, All, Some, IsSome, Err, refl, sym, ap, subst, ◌∙◌, arith, append_assoc, append-nil, length-append, length-take-le}
use Rattle.std.specs.List.{AllZip, flat_map, before_first, after_first, position_or_len}
use Rattle.std.proofs.Math.Seq.{take-append-add}
use Rattle.std.proofs.lemmas.Bool.{ltb-true, ltb-false}
use Rattle.std.proofs.lemmas.List.{take-append-le, get_or_append_left}
use Rattle.std.proofs.lemmas.Slice.Zip.{all_zipped_more}
use Rattle.text_core.specs.Bytes.{is_line_feed}
use Rattle.text_core.specs.Lines.{IsLine}
use Rattle.account_file.specs.declared.record.Record.{Record}
use Rattle.account_file.specs.declared.fault.RecordFault.{RecordFault}
use Rattle.account_file.specs.declared.fault.RecordFault.TheVariants as fault
use Rattle.account_file.specs.declared.place.Place.{Place}
use Rattle.account_file.specs.declared.place.Place.TheVariants.{Ended}
use Rattle.account_file.specs.declared.next_record.NextRecord.{NextRecord}
use Rattle.account_file.specs.declared.next_record.NextRecord.TheVariants.{Wait, Read, Refuse}
use Rattle.account_file.specs.Lines.{whole_lines, after_lines}
use Rattle.account_file.specs.Order.{next_place, place_after, AreInOrder}
use Rattle.account_file.specs.TextAccounts.{HasForm, AreRecords, LineFault, EndFault, HasTextFault, SaysLine}
use Rattle.account_file.specs.Spelling.{IsWritable, record_line}
use Rattle.account_file.specs.NextRecords.{has_line, next_at_line, next_at_end, next_of, answer_by}
use Rattle.account_file.proofs.AccountLemmas.{texts_of, length_texts, lines_of_records, after_records, have_forms, FaultThere, NextSays, next_at_line_says}
use Rattle.account_file.proofs.LineLemmas.{lines_first, lines_none, after_none, cut_first, before_first_is_line, no_line_feed_is_line, lines_stay}
use Rattle.account_file.proofs.LawLemmas.{cut_off, refused_at, refused_end}
use Rattle.account_file.proofs.OrderLemmas.{place_after_last}

-- a text that begins with the lines of records, after which an account stands so
module _ (bytes left : List ℕ) (records : List Record) (place : Place) (text : bytes ≡ flat_map record_line records ++ left) (w : All IsWritable records) (at' : place_after records ≡ Some place) where
  lines_are : whole_lines bytes ≡ texts_of records ++ whole_lines left
  lines_are = ap whole_lines text ∙ lines_of_records records left w

  rest_is : after_lines bytes ≡ after_lines left
  rest_is = ap after_lines text ∙ after_records records left w

  in_order : AreInOrder records
  in_order = subst IsSome (sym at') refl

  -- a whole line is left
  module _ (line more : List ℕ) (cut : left ≡ line ++ 10 ∷ more) (one : IsLine line) where
    first : whole_lines left ≡ line ∷ whole_lines more
    first = ap whole_lines cut ∙ lines_first line more one

    with_line : whole_lines bytes ≡ texts_of records ++ line ∷ whole_lines more
    with_line = lines_are ∙ ap (λ l. texts_of records ++ l) first

    below : length records < length (whole_lines bytes)
    below = omega (arith, ap length with_line, length-append (texts_of records) (line ∷ whole_lines more), length_texts records)

    front_is : take (length records + 1) (whole_lines bytes) ≡ texts_of records ++ line ∷ []
    front_is =
        ap (take (length records + 1)) with_line ∙ ap (λ n. take (n + 1) (texts_of records ++ line ∷ whole_lines more)) (sym (length_texts records))
        ∙ take-append-add (texts_of records) (line ∷ whole_lines more) 1

    refused : (wrong : RecordFault) → FaultThere place line wrong → HasTextFault bytes records wrong
    refused = refused_at bytes (texts_of records) (whole_lines left) records place lines_are (have_forms records w) at' line (whole_lines more) first

    line_says : (finished : Bool) (next : NextRecord) → NextSays place line next → SaysLine bytes finished records (answer_by next)
    line_says finished Wait said = absurd said
    line_says finished (Read entry after used) said = record {
      form = subst (λ l. AllZip HasForm l (records ++ entry ∷ [])) (sym front_is) (all_zipped_more HasForm (texts_of records) records line entry (have_forms records w) said.0);
      order = subst IsSome (sym (place_after_last records entry place at' ∙ said.1)) refl;
    }
    line_says true (Refuse wrong) said = refused wrong said
    line_says false (Refuse wrong) said = (refused wrong said, below)

  -- no line feed is left
  module _ (none : IsLine left) where
    no_line : whole_lines bytes ≡ texts_of records
    no_line = lines_are ∙ ap (λ l. texts_of records ++ l) (lines_none left none) ∙ append-nil (texts_of records)

    all_are : AreRecords (whole_lines bytes) records
    all_are = record { form = subst (λ l. AllZip HasForm l records) (sym no_line) (have_forms records w); order = in_order }

    left_is : after_lines bytes ≡ left
    left_is = rest_is ∙ after_none left none

    end_fault : (wrong : RecordFault) → EndFault records left wrong → HasTextFault bytes records wrong
    end_fault wrong h =
        refused_end bytes (texts_of records) (whole_lines left) records place lines_are (have_forms records w) at' (lines_none left none) wrong
        (subst (λ l. EndFault records l wrong) (sym left_is) h)

end_says : (bytes left : List ℕ) (records : List Record) (place : Place) → bytes ≡ flat_map record_line records ++ left → All IsWritable records → place_after records ≡ Some place
    → IsLine left → SaysLine bytes true records (answer_by (next_at_end place left))
end_says bytes [] records Ended text w at' none = record {
  records_are = all_are bytes [] records Ended text w at' none;
  ended = at';
  nothing_after = left_is bytes [] records Ended text w at' none;
}
end_says bytes (byte ∷ left) records Ended text w at' none =
    end_fault bytes (byte ∷ left) records Ended text w at' none fault.Trailing (at', λ e. cc)
end_says bytes left records place text w at' none =
    cut_off bytes (texts_of records) (whole_lines left) records place (lines_are bytes left records place text w at') (have_forms records w) at' (lines_none left none) (λ e. cc)

-- by the first line feed that is left
line_below : (left : List ℕ) → has_line left ≡ true → position_or_len is_line_feed left < length left
line_below left there = ltb-true (position_or_len is_line_feed left) (length left) there

line_missing : (left : List ℕ) → has_line left ≡ false → IsLine left
line_missing left missing = no_line_feed_is_line left (ltb-false (position_or_len is_line_feed left) (length left) missing)

pub next_of_says : (bytes left : List ℕ) (records : List Record) (place : Place) (finished : Bool) → bytes ≡ flat_map record_line records ++ left → All IsWritable records
    → place_after records ≡ Some place → SaysLine bytes finished records (answer_by (next_of left finished place))
next_of_says bytes left records place finished text w at' = by (has_line left) refl
  where
    at_end : (f : Bool) → IsLine left → SaysLine bytes f records (answer_by (cond f (next_at_end place left) Wait))
    at_end true none = end_says bytes left records place text w at' none
    at_end false none = all_are bytes left records place text w at' none

    by : (b : Bool) → has_line left ≡ b
        → SaysLine bytes finished records (answer_by (cond b (next_at_line place (before_first is_line_feed left)) (cond finished (next_at_end place left) Wait)))
    by true there =
        let line = before_first is_line_feed left in
        line_says bytes left records place text w at' line (after_first is_line_feed left) (cut_first left (line_below left there)) (before_first_is_line left)
        finished (next_at_line place line) (next_at_line_says place line)
    by false missing = at_end finished (line_missing left missing)

-- a reader waits where no line feed is left
pub waits : (left : List ℕ) (finished : Bool) (place : Place) → next_of left finished place ≡ Wait → length left ≤ position_or_len is_line_feed left
waits left finished place e = by (has_line left) refl
  where
    by : (b : Bool) → has_line left ≡ b → length left ≤ position_or_len is_line_feed left
    by true there =
        let line = before_first is_line_feed left in
        let wait : next_at_line place line ≡ Wait = sym (ap (λ b. cond b (next_at_line place line) (cond finished (next_at_end place left) Wait)) there) ∙ e in
        absurd (subst (NextSays place line) wait (next_at_line_says place line))
    by false missing = ltb-false (position_or_len is_line_feed left) (length left) missing

-- the fault of a text stays where the text goes on after its line
pub text_fault_stays : (bytes piece : List ℕ) (records : List Record) (wrong : RecordFault) → SaysLine bytes false records (Err wrong) → SaysLine (bytes ++ piece) false records (Err wrong)
text_fault_stays bytes piece records wrong said =
    let k = length records in
    let more = lines_stay bytes piece in
    let has = said.0 in
    let below : k < length (whole_lines bytes) = said.1 in
    let longer : k < length (whole_lines (bytes ++ piece)) = omega (arith, below, ap length more.1, length-append (whole_lines bytes) more.0) in
    let front : take k (whole_lines bytes) ≡ take k (whole_lines (bytes ++ piece)) =
    sym (ap (take k) more.1 ∙ take-append-le k (whole_lines bytes) more.0 (omega (arith, below))) in
    let line : get_or (whole_lines bytes) k [] ≡ get_or (whole_lines (bytes ++ piece)) k [] =
    sym (ap (λ l. get_or l k []) more.1 ∙ get_or_append_left (whole_lines bytes) more.0 [] k below) in (
      record {
        records = subst (λ l. AreRecords l records) front has.records;
        at_line = λ _. subst (λ l. LineFault records l wrong) line (has.at_line below);
        at_end = λ past. absurd (omega (arith, past, longer));
      },
      longer,
    )

-- what is left after a record
pub record TextLeaves (place : Place) (left : List ℕ) (entry : Record) (after : Place) (used : ℕ) : Type 0 where
  pub writable : IsWritable entry
  pub text : left ≡ record_line entry ++ drop used left
  pub place_is : next_place place entry ≡ Some after

abbrev pub Leaves : Place → List ℕ → NextRecord → Type 0
Leaves place left Wait = Unit {0}
Leaves place left (Read entry after used) = TextLeaves place left entry after used
Leaves place left (Refuse wrong) = Unit {0}

leaves : (place : Place) (left : List ℕ) (next : NextRecord) → position_or_len is_line_feed left < length left → NextSays place (before_first is_line_feed left) next → Leaves place left next
leaves place left Wait below said = tt
leaves place left (Refuse wrong) below said = tt
leaves place left (Read entry after used) below said =
    let line = before_first is_line_feed left in
    let n = position_or_len is_line_feed left in
    let long : length line ≡ n = length-take-le n left (omega (arith, below)) in
    let rest : after_first is_line_feed left ≡ drop used left = ap (λ m. drop m left) (omega (arith, long, said.2)) in
    record {
      writable = said.0.0;
      text = cut_first left below ∙ sym (append_assoc line (10 ∷ []) (after_first is_line_feed left)) ∙ ap (λ l. l ++ after_first is_line_feed left) (sym said.0.1)
          ∙ ap (λ l. record_line entry ++ l) rest;
      place_is = said.1;
    }

pub next_leaves : (place : Place) (left : List ℕ) (finished : Bool) → Leaves place left (next_of left finished place)
next_leaves place left finished = by (has_line left) refl
  where
    ended : (p : Place) (l : List ℕ) → Leaves p l (next_at_end p l)
    ended Ended (byte ∷ l) = tt
    ended p l = tt

    at_end : (f : Bool) → Leaves place left (cond f (next_at_end place left) Wait)
    at_end true = ended place left
    at_end false = tt

    by : (b : Bool) → has_line left ≡ b → Leaves place left (cond b (next_at_line place (before_first is_line_feed left)) (cond finished (next_at_end place left) Wait))
    by true there = leaves place left (next_at_line place (before_first is_line_feed left)) (line_below left there) (next_at_line_says place (before_first is_line_feed left))
    by false missing = at_end finished
