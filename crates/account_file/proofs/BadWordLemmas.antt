-- A line of no record: the reader's fault is what the words of the line say.
use Rattle.std.proofs.Common.{◌≡◌, ℕ, List, [], ◌∷◌, ◌++◌, codes, Result, Ok, Err, refl, sym, ap, ◌∙◌, inl, inr, arith, append_assoc}
use Rattle.std.specs.Fmt.{decimal}
use Rattle.account_file.specs.declared.record.Record.{Record}
use Rattle.account_file.specs.declared.fault.RecordFault.{RecordFault}
use Rattle.account_file.specs.declared.fault.RecordFault.TheVariants.{Word, Number}
use Rattle.account_file.specs.Forms.{record_in}
use Rattle.account_file.specs.Words.{words_of}
use Rattle.account_file.specs.Spelling.{line_text}
use Rattle.account_file.specs.TextAccounts.{BeginsLine, HasBadNumber, HasBadWord}
use Rattle.account_file.proofs.GrammarLemmas.{line_is_read}
use Rattle.account_file.proofs.NumberLemmas.{zero_decimal}
use Rattle.account_file.proofs.ReadLemmas.{CanRead, IsWordOrNumber}
use Rattle.account_file.proofs.RecordLemmas.{text_words, written_is_read, read_is_written}

-- words that are read begin a line
begins : (front : List (List ℕ)) (word : List ℕ) → CanRead (λ after. record_in (front ++ word ∷ after)) → BeginsLine (front ++ word ∷ [])
begins front word c =
    let found = (line_is_read.each (front ++ word ∷ c.words)).written c.entry c.read in
    record {
      line = line_text c.entry;
      entry = c.entry;
      form = (found.writable, refl);
      after = c.words;
      words_are = text_words c.entry found.writable ∙ sym found.same ∙ sym (append_assoc front (word ∷ []) c.words);
    }

-- words that begin a line are read with what follows them there
begun : (front : List (List ℕ)) (word : List ℕ) → (b : BeginsLine (front ++ word ∷ [])) → record_in (front ++ word ∷ b.after) ≡ Ok b.entry
begun front word b =
    ap record_in (sym (append_assoc front (word ∷ []) b.after)) ∙ ap record_in (sym b.words_are) ∙ written_is_read b.entry b.line b.form.0 b.form.1

pub bad_number_found : (line : List ℕ) → record_in (words_of line) ≡ Err Number → HasBadNumber line
bad_number_found line e =
    let s = (line_is_read.each (words_of line)).stuck e in
    record {
      before = s.front;
      word = s.word;
      after = s.more;
      words_are = s.words_are;
      digits = s.digits;
      begins_none = λ b. let both : Err Number ≡ Ok b.entry = sym (s.stuck b.after) ∙ begun s.front s.word b in cc;
      number_fits = λ n small. begins s.front (decimal n) (s.fits n small);
    }

pub bad_number_read : (line : List ℕ) → HasBadNumber line → record_in (words_of line) ≡ Err Number
bad_number_read line bad =
    let zero = bad.number_fits 0 (omega arith) in
    let read : record_in (bad.before ++ codes "0" ∷ zero.after) ≡ Ok zero.entry =
    ap (λ w. record_in (bad.before ++ w ∷ zero.after)) (sym zero_decimal) ∙ begun bad.before (decimal 0) zero in
    elim ((line_is_read.each bad.before).zero zero.after bad.word zero.entry read bad.digits) [
      | inl stuck ↦ ap record_in bad.words_are ∙ stuck bad.after
      | inr c ↦ absurd (bad.begins_none (begins bad.before bad.word c))
    ]

pub bad_words : (words : List (List ℕ)) (fault : RecordFault) → record_in words ≡ Err fault → IsWordOrNumber fault
bad_words words fault e = (line_is_read.each words).faults fault e

pub bad_word_found : (line : List ℕ) → record_in (words_of line) ≡ Err Word → HasBadWord line
bad_word_found line e = record {
  no_record = λ entry form. let both : Err Word ≡ Ok entry = sym e ∙ written_is_read entry line form.0 form.1 in cc;
  no_number = λ bad. let both : Err Word ≡ Err Number = sym e ∙ bad_number_read line bad in cc;
}

pub bad_word_read : (line : List ℕ) → HasBadWord line → record_in (words_of line) ≡ Err Word
bad_word_read line bad = by (record_in (words_of line)) refl
  where
    by : (found : Result Record RecordFault) → record_in (words_of line) ≡ found → found ≡ Err Word
    by (Ok entry) e = let read = read_is_written line entry e in absurd (bad.no_record entry (read.1, read.0))
    by (Err fault) e = elim (bad_words (words_of line) fault e) [
      | inl word ↦ ap Err word
      | inr number ↦ absurd (bad.no_number (bad_number_found line (e ∙ ap Err number)))
    ]
