-- Records that are written in either version are the account of them.
use Rattle.std.proofs.Common.{◌≡◌, ℕ, Bool, true, false, List, [], ◌∷◌, ◌++◌, fold, All, None, Some, IsSome, refl, sym, ap, subst, ◌∙◌, append-nil}
use Rattle.std.specs.List.{AllZip, flat_map, join_with_byte}
use Rattle.std.proofs.lemmas.List.{append_cancel_right}
use Rattle.account_file.specs.declared.place.Place.TheVariants.{Start, Ended}
use Rattle.account_file.specs.declared.record.Record.{Record}
use Rattle.account_file.specs.declared.record.Record.TheVariants as record_of
use Rattle.account_file.specs.Accounts.{IsAccountBy, IsAccountOf}
use Rattle.account_file.specs.Binary.{HasBytes, is_binary, record_bytes}
use Rattle.account_file.specs.Lines.{after_lines, whole_lines}
use Rattle.account_file.specs.Order.{HaveEnded, place_after_one}
use Rattle.account_file.specs.Spelling.{IsWritable, record_line}
use Rattle.account_file.specs.TextAccounts.{HasForm, IsTextAccount}
use Rattle.account_file.proofs.AccountLemmas.{after_records, have_forms, lines_of_records, texts_of}
use Rattle.account_file.proofs.LineLemmas.{text_of}
use Rattle.account_file.proofs.OrderLemmas.{none_stays}
use Rattle.account_file.proofs.StepLemmas.{text_form}

-- bytes are the account of these records, of the version that is said
pub record IsAccountIn (binary : Bool) (bytes : List ℕ) (records : List Record) : Type 0 where
  pub version : is_binary bytes ≡ binary
  pub account : IsAccountOf bytes records

in_version : (binary : Bool) (bytes : List ℕ) (records : List Record) → is_binary bytes ≡ binary → IsAccountBy binary bytes records → IsAccountIn binary bytes records
in_version binary bytes records version are = record { version = version; account = subst (λ b. IsAccountBy b bytes records) (sym version) are }

pub text_account : (records : List Record) → All IsWritable records → HaveEnded records → IsAccountIn false (flat_map record_line records) records
text_account records writable ended =
    let text = flat_map record_line records in
    let lines : whole_lines text ≡ texts_of records = ap whole_lines (sym (append-nil text)) ∙ (lines_of_records records [] writable ∙ append-nil (texts_of records)) in
    in_version false text records (text_form records Ended ended (λ e. cc)) (record {
      records_are = record {
        form = subst (λ ls. AllZip HasForm ls records) (sym lines) (have_forms records writable);
        order = subst IsSome (sym ended) refl;
      };
      ended = ended;
      nothing_after = ap after_lines (sym (append-nil text)) ∙ after_records records [] writable;
    })

-- the first record is the header
no_end : (more : List Record) → fold place_after_one None more ≡ Some Ended → ⊥
no_end more e = let no : None ≡ Some Ended = sym (none_stays more) ∙ e in cc

header_first : (entry : Record) (more : List Record) → HaveEnded (entry ∷ more) → entry ≡ record_of.Header
header_first record_of.Header more e = refl
header_first (record_of.Fact head) more e = absurd (no_end more e)
header_first (record_of.Line line) more e = absurd (no_end more e)
header_first (record_of.Ban ban) more e = absurd (no_end more e)
header_first (record_of.Conclusion conclusion) more e = absurd (no_end more e)
header_first (record_of.DropFact fact) more e = absurd (no_end more e)
header_first (record_of.DropBan ban) more e = absurd (no_end more e)
header_first record_of.End more e = absurd (no_end more e)

begins : (records : List Record) → HaveEnded records → is_binary (flat_map record_bytes records) ≡ true
begins [] e = absurd (let no : Some Start ≡ Some Ended = e in cc)
begins (entry ∷ more) e = ap (λ first. is_binary (record_bytes first ++ flat_map record_bytes more)) (header_first entry more e)

pub binary_account : (records : List Record) → All HasBytes records → HaveEnded records → IsAccountIn true (flat_map record_bytes records) records
binary_account records fit ended =
    let bytes = flat_map record_bytes records in
    in_version true bytes records (begins records ended) (record {
      records_are = record {
        items = record { each = fit; text_is = sym (append-nil bytes) };
        order = subst IsSome (sym ended) refl;
      };
      ended = ended;
    })

-- a text is known by its lines, where nothing stands after them

same_line : (one other : List ℕ) → one ++ 10 ∷ [] ≡ other ++ 10 ∷ [] → one ≡ other
same_line one other e = append_cancel_right one other (10 ∷ []) e

same_lines : (one other : List (List ℕ)) (records : List Record) → AllZip HasForm one records → AllZip HasForm other records → one ≡ other
same_lines [] [] [] first second = refl
same_lines [] (line ∷ other) [] first second = absurd second
same_lines [] other (entry ∷ records) first second = absurd first
same_lines (line ∷ one) other [] first second = absurd first
same_lines (line ∷ one) [] (entry ∷ records) first second = absurd second
same_lines (line ∷ one) (next ∷ other) (entry ∷ records) first second =
    ap (λ l. l ∷ one) (same_line line next (sym first.0.1 ∙ second.0.1)) ∙ ap (λ l. next ∷ l) (same_lines one other records first.1 second.1)

pub same_text : (one other : List ℕ) (records : List Record) → IsTextAccount one records → IsTextAccount other records → one ≡ other
same_text one other records first second =
    text_of one
    ∙ (ap (λ ls. join_with_byte 10 (ls ++ after_lines one ∷ [])) (same_lines (whole_lines one) (whole_lines other) records first.records_are.form second.records_are.form)
    ∙ (ap (λ l. join_with_byte 10 (whole_lines other ++ l ∷ [])) (first.nothing_after ∙ sym second.nothing_after)
    ∙ sym (text_of other)))
