-- What an account and the same in the other version have in common.
use Rattle.std.proofs.Common.{◌≡◌, ℕ, ◌+◌, Bool, true, false, not, List, [], length, Some, refl, sym, ap, subst, ◌∙◌}
use Rattle.net_core.specs.Sides.{Graphs}
use Rattle.account_file.specs.declared.record.Record.{Record}
use Rattle.account_file.specs.Accounts.{IsAccountBy, IsAccountOf}
use Rattle.account_file.specs.Binary.{is_binary}
use Rattle.account_file.specs.Order.{HaveEnded}
use Rattle.account_file.proofs.VersionLemmas.{account_ended, account_or_fault, one_account, one_fault}
use Rattle.account_file.specs.declared.fault.RecordFault.{RecordFault}
use Rattle.account_check.specs.declared.verdict.Verdict.{Verdict}
use Rattle.account_check.specs.Accounts.{AreValid, account_after, empty_account, verdict_of}
use Rattle.account_check.specs.Drops.{nothing_dropped}
use Rattle.account_check.specs.Verdicts.{IsAccepted}
use Rattle.account_convert.specs.declared.conversion.Converted.{Converted}
use Rattle.account_convert.specs.Conversions.{IsConverted, IsFaultAt, in_other_version, version_number, with_drops, without_drops}
use Rattle.account_convert.proofs.DropLemmas.{HaveNoDrops, all_kept, kept_once, text_no_drops, with_drops_back}
use Rattle.account_convert.proofs.PutAllLemmas.{put_all}
use Rattle.account_convert.proofs.SpelledLemmas.{same_text}
use Rattle.account_convert.proofs.StripLemmas.{Agrees, strip, valid_each, valid_from}

-- an account of version 1 has no drops
no_drops : (bytes : List ℕ) (records : List Record) → is_binary bytes ≡ false → IsAccountOf bytes records → HaveNoDrops records
no_drops bytes records e account = text_no_drops bytes records (subst (λ b. IsAccountBy b bytes records) e account)

same_records : (b : Bool) (records : List Record) → (b ≡ false → HaveNoDrops records) → without_drops (in_other_version b records) ≡ without_drops records
same_records false records none = with_drops_back records (none refl) ∙ sym (all_kept records (none refl))
same_records true records none = kept_once records

pub records_same : (old : List ℕ) (new : Converted) (records others : List Record) → IsConverted old new → IsAccountOf old records → IsAccountOf new.bytes others → without_drops others ≡ without_drops records
records_same old new records others is are others_are =
    ap without_drops (one_account new.bytes others (in_other_version (is_binary old) is.records) others_are is.becomes)
    ∙ (same_records (is_binary old) is.records (λ e. no_drops old is.records e is.account)
    ∙ ap without_drops (one_account old is.records records is.account are))

text_first : (b : Bool) → version_number b ≡ 1 → b ≡ false
text_first true e = absurd (let never : ⊥ = cc in never)
text_first false e = refl

pub back_same : (old : List ℕ) (new back : Converted) → IsConverted old new → new.from ≡ 1 → IsConverted new.bytes back → back.bytes ≡ old
back_same old new back is from again =
    let text : is_binary old ≡ false = text_first (is_binary old) (sym is.from ∙ from) in
    let binary : is_binary new.bytes ≡ true = is.version ∙ ap not text in
    let records_are : again.records ≡ with_drops is.records = one_account new.bytes again.records (with_drops is.records) again.account (subst (λ b. IsAccountOf new.bytes (in_other_version b is.records)) text is.becomes) in
    let other : in_other_version (is_binary new.bytes) again.records ≡ is.records =
    ap (λ b. in_other_version b again.records) binary ∙ (ap without_drops records_are ∙ with_drops_back is.records (no_drops old is.records text is.account)) in
    let back_text : is_binary back.bytes ≡ false = again.version ∙ ap not binary in
    same_text back.bytes old is.records
    (subst (λ b. IsAccountBy b back.bytes is.records) back_text (subst (IsAccountOf back.bytes) other again.becomes))
    (subst (λ b. IsAccountBy b old is.records) text is.account)

-- valid records lead to one verdict

accepted_by : (graphs : Graphs) (bytes : List ℕ) (records others : List Record) (verdict : Verdict) → IsAccountOf bytes records
    → Agrees (empty_account graphs) records (empty_account graphs) others → verdict_of (account_after graphs others) ≡ Some verdict → IsAccepted graphs bytes verdict
accepted_by graphs bytes records others verdict account agrees is = record {
  records = records;
  account = account;
  valid = valid_each (empty_account graphs) records agrees.valid;
  verdict_is = agrees.verdict ∙ is;
}

stripped : (graphs : Graphs) (records : List Record) → AreValid graphs records → Agrees (empty_account graphs) (without_drops records) (empty_account graphs) records
stripped graphs records valid =
    strip records (empty_account graphs) [] [] nothing_dropped (record { as_many = refl; same = λ ban unmarked. refl }) (valid_from (empty_account graphs) records valid)

converted_by : (graphs : Graphs) (b : Bool) (records : List Record) → (b ≡ false → HaveNoDrops records) → HaveEnded records → AreValid graphs records → Agrees (empty_account graphs) (in_other_version b records) (empty_account graphs) records
converted_by graphs false records none ended valid = put_all graphs records (none refl) ended (valid_from (empty_account graphs) records valid)
converted_by graphs true records none ended valid = stripped graphs records valid

pub accepted_too : (graphs : Graphs) (old : List ℕ) (new : Converted) (verdict : Verdict) → IsConverted old new → IsAccepted graphs old verdict → IsAccepted graphs new.bytes verdict
accepted_too graphs old new verdict is accepted =
    let b = is_binary old in
    let same = one_account old is.records accepted.records is.account accepted.account in
    let agrees = converted_by graphs b accepted.records (λ e. no_drops old accepted.records e accepted.account) (account_ended old accepted.records accepted.account) accepted.valid in
    accepted_by graphs new.bytes (in_other_version b accepted.records) accepted.records verdict (subst (λ rs. IsAccountOf new.bytes (in_other_version b rs)) same is.becomes) agrees accepted.verdict_is

pub accepted_before : (graphs : Graphs) (old : List ℕ) (new : Converted) (verdict : Verdict) → IsConverted old new → new.from ≡ 1 → IsAccepted graphs new.bytes verdict → IsAccepted graphs old verdict
accepted_before graphs old new verdict is from accepted =
    let text : is_binary old ≡ false = text_first (is_binary old) (sym is.from ∙ from) in
    let same : accepted.records ≡ with_drops is.records = one_account new.bytes accepted.records (with_drops is.records) accepted.account (subst (λ b. IsAccountOf new.bytes (in_other_version b is.records)) text is.becomes) in
    let back : without_drops accepted.records ≡ is.records = ap without_drops same ∙ with_drops_back is.records (no_drops old is.records text is.account) in
    accepted_by graphs old is.records accepted.records verdict is.account
    (subst (λ rs. Agrees (empty_account graphs) rs (empty_account graphs) accepted.records) back (stripped graphs accepted.records accepted.valid)) accepted.verdict_is

-- an account is converted in one way, or has one first fault of form

pub one_converted : (account : List ℕ) (one other : Converted) → IsConverted account one → IsConverted account other → (one.from ≡ other.from) × (one.to ≡ other.to) × (one.records ≡ other.records)
one_converted account one other a b =
    (a.from ∙ sym b.from, a.to ∙ sym b.to, a.counted ∙ ap length (one_account account a.records b.records a.account b.account) ∙ sym b.counted)

pub converted_or_fault : (account : List ℕ) (new : Converted) (line : ℕ) (fault : RecordFault) → IsConverted account new → IsFaultAt account line fault → ⊥
converted_or_fault account new line fault is wrong = account_or_fault account is.records wrong.before fault is.account wrong.has

pub one_fault_at : (account : List ℕ) (line other_line : ℕ) (fault other_fault : RecordFault) → IsFaultAt account line fault → IsFaultAt account other_line other_fault → (line ≡ other_line) × (fault ≡ other_fault)
one_fault_at account line other_line fault other_fault one other =
    let same = one_fault account one.before other.before fault other_fault one.has other.has in
    (one.number_is ∙ ap (λ records. length records + 1) same.0 ∙ sym other.number_is, same.1)
