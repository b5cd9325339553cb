-- Records that an account takes one after another, and the text of those that it takes up to the end.
use Rattle.std.proofs.Common.{◌≡◌, zero, suc, false, List, [], ◌∷◌, ◌++◌, fold, take, All, Option, None, Some, IsSome, refl, sym, ap, subst, ◌∙◌, arith}
use Rattle.std.specs.Prelude.{unwrap_or}
use Rattle.std.specs.List.{AllZip}
use Rattle.std.proofs.lemmas.List.{append-nil}
use Rattle.std.proofs.lemmas.List.Sums.{fold-append}
use Rattle.std.proofs.lemmas.List.Elements.{All-append, All-cons, All-nil}
use Rattle.std.proofs.lemmas.Grind.{flat_map-append}
use Rattle.circuits.specs.Literals.{EachAt}
use Rattle.net_core.specs.Sides.{Graphs}
use Rattle.account_file.specs.declared.place.Place.{Place}
use Rattle.account_file.specs.declared.place.Place.TheVariants as place
use Rattle.account_file.specs.declared.record.Record.{Record}
use Rattle.account_file.specs.declared.record.Record.TheVariants as entry_of
use Rattle.account_file.specs.Accounts.{IsAccountBy}
use Rattle.account_file.specs.TextAccounts.{HasForm}
use Rattle.account_file.specs.Binary.{is_binary}
use Rattle.account_file.specs.Lines.{after_lines, whole_lines}
use Rattle.account_file.specs.Order.{place_after, place_after_one, next_place}
use Rattle.account_file.specs.Spelling.{IsWritable, record_line}
use Rattle.account_file.proofs.StepLemmas.{text_form}
use Rattle.account_file.proofs.AccountLemmas.{after_records, have_forms, lines_of_records, texts_of}
use Rattle.account_check.specs.declared.verdict.Verdict.{Verdict}
use Rattle.account_check.specs.Accounts.{Account, after, empty_account, verdict_at, HasFault}
use Rattle.account_check.specs.Verdicts.{IsAccepted}
use Rattle.account_write.specs.Records.{account_of, lines_of}

-- a record may stand there, and nothing is wrong with it
pub record IsTaken (account : Account) (entry : Record) : Type 0 where
  pub there : IsSome (next_place account.place entry)
  pub right : HasFault account entry None

abbrev pub AreTaken : Account → List Record → Type 0
AreTaken account [] = Unit {0}
AreTaken account (entry ∷ records) = IsTaken account entry × AreTaken (after account entry) records

-- records that are taken lead from an account to another
pub record Lead (account : Account) (records : List Record) (other : Account) : Type 0 where
  pub taken : AreTaken account records
  pub to : fold after account records ≡ other

pub lead_none : {account : Account} → Lead account [] account
lead_none {account} = record { taken = tt; to = refl }

pub lead_first : {account other : Account} {entry : Record} {records : List Record} → IsTaken account entry → Lead (after account entry) records other → Lead account (entry ∷ records) other
lead_first {account} {other} {entry} {records} first rest = record { taken = (first, rest.taken); to = rest.to }

pub lead_one : {account other : Account} {entry : Record} → IsTaken account entry → after account entry ≡ other → Lead account (entry ∷ []) other
lead_one {account} {other} {entry} first to = record { taken = (first, tt); to = to }

taken_on : (account : Account) (records more : List Record) → AreTaken account records → AreTaken (fold after account records) more → AreTaken account (records ++ more)
taken_on account [] more taken rest = rest
taken_on account (entry ∷ records) more taken rest = (taken.0, taken_on (after account entry) records more taken.1 rest)

pub lead_on : {account middle other : Account} {records more : List Record} → Lead account records middle → Lead middle more other → Lead account (records ++ more) other
lead_on {account} {middle} {other} {records} {more} one two = record {
  taken = taken_on account records more one.taken (subst (λ a. AreTaken a more) (sym one.to) two.taken);
  to = fold-append after account records more ∙ (ap (λ a. fold after a more) one.to ∙ two.to);
}

-- an account that is equal takes the same
pub lead_from : {account same other : Account} {records : List Record} → account ≡ same → Lead same records other → Lead account records other
lead_from {account} {same} {other} {records} e lead = subst (λ a. Lead a records other) (sym e) lead

-- they stand in order
in_order : (account : Account) (records : List Record) → AreTaken account records → fold place_after_one (Some account.place) records ≡ Some (fold after account records).place
in_order account [] taken = refl
in_order account (entry ∷ records) taken = by (next_place account.place entry) refl taken.0.there (in_order (after account entry) records taken.1)
  where
    by : (o : Option Place) → next_place account.place entry ≡ o → IsSome o → fold place_after_one (Some (after account entry).place) records ≡ Some (fold after account (entry ∷ records)).place → fold place_after_one (next_place account.place entry) records ≡ Some (fold after account (entry ∷ records)).place
    by None is some go = absurd (let no : ⊥ = cc in no)
    by (Some p) is some go =
        let there : (after account entry).place ≡ p = ap (λ o. unwrap_or o account.place) is in
        ap (λ o. fold place_after_one o records) is ∙ (ap (λ q. fold place_after_one (Some q) records) (sym there) ∙ go)

-- and are valid
valid : (account : Account) (records : List Record) → AreTaken account records → EachAt (λ k entry. HasFault (fold after account (take k records)) entry None) records
valid account [] taken k d below = absurd (omega (arith, below))
valid account (entry ∷ records) taken zero d below = taken.0.right
valid account (entry ∷ records) taken (suc k) d below = valid (after account entry) records taken.1 k d (omega (arith, below))

-- The text of records that lead to the end is accepted.
pub accepted : (graphs : Graphs) (records : List Record) (other : Account) (verdict : Verdict) → All IsWritable records → Lead (empty_account graphs) records other → other.place ≡ place.Ended → other.concluded ≡ Some verdict → IsAccepted graphs (lines_of records) verdict
accepted graphs records other verdict writable lead ended concluded = record {
  records = records;
  account = subst (λ b. IsAccountBy b (lines_of records) records) (sym form) (record {
    records_are = record {
      form = subst (λ ls. AllZip HasForm ls records) (sym lines) (have_forms records writable);
      order = subst IsSome (sym order) refl;
    };
    ended = there;
    nothing_after = ap after_lines (sym (append-nil (lines_of records))) ∙ after_records records [] writable;
  });
  valid = valid (empty_account graphs) records lead.taken;
  verdict_is = ap (λ (a : Account). verdict_at a.place a.concluded) lead.to ∙ (ap (λ p. verdict_at p other.concluded) ended ∙ concluded);
}
  where
    lines : whole_lines (lines_of records) ≡ texts_of records
    lines = ap whole_lines (sym (append-nil (lines_of records))) ∙ (lines_of_records records [] writable ∙ append-nil (texts_of records))

    order : place_after records ≡ Some (fold after (empty_account graphs) records).place
    order = in_order (empty_account graphs) records lead.taken

    there : place_after records ≡ Some place.Ended
    there = order ∙ (ap (λ (a : Account). Some a.place) lead.to ∙ ap (λ p. Some p) ended)

    form : is_binary (lines_of records) ≡ false
    form = text_form records place.Ended there (λ e. cc)

-- The same, where the end follows.
pub accepted_at_end : (graphs : Graphs) (records : List Record) (other : Account) (verdict : Verdict) → All IsWritable records → Lead (empty_account graphs) records other → other.place ≡ place.Logs 0 → other.concluded ≡ Some verdict → IsAccepted graphs (account_of records) verdict
accepted_at_end graphs records other verdict writable lead at concluded =
    subst (λ bytes. IsAccepted graphs bytes verdict) text (accepted graphs (records ++ entry_of.End ∷ []) (after other entry_of.End) verdict all whole ended concluded)
  where
    all : All IsWritable (records ++ entry_of.End ∷ [])
    all = All-append IsWritable records (entry_of.End ∷ []) writable (All-cons IsWritable entry_of.End [] tt (All-nil IsWritable))

    taken : IsTaken other entry_of.End
    taken = record { there = subst (λ p. IsSome (next_place p entry_of.End)) (sym at) refl; right = refl }

    whole : Lead (empty_account graphs) (records ++ entry_of.End ∷ []) (after other entry_of.End)
    whole = lead_on lead (lead_one taken refl)

    ended : (after other entry_of.End).place ≡ place.Ended
    ended = ap (λ p. unwrap_or (next_place p entry_of.End) p) at

    text : lines_of (records ++ entry_of.End ∷ []) ≡ account_of records
    text = flat_map-append record_line records (entry_of.End ∷ []) ∙ ap (λ l. lines_of records ++ l) (append-nil (record_line entry_of.End))
