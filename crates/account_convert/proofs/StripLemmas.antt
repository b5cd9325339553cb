-- An account that is valid is so without its drops, and comes to the same verdict.
use Rattle.std.proofs.Common.{◌≡◌, ◌≢◌, ℕ, zero, suc, ◌+◌, ◌-◌, Bool, true, false, List, [], ◌∷◌, ◌++◌, length, fold, take, get_or, None, refl, sym, ap, subst, ◌∙◌, inl, inr, arith, length-append}
use Rattle.std.specs.Prelude.{slice_set, unwrap_or}
use Rattle.std.proofs.lemmas.Bool.{cases_lt}
use Rattle.std.proofs.lemmas.Bool.Decides.{eqb_tells}
use Rattle.std.proofs.lemmas.List.{get_or-append-add, get_or-set_other, get_or_append_left, length-set}
use Rattle.circuits.specs.declared.port.Pair.{Pair}
use Rattle.circuits.specs.Literals.{EachAt}
use Rattle.account_file.specs.declared.place.Place.{Place}
use Rattle.account_file.specs.declared.place.Place.TheVariants.{Start, Headed, FactLog, Logs, Ended}
use Rattle.account_file.specs.declared.record.Record.{Record}
use Rattle.account_file.specs.declared.record.Record.TheVariants as entry_of
use Rattle.account_file.specs.Order.{next_place}
use Rattle.account_check.specs.Accounts.{Account, HasFault, after, verdict_of}
use Rattle.account_check.specs.Drops.{Dropped, marked, nothing_dropped, without_ban, without_fact}
use Rattle.ban_check.specs.More.{clashing_pairs}
use Rattle.account_convert.specs.Conversions.{is_drop, without_drops}
use Rattle.account_convert.proofs.MoveLemmas.{AreKept, after_but, bans_with, but, fine_without}

-- records are valid one after another
abbrev pub ValidFrom : Account → List Record → Type 0
ValidFrom account [] = Unit {0}
ValidFrom account (entry ∷ records) = HasFault account entry None × ValidFrom (after account entry) records

pub valid_from : (account : Account) (records : List Record) → EachAt (λ k entry. HasFault (fold after account (take k records)) entry None) records → ValidFrom account records
valid_from account [] each = tt
valid_from account (entry ∷ records) each = (each 0 entry (omega arith), valid_from (after account entry) records (λ k d below. each (suc k) d (omega (arith, below))))

pub valid_each : (account : Account) (records : List Record) → ValidFrom account records → EachAt (λ k entry. HasFault (fold after account (take k records)) entry None) records
valid_each account [] valid k d below = absurd (omega (arith, below))
valid_each account (entry ∷ records) valid zero d below = valid.0
valid_each account (entry ∷ records) valid (suc k) d below = valid_each (after account entry) records valid.1 k d (omega (arith, below))

-- marks

pub marked_same : (marks : List Bool) (number : ℕ) → get_or (marked marks number) number false ≡ true
marked_same [] zero = refl
marked_same [] (suc number) = marked_same [] number
marked_same (mark ∷ marks) zero = refl
marked_same (mark ∷ marks) (suc number) = marked_same marks number

pub marked_other : (marks : List Bool) (number other : ℕ) → other ≢ number → get_or (marked marks number) other false ≡ get_or marks other false
marked_other [] zero zero apart = absurd (apart refl)
marked_other [] zero (suc other) apart = refl
marked_other [] (suc number) zero apart = refl
marked_other [] (suc number) (suc other) apart = marked_other [] number other (λ e. apart (ap suc e))
marked_other (mark ∷ marks) zero zero apart = absurd (apart refl)
marked_other (mark ∷ marks) zero (suc other) apart = refl
marked_other (mark ∷ marks) (suc number) zero apart = refl
marked_other (mark ∷ marks) (suc number) (suc other) apart = marked_other marks number other (λ e. apart (ap suc e))

-- a drop leads nowhere else

fact_place : (place : Place) (fact : ℕ) → unwrap_or (next_place place (entry_of.DropFact fact)) place ≡ place
fact_place Start fact = refl
fact_place Headed fact = refl
fact_place FactLog fact = refl
fact_place (Logs logs) fact = refl
fact_place Ended fact = refl

ban_place : (place : Place) (ban : ℕ) → unwrap_or (next_place place (entry_of.DropBan ban)) place ≡ place
ban_place Start ban = refl
ban_place Headed ban = refl
ban_place FactLog ban = refl
ban_place (Logs logs) ban = refl
ban_place Ended ban = refl

pub fact_after : (account : Account) (bans : List (List Pair)) (dropped : Dropped) (fact : ℕ) → after (but account bans dropped) (entry_of.DropFact fact) ≡ but account bans (without_fact dropped fact)
fact_after account bans dropped fact = ap (λ place. record (but account bans (without_fact dropped fact)) { place = place }) (fact_place account.place fact)

pub ban_after : (account : Account) (bans : List (List Pair)) (dropped : Dropped) (ban : ℕ) → after (but account bans dropped) (entry_of.DropBan ban) ≡ but account (slice_set bans ban clashing_pairs) (without_ban dropped ban)
ban_after account bans dropped ban = ap (λ place. record (but account (slice_set bans ban clashing_pairs) (without_ban dropped ban)) { place = place }) (ban_place account.place ban)

-- bans stay the same, but for those that were dropped

pub kept_dropped : (bans others : List (List Pair)) (marks : List Bool) (ban : ℕ) → AreKept bans others marks → AreKept bans (slice_set others ban clashing_pairs) (marked marks ban)
kept_dropped bans others marks ban are = record {
  as_many = length-set others ban clashing_pairs ∙ are.as_many;
  same = λ other unmarked. elim (eqb_tells other ban) [
    | inl (test, e) ↦
        let clash : true ≡ false = sym (marked_same marks ban) ∙ (ap (λ n. get_or (marked marks ban) n false) (sym e) ∙ unmarked) in
        absurd (let never : ⊥ = cc in never)
    | inr (test, apart) ↦ are.same other (sym (marked_other marks ban other apart) ∙ unmarked) ∙ sym (get_or-set_other others ban other clashing_pairs [] apart)
  ];
}

pushed_same : (bans others : List (List Pair)) (pairs : List Pair) (ban : ℕ) → length others ≡ length bans → get_or bans ban [] ≡ get_or others ban [] → get_or (bans ++ pairs ∷ []) ban [] ≡ get_or (others ++ pairs ∷ []) ban []
pushed_same bans others pairs ban as_many same = elim (cases_lt ban (length bans)) [
  | inl below ↦ get_or_append_left bans (pairs ∷ []) [] ban below ∙ (same ∙ sym (get_or_append_left others (pairs ∷ []) [] ban (omega (arith, below, as_many))))
  | inr past ↦
      let j = ban - length bans in
      let one : length bans + j ≡ ban = omega (arith, past) in
      let two : length others + j ≡ ban = omega (arith, past, as_many) in
      ap (λ n. get_or (bans ++ pairs ∷ []) n []) (sym one)
      ∙ (get_or-append-add bans (pairs ∷ []) j []
      ∙ (sym (get_or-append-add others (pairs ∷ []) j [])
      ∙ ap (λ n. get_or (others ++ pairs ∷ []) n []) two))
]

pub kept_more : (bans others : List (List Pair)) (marks : List Bool) (entry : Record) → AreKept bans others marks → AreKept (bans_with bans entry) (bans_with others entry) marks
kept_more bans others marks (entry_of.Ban ban) are = record {
  as_many = omega (arith, are.as_many, length-append others (ban.pairs ∷ []), length-append bans (ban.pairs ∷ []));
  same = λ number unmarked. pushed_same bans others ban.pairs number are.as_many (are.same number unmarked);
}
kept_more bans others marks entry_of.Header are = are
kept_more bans others marks (entry_of.Fact given) are = are
kept_more bans others marks (entry_of.Line line) are = are
kept_more bans others marks (entry_of.Conclusion conclusion) are = are
kept_more bans others marks entry_of.End are = are
kept_more bans others marks (entry_of.DropFact fact) are = are
kept_more bans others marks (entry_of.DropBan ban) are = are

-- One account's records are valid, and lead to the same verdict as another one's.
pub record Agrees (one : Account) (records : List Record) (other : Account) (others : List Record) : Type 0 where
  pub valid : ValidFrom one records
  pub verdict : verdict_of (fold after one records) ≡ verdict_of (fold after other others)

-- a first record that isn't a drop
strip_first : (account : Account) (bans others : List (List Pair)) (dropped : Dropped) (entry : Record) (rest records : List Record) → is_drop entry ≡ false
    → HasFault (but account bans nothing_dropped) entry None
    → Agrees (but (after account entry) (bans_with bans entry) nothing_dropped) rest (but (after account entry) (bans_with others entry) dropped) records
    → Agrees (but account bans nothing_dropped) (entry ∷ rest) (but account others dropped) (entry ∷ records)
strip_first account bans others dropped entry rest records none fine go = record {
  valid = (fine, subst (λ a. ValidFrom a rest) (sym (after_but account bans nothing_dropped entry none)) go.valid);
  verdict =
      ap (λ a. verdict_of (fold after a rest)) (after_but account bans nothing_dropped entry none)
      ∙ (go.verdict
      ∙ ap (λ a. verdict_of (fold after a records)) (sym (after_but account others dropped entry none)));
}

pub strip : (records : List Record) (account : Account) (bans others : List (List Pair)) (dropped : Dropped) → AreKept bans others dropped.bans
    → ValidFrom (but account others dropped) records → Agrees (but account bans nothing_dropped) (without_drops records) (but account others dropped) records
strip [] account bans others dropped are valid = record { valid = tt; verdict = refl }
strip (entry_of.DropFact fact ∷ records) account bans others dropped are valid =
    let step = fact_after account others dropped fact in
    let go = strip records account bans others (without_fact dropped fact) are (subst (λ a. ValidFrom a records) step valid.1) in
    record { valid = go.valid; verdict = go.verdict ∙ ap (λ a. verdict_of (fold after a records)) (sym step) }
strip (entry_of.DropBan ban ∷ records) account bans others dropped are valid =
    let step = ban_after account others dropped ban in
    let go = strip records account bans (slice_set others ban clashing_pairs) (without_ban dropped ban) (kept_dropped bans others dropped.bans ban are) (subst (λ a. ValidFrom a records) step valid.1) in
    record { valid = go.valid; verdict = go.verdict ∙ ap (λ a. verdict_of (fold after a records)) (sym step) }
strip (entry_of.Header ∷ records) account bans others dropped are valid =
    let entry = entry_of.Header in
    strip_first account bans others dropped entry (without_drops records) records refl (fine_without account bans others dropped entry are refl valid.0)
    (strip records (after account entry) (bans_with bans entry) (bans_with others entry) dropped (kept_more bans others dropped.bans entry are) (subst (λ a. ValidFrom a records) (after_but account others dropped entry refl) valid.1))
strip (entry_of.Fact head ∷ records) account bans others dropped are valid =
    let entry = entry_of.Fact head in
    strip_first account bans others dropped entry (without_drops records) records refl (fine_without account bans others dropped entry are refl valid.0)
    (strip records (after account entry) (bans_with bans entry) (bans_with others entry) dropped (kept_more bans others dropped.bans entry are) (subst (λ a. ValidFrom a records) (after_but account others dropped entry refl) valid.1))
strip (entry_of.Line line ∷ records) account bans others dropped are valid =
    let entry = entry_of.Line line in
    strip_first account bans others dropped entry (without_drops records) records refl (fine_without account bans others dropped entry are refl valid.0)
    (strip records (after account entry) (bans_with bans entry) (bans_with others entry) dropped (kept_more bans others dropped.bans entry are) (subst (λ a. ValidFrom a records) (after_but account others dropped entry refl) valid.1))
strip (entry_of.Ban ban ∷ records) account bans others dropped are valid =
    let entry = entry_of.Ban ban in
    strip_first account bans others dropped entry (without_drops records) records refl (fine_without account bans others dropped entry are refl valid.0)
    (strip records (after account entry) (bans_with bans entry) (bans_with others entry) dropped (kept_more bans others dropped.bans entry are) (subst (λ a. ValidFrom a records) (after_but account others dropped entry refl) valid.1))
strip (entry_of.Conclusion conclusion ∷ records) account bans others dropped are valid =
    let entry = entry_of.Conclusion conclusion in
    strip_first account bans others dropped entry (without_drops records) records refl (fine_without account bans others dropped entry are refl valid.0)
    (strip records (after account entry) (bans_with bans entry) (bans_with others entry) dropped (kept_more bans others dropped.bans entry are) (subst (λ a. ValidFrom a records) (after_but account others dropped entry refl) valid.1))
strip (entry_of.End ∷ records) account bans others dropped are valid =
    let entry = entry_of.End in
    strip_first account bans others dropped entry (without_drops records) records refl (fine_without account bans others dropped entry are refl valid.0)
    (strip records (after account entry) (bans_with bans entry) (bans_with others entry) dropped (kept_more bans others dropped.bans entry are) (subst (λ a. ValidFrom a records) (after_but account others dropped entry refl) valid.1))
