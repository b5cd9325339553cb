-- Records with drops, drops aside.
use Rattle.std.proofs.Common.{◌≡◌, ℕ, ◌+◌, Bool, true, false, not, cond, List, [], ◌∷◌, ◌++◌, map, All, refl, ap, ◌∙◌}
use Rattle.std.specs.List.{AllZip, flat_map}
use Rattle.std.proofs.lemmas.List.Elements.{All-cons, All-head, All-nil, All-tail, filter-append, filter_passes}
use Rattle.account_file.specs.declared.record.Record.{Record}
use Rattle.account_file.specs.declared.record.Record.TheVariants as record_of
use Rattle.account_file.specs.Spelling.{IsWritable}
use Rattle.account_file.specs.TextAccounts.{HasForm, IsTextAccount}
use Rattle.account_convert.specs.Conversions.{bans_in, drops_after, facts_in, gives_ban, gives_fact, is_conclusion, is_drop, last_named, one_if, with_drops, with_drops_from, without_drops}

-- no record is a drop
abbrev pub HaveNoDrops : List Record → Type 0
HaveNoDrops records = All (λ entry. is_drop entry ≡ false) records

no_drop : (entry : Record) → IsWritable entry → is_drop entry ≡ false
no_drop record_of.Header writable = refl
no_drop (record_of.Fact head) writable = refl
no_drop (record_of.Line line) writable = refl
no_drop (record_of.Ban ban) writable = refl
no_drop (record_of.Conclusion conclusion) writable = refl
no_drop record_of.End writable = refl
no_drop (record_of.DropFact fact) writable = absurd writable
no_drop (record_of.DropBan ban) writable = absurd writable

forms_no_drops : (lines : List (List ℕ)) (records : List Record) → AllZip HasForm lines records → HaveNoDrops records
forms_no_drops [] [] forms = All-nil (λ entry. is_drop entry ≡ false)
forms_no_drops [] (entry ∷ records) forms = absurd forms
forms_no_drops (line ∷ lines) [] forms = absurd forms
forms_no_drops (line ∷ lines) (entry ∷ records) forms = All-cons (λ e. is_drop e ≡ false) entry records (no_drop entry forms.0.0) (forms_no_drops lines records forms.1)

pub text_no_drops : (bytes : List ℕ) (records : List Record) → IsTextAccount bytes records → HaveNoDrops records
text_no_drops bytes records account = forms_no_drops _ records account.records_are.form

pub all_kept : (records : List Record) → HaveNoDrops records → without_drops records ≡ records
all_kept [] none = refl
all_kept (entry ∷ records) none =
    ap (λ b. cond (not b) (entry ∷ without_drops records) (without_drops records)) (All-head (λ e. is_drop e ≡ false) entry records none)
    ∙ ap (λ l. entry ∷ l) (all_kept records (All-tail (λ e. is_drop e ≡ false) entry records none))

not_drop : (b : Bool) → not b ≡ true → b ≡ false
not_drop true e = cc
not_drop false e = refl

pub kept_once : (records : List Record) → without_drops (without_drops records) ≡ without_drops records
kept_once records = all_kept (without_drops records) (λ k d below. not_drop (is_drop _) (filter_passes (λ entry. not (is_drop entry)) records k d below))

drops_away : (facts bans : List ℕ) → without_drops (map record_of.DropFact facts ++ map record_of.DropBan bans) ≡ []
drops_away [] [] = refl
drops_away [] (ban ∷ bans) = drops_away [] bans
drops_away (fact ∷ facts) bans = drops_away facts bans

drops_aside : (records : List Record) (facts bans : ℕ) → HaveNoDrops records → without_drops (with_drops_from facts bans records) ≡ records
drops_aside [] facts bans none = refl
drops_aside (entry ∷ later) facts bans none =
    by (is_conclusion entry) (λ next_facts next_bans. drops_aside later next_facts next_bans (All-tail (λ e. is_drop e ≡ false) entry later none))
  where
    here : is_drop entry ≡ false
    here = All-head (λ e. is_drop e ≡ false) entry later none

    first : (rest : List Record) → without_drops (entry ∷ rest) ≡ entry ∷ without_drops rest
    first rest = ap (λ b. cond (not b) (entry ∷ without_drops rest) (without_drops rest)) here

    others : List Record
    others = with_drops_from (facts + one_if (gives_fact entry)) (bans + one_if (gives_ban entry)) later

    facts_out : List ℕ
    facts_out = last_named facts (gives_fact entry) (facts_in entry) (flat_map facts_in later)

    bans_out : List ℕ
    bans_out = last_named bans (gives_ban entry) (bans_in entry) (flat_map bans_in later)

    by : (b : Bool) → ((next_facts next_bans : ℕ) → without_drops (with_drops_from next_facts next_bans later) ≡ later)
        → without_drops (cond b (entry ∷ later) ((entry ∷ drops_after facts bans entry later) ++ others)) ≡ entry ∷ later
    by true go = all_kept (entry ∷ later) none
    by false go =
        first (drops_after facts bans entry later ++ others)
        ∙ ap (λ l. entry ∷ l)
        (filter-append (λ e. not (is_drop e)) (drops_after facts bans entry later) others
        ∙ (ap (λ l. l ++ without_drops others) (drops_away facts_out bans_out)
        ∙ go (facts + one_if (gives_fact entry)) (bans + one_if (gives_ban entry))))

pub with_drops_back : (records : List Record) → HaveNoDrops records → without_drops (with_drops records) ≡ records
with_drops_back records none = drops_aside records 0 0 none
