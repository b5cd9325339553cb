-- Tables after one record more.
use Rattle.std.proofs.Common.{◌≡◌, ℕ, zero, suc, ◌+◌, ◌<◌, ◌≤◌, Bool, List, [], ◌∷◌, ◌++◌, length, drop, get_or, Option, refl, sym, ap, ◌∙◌, arith}
use Rattle.std.specs.Prelude.{option_to_list}
use Rattle.std.specs.List.{flat_map}
use Rattle.std.proofs.lemmas.List.Sums.{fold-append}
use Rattle.account_file.specs.declared.record.Record.{Record}
use Rattle.account_convert.specs.declared.mentions.Mentions.{Mentions}
use Rattle.account_convert.specs.Conversions.{bans_in, facts_in, gives_ban, gives_fact}
use Rattle.account_convert.specs.Tables.{LeadMentions, all_mentioned, bans_after, facts_after, mentioned, table_after, table_from}

table_more : {X : Type 0} (names : X → List ℕ) (gives : X → Bool) (records : List X) (entry : X) (record_number at : ℕ) (table : List ℕ) → record_number + length records ≡ at
    → table_from names gives record_number table (records ++ entry ∷ []) ≡ table_after names gives at (table_from names gives record_number table records) entry
table_more {X} names gives [] entry record_number at table e = ap (λ n. table_after names gives n table entry) (let same : record_number ≡ at = omega (arith, e) in same)
table_more {X} names gives (first ∷ records) entry record_number at table e = table_more names gives records entry (record_number + 1) at (table_after names gives record_number table first) (omega (arith, e))

pub mentions_more : (first old new : Mentions) (before : List Record) (entry : Record) (record_number : ℕ) → LeadMentions first before old → record_number ≡ length before + 1
    → new.facts ≡ facts_after record_number old.facts entry
    → new.bans ≡ bans_after record_number old.bans entry
    → LeadMentions first (before ++ entry ∷ []) new
mentions_more first old new before entry record_number led number_is facts bans =
    let at : 1 + length before ≡ record_number = omega (arith, number_is) in
    record {
      facts = facts ∙ (ap (λ t. facts_after record_number t entry) led.facts ∙ sym (table_more facts_in gives_fact before entry 1 record_number first.facts at));
      bans = bans ∙ (ap (λ t. bans_after record_number t entry) led.bans ∙ sym (table_more bans_in gives_ban before entry 1 record_number first.bans at));
    }

-- one of the numbers that a record names, and one of its references

pub named_more : (record_number : ℕ) (numbers : List ℕ) (i d : ℕ) (table new : List ℕ) → i < length numbers → new ≡ mentioned record_number table (get_or numbers i d) → all_mentioned record_number new (drop (suc i) numbers) ≡ all_mentioned record_number table (drop i numbers)
named_more record_number [] i d table new below is = absurd (omega (arith, below))
named_more record_number (number ∷ numbers) zero d table new below is = ap (λ t. all_mentioned record_number t numbers) is
named_more record_number (number ∷ numbers) (suc i) d table new below is = named_more record_number numbers i d table new (omega (arith, below)) is

pub referred_more : (record_number : ℕ) (refs : List (Option ℕ)) (i : ℕ) (d : Option ℕ) (table new : List ℕ) → i < length refs → new ≡ all_mentioned record_number table (option_to_list (get_or refs i d))
    → all_mentioned record_number new (flat_map option_to_list (drop (suc i) refs)) ≡ all_mentioned record_number table (flat_map option_to_list (drop i refs))
referred_more record_number [] i d table new below is = absurd (omega (arith, below))
referred_more record_number (reference ∷ refs) zero d table new below is =
    ap (λ t. all_mentioned record_number t (flat_map option_to_list refs)) is ∙ sym (fold-append (mentioned record_number) table (option_to_list reference) (flat_map option_to_list refs))
referred_more record_number (reference ∷ refs) (suc i) d table new below is = referred_more record_number refs i d table new (omega (arith, below)) is

pub none_left : {X : Type 0} (xs : List X) (i : ℕ) → length xs ≤ i → drop i xs ≡ []
none_left {X} [] zero past = refl
none_left {X} [] (suc i) past = refl
none_left {X} (x ∷ xs) zero past = absurd (omega (arith, past))
none_left {X} (x ∷ xs) (suc i) past = none_left xs i (omega (arith, past))
