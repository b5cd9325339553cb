-- Accounts record by record: their circuits stay, and they stand where their records lead.
use Rattle.std.proofs.Common.{◌≡◌, ◌≤◌, ℕ, zero, suc, Bool, true, false, List, [], ◌∷◌, ◌++◌, length, take, get_or, fold, Option, None, Some, if◌then◌else◌, refl, sym, ap, subst, ◌∙◌, arith}
use Rattle.std.proofs.Math.Seq.{take-suc, take-length}
use Rattle.std.specs.Prelude.{unwrap_or}
use Rattle.std.proofs.lemmas.List.Sums.{fold_push}
use Rattle.cnf_core.specs.declared.log.LogLine.{LogLine}
use Rattle.cnf_core.specs.Derivations.{is_empty}
use Rattle.net_core.specs.Sides.{Graphs}
use Rattle.account_core.specs.declared.conclusion.Conclusion.TheVariants as conclusion
use Rattle.account_core.specs.declared.fact.FactHead.TheVariants as head
use Rattle.account_file.specs.declared.place.Place.{Place}
use Rattle.account_file.specs.declared.record.Record.{Record}
use Rattle.account_file.specs.declared.record.Record.TheVariants as record_of
use Rattle.account_file.specs.Order.{place_after, place_after_one, next_place}
use Rattle.account_file.proofs.OrderLemmas.{none_stays}
use Rattle.account_check.specs.Logs.{OpenFact}
use Rattle.account_check.specs.Accounts.{Account, AreValid, HasFault, account_after, after, rest_after_line, empty_account}
use Rattle.std.proofs.lemmas.Option.{same_Some, none-some}

-- one record more
pub account_after-push : (graphs : Graphs) (records : List Record) (entry : Record) → account_after graphs (records ++ entry ∷ []) ≡ after (account_after graphs records) entry
account_after-push graphs records entry = fold_push after (empty_account graphs) records entry

-- what is so before the first record, and with each valid record more, is so after valid records
pub valid_records : (graphs : Graphs) (P : List Record → Type 0) → P [] → ((before : List Record) (entry : Record) → P before → HasFault (account_after graphs before) entry None → P (before ++ entry ∷ [])) → (records : List Record) → AreValid graphs records → P records
valid_records graphs P first more records valid = subst P (take-length records) (up_to (length records) (omega arith))
  where
    up_to : (n : ℕ) → n ≤ length records → P (take n records)
    up_to zero within = first
    up_to (suc n) within =
        let entry = get_or records n record_of.Header in
        subst P (sym (take-suc records n record_of.Header within)) (more (take n records) entry (up_to n (omega (arith, within))) (valid n record_of.Header within))

-- the circuits stay
if_graphs : (b : Bool) (x y : Account) (graphs : Graphs) → x.graphs ≡ graphs → y.graphs ≡ graphs → (if b then x else y).graphs ≡ graphs
if_graphs true x y graphs first second = first
if_graphs false x y graphs first second = second

line_graphs : (account : Account) (fact : Option OpenFact) (line : LogLine) → (rest_after_line account fact line).graphs ≡ account.graphs
line_graphs account None line = refl
line_graphs account (Some fact) line = if_graphs (is_empty line.clause) _ _ account.graphs refl refl

pub after_graphs : (account : Account) (entry : Record) → (after account entry).graphs ≡ account.graphs
after_graphs account (record_of.Fact (head.Fails claim bits)) = refl
after_graphs account (record_of.Line line) = line_graphs account account.fact line
after_graphs account (record_of.Conclusion conclusion.NonePorts) = refl
after_graphs account other = refl

graphs_stay : (account : Account) (records : List Record) → (fold after account records).graphs ≡ account.graphs
graphs_stay account [] = refl
graphs_stay account (entry ∷ records) = graphs_stay (after account entry) records ∙ after_graphs account entry

pub account_graphs : (graphs : Graphs) (records : List Record) → (account_after graphs records).graphs ≡ graphs
account_graphs graphs records = graphs_stay (empty_account graphs) records

places_follow : (account : Account) (records : List Record) (place : Place) → fold place_after_one (Some account.place) records ≡ Some place → (fold after account records).place ≡ place
places_follow account [] place e = same_Some account.place place e
places_follow account (entry ∷ records) place e =
    by (next_place account.place entry) refl (places_follow (after account entry) records place)
  where
    by : (o : Option Place) → next_place account.place entry ≡ o → (fold place_after_one (Some (after account entry).place) records ≡ Some place → (fold after account (entry ∷ records)).place ≡ place) → (fold after account (entry ∷ records)).place ≡ place
    by None is go =
        absurd (none-some place (sym (none_stays records) ∙ (ap (λ o. fold place_after_one o records) (sym is) ∙ e)))
    by (Some p) is go =
        let there : (after account entry).place ≡ p = ap (λ o. unwrap_or o account.place) is in
        go (ap (λ q. fold place_after_one (Some q) records) there ∙ (ap (λ o. fold place_after_one o records) (sym is) ∙ e))

pub account_place : (graphs : Graphs) (records : List Record) (place : Place) → place_after records ≡ Some place → (account_after graphs records).place ≡ place
account_place graphs records place e = places_follow (empty_account graphs) records place e
