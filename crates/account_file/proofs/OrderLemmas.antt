-- Where an account stands after one record more, and what its places say.
use Rattle.std.proofs.Common.{◌≡◌, ℕ, eqb, Bool, true, false, cond, List, [], ◌∷◌, ◌++◌, take, drop, fold, Option, Some, None, IsSome, refl, sym, ap, subst, ◌∙◌, take-append-drop}
use Rattle.std.proofs.lemmas.Bool.{false≢true}
use Rattle.std.proofs.lemmas.List.Sums.{fold_push, fold-append}
use Rattle.cnf_core.specs.declared.literal.SatLit.{SatLit}
use Rattle.account_core.specs.declared.fact.FactHead.TheVariants.{Fails}
use Rattle.account_file.specs.declared.record.Record.{Record}
use Rattle.account_file.specs.declared.record.Record.TheVariants as record_of
use Rattle.account_file.specs.declared.place.Place.{Place}
use Rattle.account_file.specs.declared.place.Place.TheVariants.{Start, Headed, FactLog, Logs, Ended}
use Rattle.account_file.specs.Order.{logs_after, place_in_log, next_place, place_after_one, place_after, AreInOrder}

pub place_after-push : (records : List Record) (entry : Record) → place_after (records ++ entry ∷ []) ≡ place_after_one (place_after records) entry
place_after-push records entry = fold_push place_after_one (Some Start) records entry

pub place_after_last : (records : List Record) (entry : Record) (place : Place) → place_after records ≡ Some place → place_after (records ++ entry ∷ []) ≡ next_place place entry
place_after_last records entry place e = place_after-push records entry ∙ ap (λ p. place_after_one p entry) e

-- no order comes after none
pub none_stays : (records : List Record) → fold place_after_one None records ≡ None
none_stays [] = refl
none_stays (entry ∷ records) = none_stays records

-- records in front of records that are in order
pub front_in_order : (records more : List Record) → AreInOrder (records ++ more) → AreInOrder records
front_in_order records more all = by (place_after records) refl
  where
    by : (p : Option Place) → place_after records ≡ p → AreInOrder records
    by None e =
        let none : place_after (records ++ more) ≡ None = fold-append place_after_one (Some Start) records more ∙ ap (λ p. fold place_after_one p more) e ∙ none_stays more in
        absurd (false≢true (subst IsSome none all))
    by (Some place) e = subst IsSome (sym e) refl

pub take_in_order : (k : ℕ) (records : List Record) → AreInOrder records → AreInOrder (take k records)
take_in_order k records all = front_in_order (take k records) (drop k records) (subst AreInOrder (sym (take-append-drop k records)) all)

-- where records are in order, there is a place after them
pub place_there : (records : List Record) → AreInOrder records → (place : Place) × (place_after records ≡ Some place)
place_there records all = by (place_after records) refl
  where
    by : (p : Option Place) → place_after records ≡ p → (place : Place) × (place_after records ≡ Some place)
    by None e = absurd (false≢true (subst IsSome e all))
    by (Some place) e = (place, e)

-- after a record nothing starts
not_start : (place : Place) (entry : Record) → next_place place entry ≡ Some Start → ⊥
not_start (Logs logs) (record_of.Line line) e = by (eqb logs 0) e
  where
    by : (b : Bool) → cond b None (Some (Logs (logs_after logs line.clause))) ≡ Some Start → ⊥
    by true e = cc
    by false e = cc
not_start (Logs logs) record_of.End e = by (eqb logs 0) e
  where
    by : (b : Bool) → cond b (Some Ended) None ≡ Some Start → ⊥
    by true e = cc
    by false e = cc
not_start Start record_of.Header e = cc
not_start Headed (record_of.Fact (Fails claim bits)) e = cc
not_start FactLog (record_of.Line line) e = by line.clause e
  where
    by : (clause : List SatLit) → Some (place_in_log clause) ≡ Some Start → ⊥
    by [] e = cc
    by (literal ∷ clause) e = cc
not_start place entry e = cc

starts_with_nothing : (records : List Record) (place : Place) → fold place_after_one (Some place) records ≡ Some Start → (records ≡ []) × (place ≡ Start)
starts_with_nothing [] place e = (refl, cc)
starts_with_nothing (entry ∷ records) place e = by (next_place place entry) refl (λ next rest. (starts_with_nothing records next rest).1)
  where
    by : (p : Option Place) → next_place place entry ≡ p → ((next : Place) → fold place_after_one (Some next) records ≡ Some Start → next ≡ Start) → (entry ∷ records ≡ []) × (place ≡ Start)
    by None is first =
        let none : None ≡ Some Start = sym (ap (λ p. fold place_after_one p records) is ∙ none_stays records) ∙ e in
        absurd (let no : ⊥ = cc in no)
    by (Some next) is first = absurd (not_start place entry (is ∙ ap Some (first next (sym (ap (λ p. fold place_after_one p records) is) ∙ e))))

pub at_start : (records : List Record) → place_after records ≡ Some Start → records ≡ []
at_start records e = (starts_with_nothing records Start e).0
