-- Records with drops, and without, may stand where they do.
use Rattle.std.proofs.Common.{◌≡◌, ◌⊎◌, ℕ, ◌<◌, ◌+◌, ◌||◌, ◌&&◌, not, eqb, Bool, true, false, cond, List, [], ◌∷◌, ◌++◌, fold, map, Option, None, Some, refl, sym, ap, ◌∙◌, inl, inr, arith}
use Rattle.std.specs.List.{flat_map}
use Rattle.std.proofs.lemmas.Bool.Decides.{eqb_tells}
use Rattle.std.proofs.lemmas.List.Sums.{fold-append}
use Rattle.cnf_core.specs.declared.literal.SatLit.{SatLit}
use Rattle.cnf_core.specs.Derivations.{is_empty}
use Rattle.account_core.specs.declared.fact.FactHead.TheVariants.{Fails, Holds}
use Rattle.account_file.specs.declared.place.Place.{Place}
use Rattle.account_file.specs.declared.place.Place.TheVariants.{Start, Headed, FactLog, Logs, Ended}
use Rattle.account_file.specs.declared.record.Record.{Record}
use Rattle.account_file.specs.declared.record.Record.TheVariants as record_of
use Rattle.account_file.specs.Order.{HaveEnded, next_place, place_after_one, place_in_log}
use Rattle.account_file.proofs.OrderLemmas.{none_stays}
use Rattle.account_convert.specs.Conversions.{bans_in, drops_after, facts_in, gives_ban, gives_fact, is_among, is_conclusion, last_named, one_if, with_drops, with_drops_from, without_drops}
use Rattle.account_convert.proofs.TableLemmas.{filter_none}

-- before the conclusion
abbrev pub IsOpen : Place → Type 0
IsOpen Start = Unit {0}
IsOpen Headed = Unit {0}
IsOpen FactLog = Unit {0}
IsOpen (Logs logs) = ⊥
IsOpen Ended = ⊥

abbrev pub place_from : Option Place → List Record → Option Place
place_from place records = fold place_after_one place records

drops_stay : (facts bans : List ℕ) → place_from (Some Headed) (map record_of.DropFact facts ++ map record_of.DropBan bans) ≡ Some Headed
drops_stay [] [] = refl
drops_stay [] (ban ∷ bans) = drops_stay [] bans
drops_stay (fact ∷ facts) bans = drops_stay facts bans

-- what a record neither gives nor names it isn't the last to name
pub none_last : (count : ℕ) (later : List ℕ) → last_named count false [] later ≡ []
none_last count later = filter_none (λ number. (eqb number count || false) && not (is_among later number)) 0 (count + one_if false) (λ f low high. no f (omega (arith, high)))
  where
    no : (f : ℕ) → f < count → ((eqb f count || false) && not (is_among later f)) ≡ false
    no f below = elim (eqb_tells f count) [
      | inl (test, e) ↦ absurd (omega (arith, e, below))
      | inr (test, other) ↦ ap (λ b. (b || false) && not (is_among later f)) test
    ]

pub none_due : (facts bans : ℕ) (later_facts later_bans : List ℕ) → map record_of.DropFact (last_named facts false [] later_facts) ++ map record_of.DropBan (last_named bans false [] later_bans) ≡ []
none_due facts bans later_facts later_bans =
    ap (λ fs. map record_of.DropFact fs ++ map record_of.DropBan (last_named bans false [] later_bans)) (none_last facts later_facts)
    ∙ ap (map record_of.DropBan) (none_last bans later_bans)

-- where a record leads that isn't the conclusion: nowhere, to where drops may stand, or into a log, and then none is due
abbrev Leads : Option Place → List Record → Type 0
Leads place drops = (place ≡ None) ⊎ ((place ≡ Some Headed) × (place_from (Some Headed) drops ≡ Some Headed)) ⊎ ((place ≡ Some FactLog) × (drops ≡ []))

line_leads : (clause : List SatLit) (facts bans : ℕ) (later_facts later_bans : List ℕ) → Leads (Some (place_in_log clause)) (map record_of.DropFact (last_named facts (is_empty clause) [] later_facts) ++ map record_of.DropBan (last_named bans false [] later_bans))
line_leads [] facts bans later_facts later_bans = inr (inl (refl, drops_stay (last_named facts true [] later_facts) (last_named bans false [] later_bans)))
line_leads (literal ∷ clause) facts bans later_facts later_bans = inr (inr (refl, none_due facts bans later_facts later_bans))

leads : (place : Place) (entry : Record) (facts bans : ℕ) (later : List Record) → is_conclusion entry ≡ false → IsOpen place → Leads (next_place place entry) (drops_after facts bans entry later)
leads Start record_of.Header facts bans later e open' = inr (inl (refl, drops_stay (last_named facts false [] (flat_map facts_in later)) (last_named bans false [] (flat_map bans_in later))))
leads Headed (record_of.Fact (Fails claim bits)) facts bans later e open' = inr (inl (refl, drops_stay (last_named facts true [] (flat_map facts_in later)) (last_named bans false [] (flat_map bans_in later))))
leads Headed (record_of.Fact (Holds claim)) facts bans later e open' = inr (inr (refl, none_due facts bans (flat_map facts_in later) (flat_map bans_in later)))
leads Headed (record_of.Ban ban) facts bans later e open' = inr (inl (refl, drops_stay (last_named facts false (facts_in (record_of.Ban ban)) (flat_map facts_in later)) (last_named bans true (bans_in (record_of.Ban ban)) (flat_map bans_in later))))
leads Headed (record_of.DropFact fact) facts bans later e open' = inr (inl (refl, drops_stay (last_named facts false [] (flat_map facts_in later)) (last_named bans false [] (flat_map bans_in later))))
leads Headed (record_of.DropBan ban) facts bans later e open' = inr (inl (refl, drops_stay (last_named facts false [] (flat_map facts_in later)) (last_named bans false [] (flat_map bans_in later))))
leads Headed (record_of.Conclusion conclusion) facts bans later e open' = absurd (let no : true ≡ false = e in let none : ⊥ = cc in none)
leads FactLog (record_of.Line line) facts bans later e open' = line_leads line.clause facts bans (flat_map facts_in later) (flat_map bans_in later)
leads (Logs logs) entry facts bans later e open' = absurd open'
leads Ended entry facts bans later e open' = absurd open'
leads place entry facts bans later e open' = inl refl

onward : (place : Option Place) (drops others later : List Record) → Leads place drops
    → ((next : Place) → IsOpen next → place_from (Some next) others ≡ place_from (Some next) later)
    → place_from place (drops ++ others) ≡ place_from place later
onward place drops others later (inl none) go =
    ap (λ p. place_from p (drops ++ others)) none ∙ (none_stays (drops ++ others) ∙ (sym (none_stays later) ∙ ap (λ p. place_from p later) (sym none)))
onward place drops others later (inr (inl (headed, stays))) go =
    ap (λ p. place_from p (drops ++ others)) headed
    ∙ (fold-append place_after_one (Some Headed) drops others
    ∙ (ap (λ p. place_from p others) stays
    ∙ (go Headed tt
    ∙ ap (λ p. place_from p later) (sym headed))))
onward place drops others later (inr (inr (in_log, none))) go =
    ap (λ p. place_from p (drops ++ others)) in_log
    ∙ (ap (λ l. place_from (Some FactLog) (l ++ others)) none
    ∙ (go FactLog tt
    ∙ ap (λ p. place_from p later) (sym in_log)))

with_drops_place : (records : List Record) (place : Place) (facts bans : ℕ) → IsOpen place → place_from (Some place) (with_drops_from facts bans records) ≡ place_from (Some place) records
with_drops_place [] place facts bans open' = refl
with_drops_place (entry ∷ later) place facts bans open' = by (is_conclusion entry) refl (λ next_facts next_bans next is_open. with_drops_place later next next_facts next_bans is_open)
  where
    others : List Record
    others = with_drops_from (facts + one_if (gives_fact entry)) (bans + one_if (gives_ban entry)) later

    by : (b : Bool) → is_conclusion entry ≡ b
        → ((next_facts next_bans : ℕ) (next : Place) → IsOpen next → place_from (Some next) (with_drops_from next_facts next_bans later) ≡ place_from (Some next) later)
        → place_from (Some place) (with_drops_from facts bans (entry ∷ later)) ≡ place_from (Some place) (entry ∷ later)
    by true e go = ap (λ c. place_from (Some place) (cond c (entry ∷ later) ((entry ∷ drops_after facts bans entry later) ++ others))) e
    by false e go =
        ap (λ c. place_from (Some place) (cond c (entry ∷ later) ((entry ∷ drops_after facts bans entry later) ++ others))) e
        ∙ onward (next_place place entry) (drops_after facts bans entry later) others later (leads place entry facts bans later e open')
        (go (facts + one_if (gives_fact entry)) (bans + one_if (gives_ban entry)))

pub with_drops_ended : (records : List Record) → HaveEnded records → HaveEnded (with_drops records)
with_drops_ended records ended = with_drops_place records Start 0 0 tt ∙ ended

-- a drop leads nowhere else
drop_fact_place : (place : Option Place) (fact : ℕ) → (place_after_one place (record_of.DropFact fact) ≡ place) ⊎ (place_after_one place (record_of.DropFact fact) ≡ None)
drop_fact_place None fact = inl refl
drop_fact_place (Some Headed) fact = inl refl
drop_fact_place (Some Start) fact = inr refl
drop_fact_place (Some FactLog) fact = inr refl
drop_fact_place (Some (Logs logs)) fact = inr refl
drop_fact_place (Some Ended) fact = inr refl

drop_ban_place : (place : Option Place) (ban : ℕ) → (place_after_one place (record_of.DropBan ban) ≡ place) ⊎ (place_after_one place (record_of.DropBan ban) ≡ None)
drop_ban_place None ban = inl refl
drop_ban_place (Some Headed) ban = inl refl
drop_ban_place (Some Start) ban = inr refl
drop_ban_place (Some FactLog) ban = inr refl
drop_ban_place (Some (Logs logs)) ban = inr refl
drop_ban_place (Some Ended) ban = inr refl

passed_over : (next place : Option Place) (records : List Record) → (next ≡ place) ⊎ (next ≡ None) → place_from next records ≡ Some Ended → place_from place records ≡ Some Ended
passed_over next place records (inl same) e = ap (λ p. place_from p records) (sym same) ∙ e
passed_over next place records (inr none) e = absurd (let no : None ≡ Some Ended = sym (ap (λ p. place_from p records) none ∙ none_stays records) ∙ e in let never : ⊥ = cc in never)

without_drops_place : (records : List Record) (place : Option Place) → place_from place records ≡ Some Ended → place_from place (without_drops records) ≡ Some Ended
without_drops_place [] place e = e
without_drops_place (record_of.Header ∷ records) place e = without_drops_place records (place_after_one place record_of.Header) e
without_drops_place (record_of.Fact head ∷ records) place e = without_drops_place records (place_after_one place (record_of.Fact head)) e
without_drops_place (record_of.Line line ∷ records) place e = without_drops_place records (place_after_one place (record_of.Line line)) e
without_drops_place (record_of.Ban ban ∷ records) place e = without_drops_place records (place_after_one place (record_of.Ban ban)) e
without_drops_place (record_of.Conclusion conclusion ∷ records) place e = without_drops_place records (place_after_one place (record_of.Conclusion conclusion)) e
without_drops_place (record_of.End ∷ records) place e = without_drops_place records (place_after_one place record_of.End) e
without_drops_place (record_of.DropFact fact ∷ records) place e = without_drops_place records place (passed_over (place_after_one place (record_of.DropFact fact)) place records (drop_fact_place place fact) e)
without_drops_place (record_of.DropBan ban ∷ records) place e = without_drops_place records place (passed_over (place_after_one place (record_of.DropBan ban)) place records (drop_ban_place place ban) e)

pub without_drops_ended : (records : List Record) → HaveEnded records → HaveEnded (without_drops records)
without_drops_ended records ended = without_drops_place records (Some Start) ended
