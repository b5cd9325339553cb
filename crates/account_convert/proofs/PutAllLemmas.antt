-- All records of an account with drops of what no later record names.
use Rattle.std.proofs.Common.{◌≡◌, ◌⊎◌, ℕ, ◌+◌, ◌<◌, ◌||◌, ◌&&◌, eqb, not, Bool, true, false, cond, List, [], ◌∷◌, ◌++◌, length, fold, map, get_or, All, Option, None, Some, IsSome, refl, sym, ap, subst, ◌∙◌, inl, inr, arith, length-append, append_assoc}
use Rattle.std.specs.Prelude.{unwrap_or}
use Rattle.std.specs.List.{flat_map, range_with_len}
use Rattle.std.proofs.lemmas.Bool.Decides.{eqb_tells}
use Rattle.std.proofs.lemmas.List.Elements.{All-filter, All-head, All-tail, filter_passes}
use Rattle.std.proofs.lemmas.List.FromFn.{get_or-range_with_len, length-range_with_len}
use Rattle.std.proofs.lemmas.Option.{same_Some}
use Rattle.circuits.specs.declared.port.Pair.{Pair}
use Rattle.cnf_core.specs.declared.literal.SatLit.{SatLit}
use Rattle.cnf_core.specs.declared.log.LogLine.{LogLine}
use Rattle.cnf_core.specs.Derivations.{is_empty}
use Rattle.net_core.specs.Sides.{Graphs}
use Rattle.account_core.specs.declared.fact.FactHead.TheVariants as head
use Rattle.account_core.specs.Ports.{HaveAsMany}
use Rattle.account_file.specs.declared.place.Place.{Place}
use Rattle.account_file.specs.declared.place.Place.TheVariants.{Start, Headed, FactLog, Logs, Ended}
use Rattle.account_file.specs.declared.record.Record.{Record}
use Rattle.account_file.specs.declared.record.Record.TheVariants as entry_of
use Rattle.account_file.specs.Order.{next_place, place_in_log}
use Rattle.account_file.proofs.OrderLemmas.{none_stays}
use Rattle.account_check.specs.Accounts.{Account, HasFault, after, empty_account, rest_after_line, verdict_of}
use Rattle.account_check.specs.Drops.{Dropped, IsUnmarked, nothing_dropped}
use Rattle.account_check.specs.Logs.{OpenFact}
use Rattle.account_check.proofs.AccountLemmas.{after_graphs}
use Rattle.account_check.proofs.TestLemmas.{through}
use Rattle.account_convert.specs.Conversions.{bans_in, drops_after, facts_in, gives_ban, gives_fact, is_among, is_conclusion, is_drop, last_named, one_if, with_drops, with_drops_from}
use Rattle.account_convert.proofs.DropLemmas.{HaveNoDrops}
use Rattle.account_convert.proofs.MoveLemmas.{AreKept, after_but, bans_with, but, closed, fine_with, opened}
use Rattle.account_convert.proofs.PlaceLemmas.{IsOpen, none_last, place_from}
use Rattle.account_convert.proofs.PutLemmas.{AreApart, AreDue, agree_first, all_marked, apart_back, apart_front, bans_go, bans_out, copied, due_filter, entry_apart, facts_go, facts_out, forgotten, forgotten_kept, is_marked, marked_back}
use Rattle.account_convert.proofs.StripLemmas.{Agrees, ValidFrom, kept_more}

-- a log that is open is a fact's, and the circuits have the same numbers of ports
abbrev pub HasLog : Place → Option OpenFact → Graphs → Type 0
HasLog FactLog fact graphs = IsSome fact × HaveAsMany graphs.first graphs.second
HasLog other fact graphs = Unit {0}

-- What is so of an account before records, with what was dropped.
record IsUnder (account : Account) (bans others : List (List Pair)) (dropped : Dropped) (facts_count bans_count : ℕ) (records : List Record) : Type 0 where
  pub kept : AreKept bans others dropped.bans
  pub facts_are : facts_count ≡ length account.given.facts
  pub bans_are : bans_count ≡ length bans
  pub facts_below : (fact : ℕ) → is_marked dropped.facts fact ≡ true → fact < facts_count
  pub bans_below : (ban : ℕ) → is_marked dropped.bans ban ≡ true → ban < bans_count
  pub facts_apart : AreApart dropped.facts (flat_map facts_in records)
  pub bans_apart : AreApart dropped.bans (flat_map bans_in records)
  pub is_open : IsOpen account.place
  pub log : HasLog account.place account.fact account.graphs

-- a record that gives and names nothing
record NamesNothing (entry : Record) : Type 0 where
  pub no_fact : gives_fact entry ≡ false
  pub no_ban : gives_ban entry ≡ false
  pub no_facts : facts_in entry ≡ []
  pub no_bans : bans_in entry ≡ []

-- What a record before the conclusion does to an account.
record StepsOn (account : Account) (entry : Record) (next : Place) : Type 0 where
  pub is_open : IsOpen next
  pub log : HasLog next (after account entry).fact account.graphs
  pub facts : length (after account entry).given.facts ≡ length account.given.facts + one_if (gives_fact entry)
  pub ports : HaveAsMany account.graphs.first account.graphs.second ⊎ NamesNothing entry

-- a fact more is given where the log was closed, and else it stays open
abbrev LineOn : Account → Account → Bool → Type 0
LineOn before now is_closed = (length now.given.facts ≡ length before.given.facts + one_if is_closed) × (is_closed ≡ false → IsSome now.fact)

line_on : (account : Account) (fact : Option OpenFact) (line : LogLine) (b : Bool) → is_empty line.clause ≡ b → IsSome fact → LineOn account (rest_after_line account fact line) b
line_on account None line b e some = absurd (let never : ⊥ = cc in never)
line_on account (Some fact) line b e some =
    subst (λ c. LineOn account (cond c (closed account fact) (opened account fact line)) b) (sym e) (by b)
  where
    by : (c : Bool) → LineOn account (cond c (closed account fact) (opened account fact line)) c
    by true = (length-append account.given.facts _, λ full. absurd (let clash : true ≡ false = full in let never : ⊥ = cc in never))
    by false = (omega arith, λ open_still. refl)

log_place : (clause : List SatLit) (fact : Option OpenFact) (graphs : Graphs) → HaveAsMany graphs.first graphs.second → (is_empty clause ≡ false → IsSome fact) → IsOpen (place_in_log clause) × HasLog (place_in_log clause) fact graphs
log_place [] fact graphs ports some = (tt, tt)
log_place (literal ∷ clause) fact graphs ports some = (tt, (some refl, ports))

at_headed : (account : Account) (entry : Record) (next : Place) → Some Headed ≡ Some next
    → length (after account entry).given.facts ≡ length account.given.facts + one_if (gives_fact entry)
    → HaveAsMany account.graphs.first account.graphs.second ⊎ NamesNothing entry
    → StepsOn account entry next
at_headed account entry next e facts ports =
    let same = same_Some Headed next e in
    record {
      is_open = subst IsOpen same tt;
      log = subst (λ p. HasLog p (after account entry).fact account.graphs) same tt;
      facts = facts;
      ports = ports;
    }

plus_none : (n : ℕ) → n ≡ n + 0
plus_none n = omega arith

steps_on : (account : Account) (bans : List (List Pair)) (entry : Record) (place next : Place) → IsOpen place → HasLog place account.fact account.graphs → is_conclusion entry ≡ false → is_drop entry ≡ false
    → next_place place entry ≡ Some next → HasFault (but account bans nothing_dropped) entry None → StepsOn account entry next
steps_on account bans entry_of.Header Start next is_open log more none e fine = at_headed account entry_of.Header next e (plus_none (length account.given.facts)) (inr (record { no_fact = refl; no_ban = refl; no_facts = refl; no_bans = refl }))
steps_on account bans (entry_of.Fact (head.Fails claim bits)) Headed next is_open log more none e fine = at_headed account (entry_of.Fact (head.Fails claim bits)) next e (length-append account.given.facts _) (inl (through fine).0)
steps_on account bans (entry_of.Ban ban) Headed next is_open log more none e fine = at_headed account (entry_of.Ban ban) next e (plus_none (length account.given.facts)) (inl (through fine).0)
steps_on account bans (entry_of.Fact (head.Holds claim)) Headed next is_open log more none e fine =
    let same = same_Some FactLog next e in
    let ports = (through fine).0 in
    let entry = entry_of.Fact (head.Holds claim) in
    record {
      is_open = subst IsOpen same tt;
      log = subst (λ p. HasLog p (after account entry).fact account.graphs) same (refl, ports);
      facts = plus_none (length account.given.facts);
      ports = inl ports;
    }
steps_on account bans (entry_of.Line line) FactLog next is_open log more none e fine =
    let same = same_Some (place_in_log line.clause) next e in
    let on = line_on account account.fact line (is_empty line.clause) refl log.0 in
    let there = log_place line.clause (rest_after_line account account.fact line).fact account.graphs log.1 on.1 in
    record {
      is_open = subst IsOpen same there.0;
      log = subst (λ p. HasLog p (rest_after_line account account.fact line).fact account.graphs) same there.1;
      facts = on.0;
      ports = inl log.1;
    }
steps_on account bans (entry_of.Conclusion conclusion) place next is_open log more none e fine = absurd (let no : true ≡ false = more in let never : ⊥ = cc in never)
steps_on account bans (entry_of.DropFact fact) place next is_open log more none e fine = absurd (let no : true ≡ false = none in let never : ⊥ = cc in never)
steps_on account bans (entry_of.DropBan ban) place next is_open log more none e fine = absurd (let no : true ≡ false = none in let never : ⊥ = cc in never)
steps_on account bans entry (Logs logs) next is_open log more none e fine = absurd is_open
steps_on account bans entry Ended next is_open log more none e fine = absurd is_open
steps_on account bans entry place next is_open log more none e fine = absurd (let never : ⊥ = cc in never)

-- the numbers that a record is the last to name, where what was dropped is apart

module _ (marks : List Bool) (count : ℕ) (gives : Bool) (names later : List ℕ) (below : (number : ℕ) → is_marked marks number ≡ true → number < count) (apart : AreApart marks (names ++ later)) where
  test : ℕ → Bool
  test number = (eqb number count || is_among names number) && not (is_among later number)

  tested : (number : ℕ) → ((eqb number count || is_among names number) && not (is_among later number)) ≡ true → is_among later number ≡ false
  tested number is = by (eqb number count || is_among names number) (is_among later number) is
    where
      by : (b c : Bool) → (b && not c) ≡ true → c ≡ false
      by true true e = absurd (let no : false ≡ true = e in let never : ⊥ = cc in never)
      by true false e = refl
      by false c e = absurd (let no : false ≡ true = e in let never : ⊥ = cc in never)

  unmarked : (number : ℕ) → ((eqb number count || is_among names number) && not (is_among later number)) ≡ true → IsUnmarked marks number
  unmarked number is = by (is_marked marks number) refl
    where
      by : (b : Bool) → is_marked marks number ≡ b → is_marked marks number ≡ false
      by false e = e
      by true e =
          let other : eqb number count ≡ false = elim (eqb_tells number count) [ inl (t, same) ↦ absurd (omega (arith, same, below number e)) | inr (t, unlike) ↦ t ] in
          let away = apart_front marks names later apart number e in
          let not_tested : ((eqb number count || is_among names number) && not (is_among later number)) ≡ false = ap (λ b. (b || is_among names number) && not (is_among later number)) other ∙ ap (λ b. b && not (is_among later number)) away in
          let clash : false ≡ true = sym not_tested ∙ is in
          absurd (let never : ⊥ = cc in never)

  pub due_there : AreDue (count + one_if gives) marks 0 (last_named count gives names later)
  due_there = due_filter (count + one_if gives) marks (λ number. (eqb number count || is_among names number) && not (is_among later number)) 0 (count + one_if gives) (λ f within is. (omega (arith, within), unmarked f is))

  -- after them what is marked was given, and no later record names it
  pub marks_after : (number : ℕ) → is_marked (all_marked marks (last_named count gives names later)) number ≡ true → (number < count + one_if gives) × (is_among later number ≡ false)
  marks_after number is = elim (marked_back marks (last_named count gives names later) (λ n. (n < count + one_if gives) × (is_among later n ≡ false)) each number is) [
    | inl before ↦ (omega (arith, below number before), apart_back marks names later apart number before)
    | inr p ↦ p
  ]
    where
      range : List ℕ
      range = range_with_len 0 (count + one_if gives)

      in_range : All (λ n. n < count + one_if gives) (range_with_len 0 (count + one_if gives))
      in_range k d within = omega (arith, within, length-range_with_len 0 (count + one_if gives), get_or-range_with_len 0 (count + one_if gives) k d (omega (arith, within, length-range_with_len 0 (count + one_if gives))))

      each : (k d : ℕ) → k < length (last_named count gives names later) → (get_or (last_named count gives names later) k d < count + one_if gives) × (is_among later (get_or (last_named count gives names later) k d) ≡ false)
      each k d within = (
        All-filter (λ n. (eqb n count || is_among names n) && not (is_among later n)) (λ n. n < count + one_if gives) (range_with_len 0 (count + one_if gives)) in_range k d within,
        tested (get_or (last_named count gives names later) k d) (filter_passes (λ n. (eqb n count || is_among names n) && not (is_among later n)) (range_with_len 0 (count + one_if gives)) k d within),
      )

bans_length : (bans : List (List Pair)) (entry : Record) → length (bans_with bans entry) ≡ length bans + one_if (gives_ban entry)
bans_length bans (entry_of.Ban ban) = length-append bans (ban.pairs ∷ [])
bans_length bans entry_of.Header = plus_none (length bans)
bans_length bans (entry_of.Fact given) = plus_none (length bans)
bans_length bans (entry_of.Line line) = plus_none (length bans)
bans_length bans (entry_of.Conclusion conclusion) = plus_none (length bans)
bans_length bans entry_of.End = plus_none (length bans)
bans_length bans (entry_of.DropFact fact) = plus_none (length bans)
bans_length bans (entry_of.DropBan ban) = plus_none (length bans)

last_none : (count : ℕ) (gives : Bool) (names later : List ℕ) → gives ≡ false → names ≡ [] → last_named count gives names later ≡ []
last_none count gives names later gives_none none = ap (λ g. last_named count g names later) gives_none ∙ (ap (λ ns. last_named count false ns later) none ∙ none_last count later)

-- a record that isn't the conclusion, and the drops after it
module _ (account : Account) (bans others : List (List Pair)) (dropped : Dropped) (facts_count bans_count : ℕ) (entry : Record) (later : List Record) (under : IsUnder account bans others dropped facts_count bans_count (entry ∷ later)) where
  abbrev facts_due : List ℕ
  facts_due = last_named facts_count (gives_fact entry) (facts_in entry) (flat_map facts_in later)

  abbrev bans_due : List ℕ
  bans_due = last_named bans_count (gives_ban entry) (bans_in entry) (flat_map bans_in later)

  abbrev dropped_then : Dropped
  dropped_then = bans_out (facts_out dropped (last_named facts_count (gives_fact entry) (facts_in entry) (flat_map facts_in later))) (last_named bans_count (gives_ban entry) (bans_in entry) (flat_map bans_in later))

  abbrev others_then : List (List Pair)
  others_then = forgotten (bans_with others entry) (last_named bans_count (gives_ban entry) (bans_in entry) (flat_map bans_in later))

  under_then : (next : Place) → next_place account.place entry ≡ Some next → StepsOn account entry next
      → IsUnder (after account entry) (bans_with bans entry) others_then dropped_then (facts_count + one_if (gives_fact entry)) (bans_count + one_if (gives_ban entry)) later
  under_then next e on =
      let there : (after account entry).place ≡ next = ap (λ o. unwrap_or o account.place) e in
      let facts_after = marks_after dropped.facts facts_count (gives_fact entry) (facts_in entry) (flat_map facts_in later) under.facts_below under.facts_apart in
      let bans_after = marks_after dropped.bans bans_count (gives_ban entry) (bans_in entry) (flat_map bans_in later) under.bans_below under.bans_apart in
      record {
        kept = forgotten_kept bans_due (bans_with bans entry) (bans_with others entry) dropped.bans (kept_more bans others dropped.bans entry under.kept);
        facts_are = omega (arith, under.facts_are, on.facts);
        bans_are = omega (arith, under.bans_are, bans_length bans entry);
        facts_below = λ fact is. (facts_after fact is).0;
        bans_below = λ ban is. (bans_after ban is).0;
        facts_apart = λ fact is. (facts_after fact is).1;
        bans_apart = λ ban is. (bans_after ban is).1;
        is_open = subst IsOpen (sym there) on.is_open;
        log = subst (λ p. HasLog p (after account entry).fact (after account entry).graphs) (sym there) (subst (HasLog next (after account entry).fact) (sym (after_graphs account entry)) on.log);
      }

  put_first : (next : Place) (rest : List Record) → is_conclusion entry ≡ false → is_drop entry ≡ false → next_place account.place entry ≡ Some next → StepsOn account entry next
      → HasFault (but account bans nothing_dropped) entry None
      → Agrees (but (after account entry) others_then dropped_then) rest (but (after account entry) (bans_with bans entry) nothing_dropped) later
      → Agrees (but account others dropped) ((entry ∷ drops_after facts_count bans_count entry later) ++ rest) (but account bans nothing_dropped) (entry ∷ later)
  put_first next rest more none e on fine go =
      let kept = entry_apart dropped entry (apart_front dropped.facts (facts_in entry) (flat_map facts_in later) under.facts_apart) (apart_front dropped.bans (bans_in entry) (flat_map bans_in later) under.bans_apart) in
      let fine_there = fine_with account bans others dropped entry under.kept none kept fine in
      let account_then = after account entry in
      let asked_facts : HaveAsMany account_then.graphs.first account_then.graphs.second ⊎ (facts_due ≡ []) = elim on.ports [
        | inl ports ↦ inl (subst (λ (g : Graphs). HaveAsMany g.first g.second) (sym (after_graphs account entry)) ports)
        | inr nothing ↦ inr (last_none facts_count (gives_fact entry) (facts_in entry) (flat_map facts_in later) nothing.no_fact nothing.no_facts)
      ] in
      let asked_bans : HaveAsMany account_then.graphs.first account_then.graphs.second ⊎ (bans_due ≡ []) = elim on.ports [
        | inl ports ↦ inl (subst (λ (g : Graphs). HaveAsMany g.first g.second) (sym (after_graphs account entry)) ports)
        | inr nothing ↦ inr (last_none bans_count (gives_ban entry) (bans_in entry) (flat_map bans_in later) nothing.no_ban nothing.no_bans)
      ] in
      let facts_there = due_there dropped.facts facts_count (gives_fact entry) (facts_in entry) (flat_map facts_in later) under.facts_below under.facts_apart in
      let bans_there = due_there dropped.bans bans_count (gives_ban entry) (bans_in entry) (flat_map bans_in later) under.bans_below under.bans_apart in
      let count_facts : facts_count + one_if (gives_fact entry) ≡ length account_then.given.facts = omega (arith, under.facts_are, on.facts) in
      let count_bans : bans_count + one_if (gives_ban entry) ≡ length (bans_with others entry) = omega (arith, under.bans_are, bans_length others entry, under.kept.as_many) in
      let second = bans_go bans_due 0 account_then (bans_with others entry) (facts_out dropped facts_due) rest asked_bans (subst (λ n. AreDue n dropped.bans 0 bans_due) count_bans bans_there) go.valid in
      let first = facts_go facts_due 0 account_then (bans_with others entry) dropped (map entry_of.DropBan bans_due ++ rest) asked_facts (subst (λ n. AreDue n dropped.facts 0 facts_due) count_facts facts_there) second.0 in
      let together = append_assoc (map entry_of.DropFact facts_due) (map entry_of.DropBan bans_due) rest in
      agree_first account bans others dropped entry (drops_after facts_count bans_count entry later ++ rest) later none fine_there (record {
        valid = subst (ValidFrom (but account_then (bans_with others entry) dropped)) (sym together) first.0;
        verdict = ap (λ l. verdict_of (fold after (but account_then (bans_with others entry) dropped) l)) together ∙ (ap verdict_of (first.1 ∙ second.1) ∙ go.verdict);
      })

put_in : (records : List Record) (account : Account) (bans others : List (List Pair)) (dropped : Dropped) (facts_count bans_count : ℕ)
    → IsUnder account bans others dropped facts_count bans_count records → HaveNoDrops records
    → place_from (Some account.place) records ≡ Some Ended
    → ValidFrom (but account bans nothing_dropped) records
    → Agrees (but account others dropped) (with_drops_from facts_count bans_count records) (but account bans nothing_dropped) records
put_in [] account bans others dropped facts_count bans_count under none ended valid = record { valid = tt; verdict = refl }
put_in (entry ∷ later) account bans others dropped facts_count bans_count under none ended valid =
    by (is_conclusion entry) refl (next_place account.place entry) refl
    (λ next there e on. put_in later (after account entry) (bans_with bans entry) (others_then account bans others dropped facts_count bans_count entry later under) (dropped_then account bans others dropped facts_count bans_count entry later under) (facts_count + one_if (gives_fact entry)) (bans_count + one_if (gives_ban entry))
    (under_then account bans others dropped facts_count bans_count entry later under next e on)
    (All-tail (λ r. is_drop r ≡ false) entry later none)
    (ap (λ p. place_from (Some p) later) there ∙ (ap (λ o. place_from o later) (sym e) ∙ ended))
    (subst (λ a. ValidFrom a later) (after_but account bans nothing_dropped entry here) valid.1))
  where
    here : is_drop entry ≡ false
    here = All-head (λ r. is_drop r ≡ false) entry later none

    by : (b : Bool) → is_conclusion entry ≡ b → (o : Option Place) → next_place account.place entry ≡ o
        → ((next : Place) → (after account entry).place ≡ next → next_place account.place entry ≡ Some next → StepsOn account entry next
        → Agrees (but (after account entry) (others_then account bans others dropped facts_count bans_count entry later under) (dropped_then account bans others dropped facts_count bans_count entry later under)) (with_drops_from (facts_count + one_if (gives_fact entry)) (bans_count + one_if (gives_ban entry)) later) (but (after account entry) (bans_with bans entry) nothing_dropped) later)
        → Agrees (but account others dropped) (with_drops_from facts_count bans_count (entry ∷ later)) (but account bans nothing_dropped) (entry ∷ later)
    by true e o to go =
        subst (λ b. Agrees (but account others dropped) (cond b (entry ∷ later) ((entry ∷ drops_after facts_count bans_count entry later) ++ with_drops_from (facts_count + one_if (gives_fact entry)) (bans_count + one_if (gives_ban entry)) later)) (but account bans nothing_dropped) (entry ∷ later)) (sym e)
        (copied (entry ∷ later) account bans others dropped under.kept none under.facts_apart under.bans_apart valid)
    by false e None to go =
        let never : None ≡ Some Ended = sym (ap (λ o. place_from o later) to ∙ none_stays later) ∙ ended in
        absurd (let no : ⊥ = cc in no)
    by false e (Some next) to go =
        let on = steps_on account bans entry account.place next under.is_open under.log e here to valid.0 in
        subst (λ b. Agrees (but account others dropped) (cond b (entry ∷ later) ((entry ∷ drops_after facts_count bans_count entry later) ++ with_drops_from (facts_count + one_if (gives_fact entry)) (bans_count + one_if (gives_ban entry)) later)) (but account bans nothing_dropped) (entry ∷ later)) (sym e)
        (put_first account bans others dropped facts_count bans_count entry later under next (with_drops_from (facts_count + one_if (gives_fact entry)) (bans_count + one_if (gives_ban entry)) later) e here to on valid.0
        (go next (ap (λ o. unwrap_or o account.place) to) to on))

none_marked : (number : ℕ) → is_marked [] number ≡ true → ⊥
none_marked number e = let no : false ≡ true = e in let never : ⊥ = cc in never

-- A whole account.
pub put_all : (graphs : Graphs) (records : List Record) → HaveNoDrops records → place_from (Some Start) records ≡ Some Ended
    → ValidFrom (empty_account graphs) records → Agrees (empty_account graphs) (with_drops records) (empty_account graphs) records
put_all graphs records none ended valid =
    put_in records (empty_account graphs) [] [] nothing_dropped 0 0 (record {
      kept = record { as_many = refl; same = λ ban unmarked. refl };
      facts_are = refl;
      bans_are = refl;
      facts_below = λ fact is. absurd (none_marked fact is);
      bans_below = λ ban is. absurd (none_marked ban is);
      facts_apart = λ fact is. absurd (none_marked fact is);
      bans_apart = λ ban is. absurd (none_marked ban is);
      is_open = tt;
      log = tt;
    }) none ended valid
