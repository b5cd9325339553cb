-- Records that are written with what is due are the records with drops.
use Rattle.std.proofs.Common.{◌≡◌, ℕ, ◌+◌, ◌<◌, ◌||◌, Bool, true, false, cond, List, [], ◌∷◌, ◌++◌, length, map, get_or, refl, sym, ap, ◌∙◌, arith, append-nil, append_assoc}
use Rattle.std.specs.List.{flat_map}
use Rattle.account_file.specs.declared.record.Record.{Record}
use Rattle.account_file.specs.declared.record.Record.TheVariants as record_of
use Rattle.account_convert.specs.declared.dues.Due.{Due}
use Rattle.account_convert.specs.Conversions.{bans_in, drops_after, facts_in, gives_ban, gives_fact, is_conclusion, last_named, one_if, with_drops, with_drops_from}
use Rattle.account_convert.specs.Tables.{AreDues, bans_after, bans_from, facts_after, facts_from}
use Rattle.account_convert.specs.Writing.{Queue, after_at, drops_due, first_at, queue_after, queue_from, written_from}
use Rattle.account_convert.proofs.TableLemmas.{after_length, given_later, numbers_last, stays_below}
use Rattle.account_convert.proofs.DueLemmas.{IsLeft, left_after, left_all, left_first}

-- after the conclusion nothing is due
written_concluded : (records : List Record) (record_number : ℕ) (queue : Queue) → queue.concluded ≡ true → written_from queue record_number records ≡ records
written_concluded [] record_number queue e = refl
written_concluded (entry ∷ later) record_number queue e =
    let due : drops_due queue record_number entry ≡ [] = ap (λ b. cond (b || is_conclusion entry) [] (map record_of.DropFact (first_at record_number queue.facts) ++ map record_of.DropBan (first_at record_number queue.bans))) e in
    let next : queue_after queue record_number entry ≡ ended queue = ap (λ b. cond (b || is_conclusion entry) (ended queue) (later_queue queue record_number)) e in
    ap (λ drops. (entry ∷ drops) ++ written_from (queue_after queue record_number entry) (record_number + 1) later) due
    ∙ (ap (λ q. entry ∷ written_from q (record_number + 1) later) next
    ∙ ap (λ l. entry ∷ l) (written_concluded later (record_number + 1) (ended queue) refl))
  where
    ended : Queue → Queue
    ended q = record { concluded = true; facts = q.facts; bans = q.bans }

    later_queue : Queue → ℕ → Queue
    later_queue q n = record { concluded = q.concluded; facts = after_at n q.facts; bans = after_at n q.bans }

abbrev Below : ℕ → List ℕ → Type 0
Below record_number table = (f : ℕ) → f < length table → get_or table f 0 < record_number

-- Before it what is due is what the tables say.
written_is : (records : List Record) (record_number : ℕ) (facts bans : List ℕ) (queue : Queue)
    → queue.concluded ≡ false → Below record_number facts → Below record_number bans
    → IsLeft (facts_from record_number facts records) record_number queue.facts
    → IsLeft (bans_from record_number bans records) record_number queue.bans
    → written_from queue record_number records ≡ with_drops_from (length facts) (length bans) records
written_is [] record_number facts bans queue open' below_facts below_bans left_facts left_bans = refl
written_is (entry ∷ later) record_number facts bans queue open' below_facts below_bans left_facts left_bans =
    by (is_conclusion entry) refl
    (written_is later (record_number + 1) (facts_after record_number facts entry) (bans_after record_number bans entry) next open'
    (stays_below facts_in gives_fact entry record_number facts below_facts)
    (stays_below bans_in gives_ban entry record_number bans below_bans)
    (left_after (facts_from record_number facts (entry ∷ later)) record_number queue.facts left_facts)
    (left_after (bans_from record_number bans (entry ∷ later)) record_number queue.bans left_bans))
  where
    next : Queue
    next = record { concluded = queue.concluded; facts = after_at record_number queue.facts; bans = after_at record_number queue.bans }

    ended : Queue
    ended = record { concluded = true; facts = queue.facts; bans = queue.bans }

    due : List Record
    due = map record_of.DropFact (first_at record_number queue.facts) ++ map record_of.DropBan (first_at record_number queue.bans)

    due_facts : first_at record_number queue.facts ≡ last_named (length facts) (gives_fact entry) (facts_in entry) (flat_map facts_in later)
    due_facts = left_first (facts_from record_number facts (entry ∷ later)) record_number queue.facts left_facts ∙ numbers_last facts_in gives_fact entry later record_number facts below_facts

    due_bans : first_at record_number queue.bans ≡ last_named (length bans) (gives_ban entry) (bans_in entry) (flat_map bans_in later)
    due_bans = left_first (bans_from record_number bans (entry ∷ later)) record_number queue.bans left_bans ∙ numbers_last bans_in gives_ban entry later record_number bans below_bans

    due_is : due ≡ drops_after (length facts) (length bans) entry later
    due_is =
        ap (λ fs. map record_of.DropFact fs ++ map record_of.DropBan (first_at record_number queue.bans)) due_facts
        ∙ ap (λ bs. map record_of.DropFact (last_named (length facts) (gives_fact entry) (facts_in entry) (flat_map facts_in later)) ++ map record_of.DropBan bs) due_bans

    after : List Record
    after = with_drops_from (length facts + one_if (gives_fact entry)) (length bans + one_if (gives_ban entry)) later

    by : (b : Bool) → is_conclusion entry ≡ b
        → written_from next (record_number + 1) later ≡ with_drops_from (length (facts_after record_number facts entry)) (length (bans_after record_number bans entry)) later
        → (entry ∷ cond (queue.concluded || is_conclusion entry) [] due) ++ written_from (cond (queue.concluded || is_conclusion entry) ended next) (record_number + 1) later
        ≡ cond (is_conclusion entry) (entry ∷ later) ((entry ∷ drops_after (length facts) (length bans) entry later) ++ after)
    by b e rest =
        ap (λ c. (entry ∷ cond (c || is_conclusion entry) [] due) ++ written_from (cond (c || is_conclusion entry) ended next) (record_number + 1) later) open'
        ∙ (ap (λ c. (entry ∷ cond c [] due) ++ written_from (cond c ended next) (record_number + 1) later) e
        ∙ (at b rest
        ∙ ap (λ c. cond c (entry ∷ later) ((entry ∷ drops_after (length facts) (length bans) entry later) ++ after)) (sym e)))
      where
        at : (c : Bool) → written_from next (record_number + 1) later ≡ with_drops_from (length (facts_after record_number facts entry)) (length (bans_after record_number bans entry)) later
            → (entry ∷ cond c [] due) ++ written_from (cond c ended next) (record_number + 1) later ≡ cond c (entry ∷ later) ((entry ∷ drops_after (length facts) (length bans) entry later) ++ after)
        at true more = ap (λ l. entry ∷ l) (written_concluded later (record_number + 1) ended refl)
        at false more =
            ap (λ drops. (entry ∷ drops) ++ written_from next (record_number + 1) later) due_is
            ∙ ap (λ l. (entry ∷ drops_after (length facts) (length bans) entry later) ++ l)
            (more
            ∙ (ap (λ n. with_drops_from n (length (bans_after record_number bans entry)) later) (after_length facts_in gives_fact record_number facts entry)
            ∙ ap (λ n. with_drops_from (length facts + one_if (gives_fact entry)) n later) (after_length bans_in gives_ban record_number bans entry)))

-- what is due after the records of an account, before the first
abbrev pub due_first : List Due → List Due → Queue
due_first facts bans = record { concluded = false; facts = facts; bans = bans }

nothing_below : Below 1 []
nothing_below f below = absurd (omega (arith, below))

pub written_with_drops : (records : List Record) (facts bans : List Due) → AreDues (facts_from 1 [] records) facts → AreDues (bans_from 1 [] records) bans
    → written_from (due_first facts bans) 1 records ≡ with_drops records
written_with_drops records facts bans due_facts due_bans =
    written_is records 1 [] [] (due_first facts bans) refl nothing_below nothing_below
    (left_all (facts_from 1 [] records) facts (λ f below. given_later facts_in gives_fact records 1 [] f (omega arith) below) due_facts)
    (left_all (bans_from 1 [] records) bans (λ f below. given_later bans_in gives_ban records 1 [] f (omega arith) below) due_bans)

-- one record more

pub written_more : (records : List Record) (entry : Record) (record_number at : ℕ) (queue : Queue) → record_number + length records ≡ at
    → written_from queue record_number (records ++ entry ∷ []) ≡ written_from queue record_number records ++ (entry ∷ drops_due (queue_from queue record_number records) at entry)
written_more [] entry record_number at queue e =
    append-nil (entry ∷ drops_due queue record_number entry) ∙ ap (λ n. entry ∷ drops_due queue n entry) (let same : record_number ≡ at = omega (arith, e) in same)
written_more (first ∷ records) entry record_number at queue e =
    ap (λ l. (first ∷ drops_due queue record_number first) ++ l) (written_more records entry (record_number + 1) at (queue_after queue record_number first) (omega (arith, e)))
    ∙ sym (append_assoc (first ∷ drops_due queue record_number first) (written_from (queue_after queue record_number first) (record_number + 1) records) (entry ∷ drops_due (queue_from (queue_after queue record_number first) (record_number + 1) records) at entry))

pub queue_more : (records : List Record) (entry : Record) (record_number at : ℕ) (queue : Queue) → record_number + length records ≡ at
    → queue_from queue record_number (records ++ entry ∷ []) ≡ queue_after (queue_from queue record_number records) at entry
queue_more [] entry record_number at queue e = ap (λ n. queue_after queue n entry) (let same : record_number ≡ at = omega (arith, e) in same)
queue_more (first ∷ records) entry record_number at queue e = queue_more records entry (record_number + 1) at (queue_after queue record_number first) (omega (arith, e))
