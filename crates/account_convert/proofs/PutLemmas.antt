-- An account that is valid is so with drops of what no later record names, and comes to the same verdict.
use Rattle.std.proofs.Common.{◌≡◌, ◌≢◌, ◌⊎◌, ℕ, zero, suc, ◌+◌, ◌<◌, ◌≤◌, ◌||◌, eqb, Bool, true, false, cond, List, [], ◌∷◌, ◌++◌, length, fold, filter, map, get_or, All, Option, None, Some, refl, sym, ap, subst, ◌∙◌, inl, inr, arith}
use Rattle.std.specs.Prelude.{option_to_list, slice_set}
use Rattle.std.specs.List.{flat_map, range_with_len}
use Rattle.std.proofs.lemmas.Bool.Decides.{eqb_tells}
use Rattle.std.proofs.lemmas.List.{length-set}
use Rattle.std.proofs.lemmas.List.Elements.{All-head, All-tail}
use Rattle.std.proofs.lemmas.List.Folds.{list_any-append}
use Rattle.circuits.specs.declared.port.Pair.{Pair}
use Rattle.account_core.specs.declared.conclusion.Conclusion.TheVariants as conclusion
use Rattle.account_core.specs.declared.step.Step.{Step}
use Rattle.account_core.specs.declared.step.Step.TheVariants as step
use Rattle.account_core.specs.Ports.{HaveAsMany}
use Rattle.refusal_core.specs.Names.{bans_named, facts_named}
use Rattle.account_file.specs.declared.record.Record.{Record}
use Rattle.account_file.specs.declared.record.Record.TheVariants as entry_of
use Rattle.account_check.specs.Accounts.{Account, HasFault, after, verdict_of}
use Rattle.account_check.specs.Drops.{AreNamesKept, Dropped, IsReferenceUnmarked, IsUnmarked, marked, nothing_dropped, without_ban, without_fact}
use Rattle.ban_check.specs.More.{clashing_pairs}
use Rattle.account_convert.specs.Conversions.{bans_in, facts_in, is_among, is_drop}
use Rattle.account_convert.proofs.DropLemmas.{HaveNoDrops}
use Rattle.account_convert.proofs.MoveLemmas.{AreKept, IsKeptFor, after_but, bans_with, but, fine_with}
use Rattle.account_convert.proofs.StripLemmas.{Agrees, ValidFrom, ban_after, fact_after, kept_dropped, kept_more, marked_other}

abbrev pub is_marked : List Bool → ℕ → Bool
is_marked marks number = get_or marks number false

-- No number that is marked is among these.
abbrev pub AreApart : List Bool → List ℕ → Type 0
AreApart marks numbers = (number : ℕ) → is_marked marks number ≡ true → is_among numbers number ≡ false

pub apart_front : (marks : List Bool) (numbers others : List ℕ) → AreApart marks (numbers ++ others) → AreApart marks numbers
apart_front marks numbers others apart number is =
    by (is_among numbers number) (is_among others number) (sym (list_any-append (λ n. eqb n number) numbers others) ∙ apart number is)
  where
    by : (b c : Bool) → (b || c) ≡ false → b ≡ false
    by true c e = e
    by false c e = refl

pub apart_back : (marks : List Bool) (numbers others : List ℕ) → AreApart marks (numbers ++ others) → AreApart marks others
apart_back marks numbers others apart number is =
    by (is_among numbers number) (is_among others number) (sym (list_any-append (λ n. eqb n number) numbers others) ∙ apart number is)
  where
    by : (b c : Bool) → (b || c) ≡ false → c ≡ false
    by true c e = absurd (let never : ⊥ = cc in never)
    by false c e = e

one_among : (number : ℕ) (numbers : List ℕ) → is_among (number ∷ numbers) number ≡ true
one_among number numbers = by (eqb number number) (eqb_tells number number)
  where
    by : (b : Bool) → ((b ≡ true) × (number ≡ number)) ⊎ ((b ≡ false) × (number ≢ number)) → (b || is_among numbers number) ≡ true
    by true tells = refl
    by false (inl tells) = absurd (let never : ⊥ = cc in never)
    by false (inr tells) = absurd (tells.1 refl)

-- what is apart isn't marked
unmarked_first : (marks : List Bool) (number : ℕ) (numbers : List ℕ) → AreApart marks (number ∷ numbers) → IsUnmarked marks number
unmarked_first marks number numbers apart = by (is_marked marks number) refl
  where
    by : (b : Bool) → is_marked marks number ≡ b → is_marked marks number ≡ false
    by true e =
        let clash : true ≡ false = sym (one_among number numbers) ∙ apart number e in
        absurd (let never : ⊥ = cc in never)
    by false e = e

unmarked_all : (marks : List Bool) (numbers : List ℕ) → AreApart marks numbers → All (IsUnmarked marks) numbers
unmarked_all marks [] apart k d below = absurd (omega (arith, below))
unmarked_all marks (number ∷ numbers) apart zero d below = unmarked_first marks number numbers apart
unmarked_all marks (number ∷ numbers) apart (suc k) d below = unmarked_all marks numbers (apart_back marks (number ∷ []) numbers apart) k d (omega (arith, below))

unmarked_refs : (marks : List Bool) (refs : List (Option ℕ)) → AreApart marks (flat_map option_to_list refs) → All (IsReferenceUnmarked marks) refs
unmarked_refs marks [] apart k d below = absurd (omega (arith, below))
unmarked_refs marks (None ∷ refs) apart zero d below = tt
unmarked_refs marks (Some number ∷ refs) apart zero d below = unmarked_first marks number (flat_map option_to_list refs) apart
unmarked_refs marks (reference ∷ refs) apart (suc k) d below = unmarked_refs marks refs (apart_back marks (option_to_list reference) (flat_map option_to_list refs) apart) k d (omega (arith, below))

step_apart : (dropped : Dropped) (named : Step) → AreApart dropped.facts (facts_named named) → AreApart dropped.bans (bans_named named) → AreNamesKept dropped named
step_apart dropped (step.Vector output values) facts bans = tt
step_apart dropped (step.Mismatch fails holds) facts bans = (
  unmarked_first dropped.facts fails (holds ∷ []) facts,
  unmarked_first dropped.facts holds [] (apart_back dropped.facts (fails ∷ []) (holds ∷ []) facts),
)
step_apart dropped (step.Tally kind have lack) facts bans = (
  unmarked_all dropped.facts have (apart_front dropped.facts have lack facts),
  unmarked_all dropped.facts lack (apart_back dropped.facts have lack facts),
)
step_apart dropped (step.Cover kind from to refs) facts bans = unmarked_refs dropped.bans refs bans

pub entry_apart : (dropped : Dropped) (entry : Record) → AreApart dropped.facts (facts_in entry) → AreApart dropped.bans (bans_in entry) → IsKeptFor dropped entry
entry_apart dropped (entry_of.Ban ban) facts bans = step_apart dropped ban.step facts bans
entry_apart dropped (entry_of.Conclusion conclusion.NonePorts) facts bans = tt
entry_apart dropped (entry_of.Conclusion (conclusion.NoneBan ban)) facts bans = unmarked_first dropped.bans ban [] bans
entry_apart dropped (entry_of.Conclusion (conclusion.Match pairs)) facts bans = tt
entry_apart dropped entry_of.Header facts bans = tt
entry_apart dropped (entry_of.Fact given) facts bans = tt
entry_apart dropped (entry_of.Line line) facts bans = tt
entry_apart dropped entry_of.End facts bans = tt
entry_apart dropped (entry_of.DropFact fact) facts bans = tt
entry_apart dropped (entry_of.DropBan ban) facts bans = tt

-- a first record, after which the others agree
pub agree_first : (account : Account) (bans others : List (List Pair)) (dropped : Dropped) (entry : Record) (rest records : List Record) → is_drop entry ≡ false
    → HasFault (but account others dropped) entry None
    → Agrees (but (after account entry) (bans_with others entry) dropped) rest (but (after account entry) (bans_with bans entry) nothing_dropped) records
    → Agrees (but account others dropped) (entry ∷ rest) (but account bans nothing_dropped) (entry ∷ records)
agree_first account bans others dropped entry rest records none fine go = record {
  valid = (fine, subst (λ a. ValidFrom a rest) (sym (after_but account others dropped entry none)) go.valid);
  verdict =
      ap (λ a. verdict_of (fold after a rest)) (after_but account others dropped entry none)
      ∙ (go.verdict
      ∙ ap (λ a. verdict_of (fold after a records)) (sym (after_but account bans nothing_dropped entry none)));
}

-- records that name nothing that was dropped
pub copied : (records : List Record) (account : Account) (bans others : List (List Pair)) (dropped : Dropped) → AreKept bans others dropped.bans → HaveNoDrops records
    → AreApart dropped.facts (flat_map facts_in records) → AreApart dropped.bans (flat_map bans_in records)
    → ValidFrom (but account bans nothing_dropped) records
    → Agrees (but account others dropped) records (but account bans nothing_dropped) records
copied [] account bans others dropped are none facts_apart bans_apart valid = record { valid = tt; verdict = refl }
copied (entry ∷ records) account bans others dropped are none facts_apart bans_apart valid =
    let here = All-head (λ e. is_drop e ≡ false) entry records none in
    let named = entry_apart dropped entry (apart_front dropped.facts (facts_in entry) (flat_map facts_in records) facts_apart) (apart_front dropped.bans (bans_in entry) (flat_map bans_in records) bans_apart) in
    agree_first account bans others dropped entry records records here (fine_with account bans others dropped entry are here named valid.0)
    (copied records (after account entry) (bans_with bans entry) (bans_with others entry) dropped (kept_more bans others dropped.bans entry are)
    (All-tail (λ e. is_drop e ≡ false) entry records none)
    (apart_back dropped.facts (facts_in entry) (flat_map facts_in records) facts_apart)
    (apart_back dropped.bans (bans_in entry) (flat_map bans_in records) bans_apart)
    (subst (λ a. ValidFrom a records) (after_but account bans nothing_dropped entry here) valid.1))

-- Numbers that are due ascend, and each was given and isn't marked.
abbrev pub AreDue : ℕ → List Bool → ℕ → List ℕ → Type 0
AreDue count marks low [] = Unit {0}
AreDue count marks low (number ∷ numbers) = (low ≤ number) × ((number < count) × (IsUnmarked marks number × AreDue count marks (number + 1) numbers))

due_marked : (count : ℕ) (marks : List Bool) (before low : ℕ) (numbers : List ℕ) → before < low → AreDue count marks low numbers → AreDue count (marked marks before) low numbers
due_marked count marks before low [] less due = tt
due_marked count marks before low (number ∷ numbers) less due = (
  due.0,
  (due.1.0, (marked_other marks before number (λ e. omega (arith, e, less, due.0)) ∙ due.1.1.0, due_marked count marks before (number + 1) numbers (omega (arith, less, due.0)) due.1.1.1)),
)

due_low : (count : ℕ) (marks : List Bool) (low more : ℕ) (numbers : List ℕ) → low ≤ more → AreDue count marks more numbers → AreDue count marks low numbers
due_low count marks low more [] less due = tt
due_low count marks low more (number ∷ numbers) less due = (omega (arith, less, due.0), due.1)

pub due_filter : (count : ℕ) (marks : List Bool) (test : ℕ → Bool) (a n : ℕ) → ((f : ℕ) → f < a + n → test f ≡ true → (f < count) × IsUnmarked marks f) → AreDue count marks a (filter test (range_with_len a n))
due_filter count marks test a zero each = tt
due_filter count marks test a (suc n) each =
    by (test a) refl (due_filter count marks test (a + 1) n (λ f below is. each f (omega (arith, below)) is))
  where
    by : (b : Bool) → test a ≡ b → AreDue count marks (a + 1) (filter test (range_with_len (a + 1) n)) → AreDue count marks a (cond b (a ∷ filter test (range_with_len (a + 1) n)) (filter test (range_with_len (a + 1) n)))
    by true e rest = let here = each a (omega arith) e in (omega arith, (here.0, (here.1, rest)))
    by false e rest = due_low count marks a (a + 1) (filter test (range_with_len (a + 1) n)) (omega arith) rest

-- all of some numbers are marked
abbrev pub all_marked : List Bool → List ℕ → List Bool
all_marked marks [] = marks
all_marked marks (number ∷ numbers) = all_marked (marked marks number) numbers

abbrev pub facts_out : Dropped → List ℕ → Dropped
facts_out dropped facts = record { facts = all_marked dropped.facts facts; bans = dropped.bans }

abbrev pub bans_out : Dropped → List ℕ → Dropped
bans_out dropped bans = record { facts = dropped.facts; bans = all_marked dropped.bans bans }

abbrev pub forgotten : List (List Pair) → List ℕ → List (List Pair)
forgotten bans [] = bans
forgotten bans (ban ∷ more) = forgotten (slice_set bans ban clashing_pairs) more

pub marked_back : (marks : List Bool) (numbers : List ℕ) (P : ℕ → Type 0) → ((k d : ℕ) → k < length numbers → P (get_or numbers k d)) → (number : ℕ) → is_marked (all_marked marks numbers) number ≡ true → (is_marked marks number ≡ true) ⊎ P number
marked_back marks [] P each number is = inl is
marked_back marks (first ∷ numbers) P each number is = elim (marked_back (marked marks first) numbers P (λ k d below. each (suc k) d (omega (arith, below))) number is) [
  | inl before ↦ elim (eqb_tells number first) [
    | inl (test, e) ↦ inr (subst P (sym e) (each 0 0 (omega arith)))
    | inr (test, apart) ↦ inl (sym (marked_other marks first number apart) ∙ before)
  ]
  | inr p ↦ inr p
]

-- drops of what is due
pub facts_go : (facts : List ℕ) (low : ℕ) (account : Account) (others : List (List Pair)) (dropped : Dropped) (rest : List Record)
    → HaveAsMany account.graphs.first account.graphs.second ⊎ (facts ≡ [])
    → AreDue (length account.given.facts) dropped.facts low facts
    → ValidFrom (but account others (facts_out dropped facts)) rest
    → ValidFrom (but account others dropped) (map entry_of.DropFact facts ++ rest)
    × (fold after (but account others dropped) (map entry_of.DropFact facts ++ rest) ≡ fold after (but account others (facts_out dropped facts)) rest)
facts_go [] low account others dropped rest ports due valid = (valid, refl)
facts_go (fact ∷ facts) low account others dropped rest (inr none) due valid = absurd (let never : ⊥ = cc in never)
facts_go (fact ∷ facts) low account others dropped rest (inl ports) due valid =
    let step = fact_after account others dropped fact in
    let go = facts_go facts (fact + 1) account others (without_fact dropped fact) rest (inl ports) (due_marked (length account.given.facts) dropped.facts fact (fact + 1) facts (omega arith) due.1.1.1) valid in (
      (inr (ports, inr ((due.1.0, due.1.1.0), refl)), subst (λ a. ValidFrom a (map entry_of.DropFact facts ++ rest)) (sym step) go.0),
      ap (λ a. fold after a (map entry_of.DropFact facts ++ rest)) step ∙ go.1,
    )

pub bans_go : (bans : List ℕ) (low : ℕ) (account : Account) (others : List (List Pair)) (dropped : Dropped) (rest : List Record)
    → HaveAsMany account.graphs.first account.graphs.second ⊎ (bans ≡ [])
    → AreDue (length others) dropped.bans low bans
    → ValidFrom (but account (forgotten others bans) (bans_out dropped bans)) rest
    → ValidFrom (but account others dropped) (map entry_of.DropBan bans ++ rest)
    × (fold after (but account others dropped) (map entry_of.DropBan bans ++ rest) ≡ fold after (but account (forgotten others bans) (bans_out dropped bans)) rest)
bans_go [] low account others dropped rest ports due valid = (valid, refl)
bans_go (ban ∷ bans) low account others dropped rest (inr none) due valid = absurd (let never : ⊥ = cc in never)
bans_go (ban ∷ bans) low account others dropped rest (inl ports) due valid =
    let step = ban_after account others dropped ban in
    let fewer = length-set others ban clashing_pairs in
    let next = due_marked (length others) dropped.bans ban (ban + 1) bans (omega arith) due.1.1.1 in
    let go = bans_go bans (ban + 1) account (slice_set others ban clashing_pairs) (without_ban dropped ban) rest (inl ports) (subst (λ n. AreDue n (marked dropped.bans ban) (ban + 1) bans) (sym fewer) next) valid in (
      (inr (ports, inr ((due.1.0, due.1.1.0), refl)), subst (λ a. ValidFrom a (map entry_of.DropBan bans ++ rest)) (sym step) go.0),
      ap (λ a. fold after a (map entry_of.DropBan bans ++ rest)) step ∙ go.1,
    )

pub forgotten_kept : (numbers : List ℕ) (bans others : List (List Pair)) (marks : List Bool) → AreKept bans others marks → AreKept bans (forgotten others numbers) (all_marked marks numbers)
forgotten_kept [] bans others marks are = are
forgotten_kept (number ∷ numbers) bans others marks are = forgotten_kept numbers bans (slice_set others number clashing_pairs) (marked marks number) (kept_dropped bans others marks number are)
