-- The records that each record names.
use Rattle.std.proofs.Common.{◌≡◌, ℕ, zero, suc, ◌+◌, ◌-◌, ◌<◌, ◌≤◌, Bool, true, false, cond, List, [], ◌∷◌, ◌++◌, length, drop, get_or, All, Option, None, Some, nat_lt, slice_index_or, append-nil, append_assoc, refl, sym, ap, ◌∙◌, arith}
use Rattle.std.specs.Prelude.{option_to_list}
use Rattle.std.specs.List.{flat_map}
use Rattle.std.proofs.lemmas.Bool.{le-ltb, lt-ltb, ltb-true}
use Rattle.std.proofs.lemmas.Grind.{flat_map-append}
use Rattle.std.proofs.lemmas.List.{drop_all, drop_more}
use Rattle.std.proofs.lemmas.List.Elements.{All-append, All-cons, All-nil, All-weaker}
use Rattle.cnf_core.specs.Derivations.{is_empty}
use Rattle.net_core.specs.Sides.{Graphs}
use Rattle.account_core.specs.declared.conclusion.Conclusion.TheVariants as conclusion
use Rattle.account_core.specs.declared.fact.FactHead.TheVariants as head
use Rattle.account_file.specs.declared.record.Record.{Record}
use Rattle.account_file.specs.declared.record.Record.TheVariants as record_of
use Rattle.account_trim.specs.declared.links.Links.{Links}
use Rattle.account_trim.specs.declared.places.Places.{Places}
use Rattle.refusal_core.specs.Names.{bans_named, facts_named}
use Rattle.account_trim.specs.Links.{earlier, hinted, link, links_from, links_of, listed, names}
use Rattle.account_trim.specs.Places.{given_at, no_places, places_of, with_all, with_one}
use Rattle.account_trim.specs.Reached.{NameBack}

-- where the ban of a reference stands
abbrev pub referred : ℕ → List ℕ → Option ℕ → List ℕ
referred k places reference = flat_map (listed k places) (option_to_list reference)

pub all_referred : (k : ℕ) (places : List ℕ) (references : List (Option ℕ)) → flat_map (referred k places) references ≡ flat_map (listed k places) (flat_map option_to_list references)
all_referred k places [] = refl
all_referred k places (reference ∷ references) =
    ap (λ l. referred k places reference ++ l) (all_referred k places references)
    ∙ sym (flat_map-append (listed k places) (option_to_list reference) (flat_map option_to_list references))

-- the links of the records from a place on are that of the record there, and those of the records after it
next_links : (graphs : Graphs) (records : List Record) (i : ℕ) (places : Places) (entry : Record) → i < length records
    → links_from graphs places i (drop i records) ≡ link places i (get_or records i entry) ∷ links_from graphs (with_one graphs places i (get_or records i entry)) (i + 1) (drop (i + 1) records)
next_links graphs records i places entry below = ap (links_from graphs places i) (drop_more records i entry below)

-- one record more
pub one_linked : (graphs : Graphs) (records : List Record) (i : ℕ) (links more : List Links) (places next : Places) (entry : Record)
    → i < length records
    → entry ≡ get_or records i entry
    → more ≡ links ++ link places i entry ∷ []
    → next ≡ with_one graphs places i entry
    → links ++ links_from graphs places i (drop i records) ≡ links_of graphs records
    → more ++ links_from graphs next (i + 1) (drop (i + 1) records) ≡ links_of graphs records
one_linked graphs records i links more places next entry below there is next_is was =
    let one = link places i (get_or records i entry) in
    let rest = links_from graphs (with_one graphs places i (get_or records i entry)) (i + 1) (drop (i + 1) records) in
    ap (λ l. l ++ links_from graphs next (i + 1) (drop (i + 1) records)) is
    ∙ (ap (λ e. (links ++ link places i e ∷ []) ++ links_from graphs next (i + 1) (drop (i + 1) records)) there
    ∙ (ap (λ p. (links ++ one ∷ []) ++ links_from graphs p (i + 1) (drop (i + 1) records)) (next_is ∙ ap (with_one graphs places i) there)
    ∙ (append_assoc links (one ∷ []) rest
    ∙ (ap (λ l. links ++ l) (sym (next_links graphs records i places entry below))
    ∙ was))))

pub one_placed : (graphs : Graphs) (records : List Record) (i : ℕ) (places next : Places) (entry : Record)
    → i < length records
    → entry ≡ get_or records i entry
    → next ≡ with_one graphs places i entry
    → with_all graphs places i (drop i records) ≡ places_of graphs records
    → with_all graphs next (i + 1) (drop (i + 1) records) ≡ places_of graphs records
one_placed graphs records i places next entry below there next_is was =
    ap (λ p. with_all graphs p (i + 1) (drop (i + 1) records)) (next_is ∙ ap (with_one graphs places i) there)
    ∙ (sym (ap (with_all graphs places i) (drop_more records i entry below))
    ∙ was)

-- all records
pub all_linked : (graphs : Graphs) (records : List Record) (i : ℕ) (links : List Links) (places : Places)
    → length records ≤ i
    → links ++ links_from graphs places i (drop i records) ≡ links_of graphs records
    → links ≡ links_of graphs records
all_linked graphs records i links places whole was =
    sym (append-nil links)
    ∙ (ap (λ rest. links ++ links_from graphs places i rest) (sym (drop_all i records whole))
    ∙ was)

pub all_placed : (graphs : Graphs) (records : List Record) (i : ℕ) (places : Places)
    → length records ≤ i
    → with_all graphs places i (drop i records) ≡ places_of graphs records
    → places ≡ places_of graphs records
all_placed graphs records i places whole was = ap (with_all graphs places i) (sym (drop_all i records whole)) ∙ was

-- Each names what stands before it.
All_flat : {X : Type 0} (P : ℕ → Type 0) (f : X → List ℕ) (xs : List X) → ((x : X) → All P (f x)) → All P (flat_map f xs)
All_flat {X} P f [] each = All-nil P
All_flat {X} P f (x ∷ xs) each = All-append P (f x) (flat_map f xs) (each x) (All_flat P f xs each)

All_if : (P : ℕ → Type 0) (b : Bool) (xs ys : List ℕ) → (b ≡ true → All P xs) → (b ≡ false → All P ys) → All P (cond b xs ys)
All_if P true xs ys one other = one refl
All_if P false xs ys one other = other refl

All_one : (P : ℕ → Type 0) (n : ℕ) → P n → All P (n ∷ [])
All_one P n is = All-cons P n [] is (All-nil P)

earlier_back : (k place : ℕ) → All (λ q. q < k) (earlier k place)
earlier_back k place = All_if (λ q. q < k) (nat_lt place k) (place ∷ []) [] (λ less. All_one (λ q. q < k) place (ltb-true place k less)) (λ no. All-nil (λ q. q < k))

hinted_back : (places : Places) (k hint : ℕ) → All (λ q. q < k) (hinted places k hint)
hinted_back places k hint =
    All_if (λ q. q < k) (nat_lt hint places.base) [] _ (λ low. All-nil (λ q. q < k))
    (λ high. All_if (λ q. q < k) (nat_lt (hint - places.base) (k - places.start)) ((places.start + (hint - places.base)) ∷ []) []
    (λ less. let within = ltb-true (hint - places.base) (k - places.start) less in All_one (λ q. q < k) (places.start + (hint - places.base)) (omega (arith, within)))
    (λ no. All-nil (λ q. q < k)))

-- the fact whose log is open stands before
abbrev pub OwnerBefore : Option ℕ → ℕ → Type 0
OwnerBefore None k = Unit {0}
OwnerBefore (Some owner) k = owner < k

owner_back : (owner : Option ℕ) (k : ℕ) → OwnerBefore owner k → All (λ q. q < k) (option_to_list owner)
owner_back None k before = All-nil (λ q. q < k)
owner_back (Some owner) k before = All_one (λ q. q < k) owner before

names_back : (places : Places) (k : ℕ) (entry : Record) → OwnerBefore places.owner k → All (λ q. q < k) (names places k entry)
names_back places k record_of.Header before = All-nil (λ q. q < k)
names_back places k (record_of.Fact head) before = All-nil (λ q. q < k)
names_back places k (record_of.Line line) before =
    All-append (λ q. q < k) (flat_map (hinted places k) line.hints) (option_to_list places.owner)
    (All_flat (λ q. q < k) (hinted places k) line.hints (hinted_back places k))
    (owner_back places.owner k before)
names_back places k (record_of.Ban ban) before =
    All-append (λ q. q < k) (flat_map (listed k places.facts) (facts_named ban.step)) (flat_map (listed k places.bans) (bans_named ban.step))
    (All_flat (λ q. q < k) (listed k places.facts) (facts_named ban.step) (λ n. earlier_back k (slice_index_or places.facts n k)))
    (All_flat (λ q. q < k) (listed k places.bans) (bans_named ban.step) (λ n. earlier_back k (slice_index_or places.bans n k)))
names_back places k (record_of.Conclusion conclusion.NonePorts) before = All-nil (λ q. q < k)
names_back places k (record_of.Conclusion (conclusion.NoneBan ban)) before = earlier_back k (slice_index_or places.bans ban k)
names_back places k (record_of.Conclusion (conclusion.Match pairs)) before = All-nil (λ q. q < k)
names_back places k (record_of.DropFact fact) before = All-nil (λ q. q < k)
names_back places k (record_of.DropBan ban) before = All-nil (λ q. q < k)
names_back places k record_of.End before = All-nil (λ q. q < k)

still_before : (owner : Option ℕ) (k : ℕ) → OwnerBefore owner k → OwnerBefore owner (k + 1)
still_before None k before = tt
still_before (Some owner) k before = omega (arith, before)

line_owner : (places : Places) (k : ℕ) (empty : Bool) (facts : List ℕ) → OwnerBefore places.owner k → OwnerBefore (cond empty (record places { facts = facts; owner = None; start = k + 1 }) places).owner (k + 1)
line_owner places k true facts before = tt
line_owner places k false facts before = still_before places.owner k before

pub owner_kept : (graphs : Graphs) (places : Places) (k : ℕ) (entry : Record) → OwnerBefore places.owner k → OwnerBefore (with_one graphs places k entry).owner (k + 1)
owner_kept graphs places k record_of.Header before = still_before places.owner k before
owner_kept graphs places k (record_of.Fact (head.Fails claim bits)) before = still_before places.owner k before
owner_kept graphs places k (record_of.Fact (head.Holds claim)) before = omega arith
owner_kept graphs places k (record_of.Line line) before = line_owner places k (is_empty line.clause) (places.facts ++ given_at places.owner k) before
owner_kept graphs places k (record_of.Ban ban) before = still_before places.owner k before
owner_kept graphs places k (record_of.Conclusion conclusion.NonePorts) before = still_before places.owner k before
owner_kept graphs places k (record_of.Conclusion (conclusion.NoneBan ban)) before = still_before places.owner k before
owner_kept graphs places k (record_of.Conclusion (conclusion.Match pairs)) before = still_before places.owner k before
owner_kept graphs places k (record_of.DropFact fact) before = still_before places.owner k before
owner_kept graphs places k (record_of.DropBan ban) before = still_before places.owner k before
owner_kept graphs places k record_of.End before = still_before places.owner k before

all_back : (graphs : Graphs) (places : Places) (k : ℕ) (records : List Record) → OwnerBefore places.owner k → (j : ℕ) (d : Links) → j < length (links_from graphs places k records) → All (λ q. q < k + j) (slice_index_or (links_from graphs places k records) j d).names
all_back graphs places k [] before j d below = absurd (omega (arith, below))
all_back graphs places k (entry ∷ records) before zero d below =
    All-weaker (λ q. q < k) (λ q. q < k + 0) (λ q less. omega (arith, less)) (names places k entry) (names_back places k entry before)
all_back graphs places k (entry ∷ records) before (suc j) d below =
    let next = with_one graphs places k entry in
    All-weaker (λ q. q < (k + 1) + j) (λ q. q < k + suc j) (λ q less. omega (arith, less)) (slice_index_or (links_from graphs next (k + 1) records) j d).names
    (all_back graphs next (k + 1) records (owner_kept graphs places k entry before) j d (omega (arith, below)))

pub links_back : (graphs : Graphs) (records : List Record) → NameBack (links_of graphs records)
links_back graphs records k d below =
    All-weaker (λ q. q < 0 + k) (λ q. q < k) (λ q less. omega (arith, less)) (slice_index_or (links_of graphs records) k d).names
    (all_back graphs no_places 0 records tt k d below)

length_from : (graphs : Graphs) (places : Places) (k : ℕ) (records : List Record) → length (links_from graphs places k records) ≡ length records
length_from graphs places k [] = refl
length_from graphs places k (entry ∷ records) = ap suc (length_from graphs (with_one graphs places k entry) (k + 1) records)

pub links_length : (graphs : Graphs) (records : List Record) → length (links_of graphs records) ≡ length records
links_length graphs records = length_from graphs no_places 0 records

-- a hint names a clause of the query, a line that is too late, or a line of the log
pub low_hint : (places : Places) (k hint : ℕ) (names : List ℕ) → hint < places.base → names ≡ names ++ hinted places k hint
low_hint places k hint names low =
    sym (append-nil names)
    ∙ ap (λ b. names ++ cond b [] (cond (nat_lt (hint - places.base) (k - places.start)) ((places.start + (hint - places.base)) ∷ []) [])) (sym (lt-ltb hint places.base low))

pub far_hint : (places : Places) (k hint : ℕ) (names : List ℕ) → places.base ≤ hint → k - places.start ≤ hint - places.base → names ≡ names ++ hinted places k hint
far_hint places k hint names high far =
    sym (append-nil names)
    ∙ (ap (λ b. names ++ cond b ((places.start + (hint - places.base)) ∷ []) []) (sym (le-ltb (hint - places.base) (k - places.start) far))
    ∙ ap (λ b. names ++ cond b [] (cond (nat_lt (hint - places.base) (k - places.start)) ((places.start + (hint - places.base)) ∷ []) [])) (sym (le-ltb hint places.base high)))

pub near_hint : (places : Places) (k hint : ℕ) (names more : List ℕ) → places.base ≤ hint → hint - places.base < k - places.start → more ≡ names ++ (places.start + (hint - places.base)) ∷ [] → more ≡ names ++ hinted places k hint
near_hint places k hint names more high near is =
    is
    ∙ (ap (λ b. names ++ cond b ((places.start + (hint - places.base)) ∷ []) []) (sym (lt-ltb (hint - places.base) (k - places.start) near))
    ∙ ap (λ b. names ++ cond b [] (cond (nat_lt (hint - places.base) (k - places.start)) ((places.start + (hint - places.base)) ∷ []) [])) (sym (le-ltb hint places.base high)))
