-- What nothing that is reached names isn't reached: a drop, and the log of a fact without its last line.
use Rattle.std.proofs.Common.{◌≡◌, ◌⊎◌, ℕ, zero, suc, ◌+◌, ◌-◌, ◌<◌, ◌≤◌, Bool, true, false, cond, List, [], ◌∷◌, ◌++◌, length, map, All, Option, None, Some, nat_lt, slice_index_or, inl, inr, refl, sym, ap, subst, ◌∙◌, arith}
use Rattle.std.specs.Prelude.{option_to_list}
use Rattle.std.specs.List.{flat_map, range_with_len}
use Rattle.std.proofs.lemmas.Bool.{cases_lt, false≢true, le-ltb, lt-ltb}
use Rattle.std.proofs.lemmas.List.FromFn.{get_or-map-range_with_len}
use Rattle.std.proofs.lemmas.List.{get_or_default, get_or_past}
use Rattle.std.proofs.lemmas.List.Elements.{All-append, All-cons, All-nil, All-push, All-weaker}
use Rattle.circuits.specs.Literals.{bit}
use Rattle.cnf_core.specs.Derivations.{is_empty}
use Rattle.net_core.specs.Sides.{Graphs}
use Rattle.account_core.specs.declared.conclusion.Conclusion.TheVariants as conclusion
use Rattle.account_core.specs.declared.fact.FactHead.TheVariants as head
use Rattle.account_file.specs.declared.record.Record.{Record}
use Rattle.account_file.specs.declared.record.Record.TheVariants as record_of
use Rattle.account_file.specs.Spelling.{HasLine}
use Rattle.refusal_core.specs.Names.{AreMarked, bans_named, facts_named}
use Rattle.account_trim.specs.declared.links.Links.{Links}
use Rattle.account_trim.specs.declared.places.Places.{Places}
use Rattle.account_trim.specs.Links.{hinted, is_root, links_of, listed, names}
use Rattle.account_trim.specs.Lowered.{HaveLines}
use Rattle.account_trim.specs.Places.{given_at, with_one}
use Rattle.account_trim.specs.Reached.{IsClosed, IsReached}
use Rattle.account_trim.proofs.LinkLemmas.{OwnerBefore, links_back, links_length, owner_kept}
use Rattle.account_trim.proofs.LogStepLemmas.{entry_with, one_given}
use Rattle.account_trim.proofs.RelationLemmas.{no_link, root_at}
use Rattle.account_trim.proofs.SpotLemmas.{link_is, record_at, spots_at, spots_more}

-- a place before a log, or not before its last line
abbrev pub Beside : ℕ → ℕ → ℕ → Type 0
Beside o k p = (p < o) ⊎ (k ≤ p)

abbrev OwnerBeside : ℕ → ℕ → Option ℕ → Type 0
OwnerBeside o k None = Unit {0}
OwnerBeside o k (Some owner) = Beside o k owner

-- All that is named later stands beside a log.
pub record StandBeside (o k : ℕ) (places : Places) : Type 0 where
  pub facts : All (Beside o k) places.facts
  pub bans : All (Beside o k) places.bans
  pub start : k ≤ places.start
  pub owner : OwnerBeside o k places.owner

module _ (graphs : Graphs) (o k : ℕ) where
  given_beside : (owner : Option ℕ) (j : ℕ) → k ≤ j → All (Beside o k) (given_at owner j)
  given_beside None j later = All-nil (Beside o k)
  given_beside (Some owner) j later = All-cons (Beside o k) j [] (inr later) (All-nil (Beside o k))

  line_beside : (places : Places) (j : ℕ) (empty : Bool) → k ≤ j → StandBeside o k places → StandBeside o k (cond empty (record places { facts = places.facts ++ given_at places.owner j; owner = None; start = j + 1 }) places)
  line_beside places j true later are = record {
    facts = All-append (Beside o k) places.facts (given_at places.owner j) are.facts (given_beside places.owner j later);
    bans = are.bans;
    start = omega (arith, later);
    owner = tt;
  }
  line_beside places j false later are = are

  one_beside : (places : Places) (j : ℕ) (entry : Record) → k ≤ j → StandBeside o k places → StandBeside o k (with_one graphs places j entry)
  one_beside places j record_of.Header later are = are
  one_beside places j (record_of.Fact (head.Fails claim bits)) later are = record {
    facts = All-push (Beside o k) places.facts j are.facts (inr later);
    bans = are.bans;
    start = are.start;
    owner = are.owner;
  }
  one_beside places j (record_of.Fact (head.Holds claim)) later are = record { facts = are.facts; bans = are.bans; start = omega (arith, later); owner = inr later }
  one_beside places j (record_of.Line line) later are = line_beside places j (is_empty line.clause) later are
  one_beside places j (record_of.Ban ban) later are = record {
    facts = are.facts;
    bans = All-push (Beside o k) places.bans j are.bans (inr later);
    start = are.start;
    owner = are.owner;
  }
  one_beside places j (record_of.Conclusion conclusion.NonePorts) later are = are
  one_beside places j (record_of.Conclusion (conclusion.NoneBan ban)) later are = are
  one_beside places j (record_of.Conclusion (conclusion.Match pairs)) later are = record { facts = are.facts; bans = are.bans; start = omega (arith, later); owner = are.owner }
  one_beside places j (record_of.DropFact fact) later are = record { facts = are.facts; bans = are.bans; start = omega (arith, later); owner = are.owner }
  one_beside places j (record_of.DropBan ban) later are = record { facts = are.facts; bans = are.bans; start = omega (arith, later); owner = are.owner }
  one_beside places j record_of.End later are = are

  -- what a later record names
  all_if : (b : Bool) (xs ys : List ℕ) → (b ≡ true → All (Beside o k) xs) → All (Beside o k) ys → All (Beside o k) (cond b xs ys)
  all_if true xs ys one other = one refl
  all_if false xs ys one other = other

  one_name : (p : ℕ) → Beside o k p → All (Beside o k) (p ∷ [])
  one_name p is = All-cons (Beside o k) p [] is (All-nil (Beside o k))

  hinted_beside : (places : Places) (j hint : ℕ) → StandBeside o k places → All (Beside o k) (hinted places j hint)
  hinted_beside places j hint are =
      all_if (nat_lt hint places.base) [] _ (λ low. All-nil (Beside o k))
      (all_if (nat_lt (hint - places.base) (j - places.start)) ((places.start + (hint - places.base)) ∷ []) [] (λ near. one_name (places.start + (hint - places.base)) (inr (omega (arith, are.start)))) (All-nil (Beside o k)))

  listed_beside : (j : ℕ) (places : List ℕ) (n : ℕ) → k ≤ j → All (Beside o k) places → All (Beside o k) (listed j places n)
  listed_beside j places n later are =
      all_if (nat_lt (slice_index_or places n j) j) (slice_index_or places n j ∷ []) []
      (λ before. one_name (slice_index_or places n j) (there (cases_lt n (length places)))) (All-nil (Beside o k))
    where
      there : (n < length places) ⊎ (length places ≤ n) → Beside o k (slice_index_or places n j)
      there (inl within) = are n j within
      there (inr past) = subst (Beside o k) (sym (get_or_past places n j past)) (inr later)

  flat_beside : {X : Type 0} (f : X → List ℕ) (xs : List X) → ((x : X) → All (Beside o k) (f x)) → All (Beside o k) (flat_map f xs)
  flat_beside {X} f [] each = All-nil (Beside o k)
  flat_beside {X} f (x ∷ xs) each = All-append (Beside o k) (f x) (flat_map f xs) (each x) (flat_beside f xs each)

  owner_beside : (owner : Option ℕ) → OwnerBeside o k owner → All (Beside o k) (option_to_list owner)
  owner_beside None are = All-nil (Beside o k)
  owner_beside (Some owner) is = one_name owner is

  names_beside : (places : Places) (j : ℕ) (entry : Record) → k ≤ j → StandBeside o k places → All (Beside o k) (names places j entry)
  names_beside places j record_of.Header later are = All-nil (Beside o k)
  names_beside places j (record_of.Fact fact) later are = All-nil (Beside o k)
  names_beside places j (record_of.Line line) later are =
      All-append (Beside o k) (flat_map (hinted places j) line.hints) (option_to_list places.owner)
      (flat_beside (hinted places j) line.hints (λ hint. hinted_beside places j hint are)) (owner_beside places.owner are.owner)
  names_beside places j (record_of.Ban ban) later are =
      All-append (Beside o k) (flat_map (listed j places.facts) (facts_named ban.step)) (flat_map (listed j places.bans) (bans_named ban.step))
      (flat_beside (listed j places.facts) (facts_named ban.step) (λ n. listed_beside j places.facts n later are.facts))
      (flat_beside (listed j places.bans) (bans_named ban.step) (λ n. listed_beside j places.bans n later are.bans))
  names_beside places j (record_of.Conclusion conclusion.NonePorts) later are = All-nil (Beside o k)
  names_beside places j (record_of.Conclusion (conclusion.NoneBan ban)) later are = listed_beside j places.bans ban later are.bans
  names_beside places j (record_of.Conclusion (conclusion.Match pairs)) later are = All-nil (Beside o k)
  names_beside places j (record_of.DropFact fact) later are = All-nil (Beside o k)
  names_beside places j (record_of.DropBan ban) later are = All-nil (Beside o k)
  names_beside places j record_of.End later are = All-nil (Beside o k)

  -- from a place on
  later_beside : (records : List Record) (from n : ℕ) → k ≤ from → from + n ≤ length records → StandBeside o k (spots_at graphs records from) → StandBeside o k (spots_at graphs records (from + n))
  later_beside records from zero later within are = let same : from ≡ from + 0 = omega arith in subst (λ m. StandBeside o k (spots_at graphs records m)) same are
  later_beside records from (suc n) later within are =
      let same : (from + n) + 1 ≡ from + suc n = omega arith in
      let here : from + n < length records = omega (arith, within) in
      subst (λ m. StandBeside o k (spots_at graphs records m)) same
      (subst (StandBeside o k) (sym (spots_more graphs records (from + n) here))
      (one_beside (spots_at graphs records (from + n)) (from + n) (record_at records (from + n)) (omega (arith, later)) (later_beside records from n later (omega (arith, within)) are)))

-- the marks without those from one place to another
abbrev beside_mark : List Bool → ℕ → ℕ → ℕ → Bool
beside_mark marks o k p = cond (nat_lt p o) (bit marks p) (cond (nat_lt k p) (bit marks p) false)

abbrev beside_marks : List Bool → ℕ → ℕ → List Bool
beside_marks marks o k = map (beside_mark marks o k) (range_with_len 0 (length marks))

module _ (marks : List Bool) (o k : ℕ) where
  mark_is : (p : ℕ) → p < length marks → bit (beside_marks marks o k) p ≡ beside_mark marks o k p
  mark_is p below = get_or-map-range_with_len (beside_mark marks o k) 0 (length marks) p p false below (omega arith)

  before_log : (p : ℕ) → p < o → beside_mark marks o k p ≡ bit marks p
  before_log p before = ap (λ b. cond b (bit marks p) (cond (nat_lt k p) (bit marks p) false)) (lt-ltb p o before)

  after_log : (p : ℕ) → k < p → beside_mark marks o k p ≡ bit marks p
  after_log p after = by (nat_lt p o)
    where
      by : (b : Bool) → cond b (bit marks p) (cond (nat_lt k p) (bit marks p) false) ≡ bit marks p
      by true = refl
      by false = ap (λ b. cond b (bit marks p) false) (lt-ltb k p after)

  in_log : (p : ℕ) → o ≤ p → p ≤ k → beside_mark marks o k p ≡ false
  in_log p from to =
      ap (λ b. cond b (bit marks p) (cond (nat_lt k p) (bit marks p) false)) (le-ltb p o from) ∙ ap (λ b. cond b (bit marks p) false) (le-ltb k p to)

  was_marked : (p : ℕ) → beside_mark marks o k p ≡ true → ((p < o) ⊎ (k < p)) × (bit marks p ≡ true)
  was_marked p is = elim (cases_lt p o) [
    | inl before ↦ (inl before, sym (before_log p before) ∙ is)
    | inr from ↦ elim (cases_lt k p) [
      | inl after ↦ (inr after, sym (after_log p after) ∙ is)
      | inr to ↦ absurd (false≢true (sym (in_log p from to) ∙ is))
    ]
  ]

-- What is marked isn't in a part without roots where all that is named later, and marked, stands beside it.
module _ (graphs : Graphs) (records : List Record) (marks : List Bool) (reached : IsReached (links_of graphs records) marks) (o k c : ℕ) (there : k < length records) (near : c ≤ k + 1)
    (no_roots : (j : ℕ) → o ≤ j → j ≤ k → root_at (links_of graphs records) j ≡ false) (late : (p : ℕ) → c ≤ p → bit marks p ≡ true → k < p)
    (are : StandBeside o c (spots_at graphs records (k + 1))) where
  many : length marks ≡ length records
  many = reached.as_many ∙ links_length graphs records

  after_it : (j : ℕ) → k < j → j < length records → StandBeside o c (spots_at graphs records j)
  after_it j later below =
      let same : (k + 1) + (j - (k + 1)) ≡ j = omega (arith, later) in
      subst (λ n. StandBeside o c (spots_at graphs records n)) same
      (later_beside graphs o c records (k + 1) (j - (k + 1)) near (omega (arith, same, below)) are)

  -- what is marked beside the part stays marked
  still_marked : (p : ℕ) → Beside o c p → p < length marks → bit marks p ≡ true → bit (beside_marks marks o k) p ≡ true
  still_marked p (inl early) below is = mark_is marks o k p below ∙ (before_log marks o k p early ∙ is)
  still_marked p (inr from) below is = mark_is marks o k p below ∙ (after_log marks o k p (late p from is) ∙ is)

  names_still : (j : ℕ) → j < length records → (names_of : List ℕ) → All (Beside o c) names_of → All (λ p. p < j) names_of → AreMarked marks names_of → AreMarked (beside_marks marks o k) names_of
  names_still j below names_of beside back marked i d within =
      still_marked (slice_index_or names_of i d) (beside i d within) (omega (arith, back i d within, below, many)) (marked i d within)

  beside_root : (j : ℕ) (d : Links) → j < length (links_of graphs records) → (slice_index_or (links_of graphs records) j d).is_root ≡ true → beside_mark marks o k j ≡ bit marks j
  beside_root j d below root = elim (cases_lt j o) [
    | inl early ↦ before_log marks o k j early
    | inr from ↦ elim (cases_lt k j) [
      | inl after ↦ after_log marks o k j after
      | inr to ↦
          let here : j < length records = omega (arith, below, links_length graphs records) in
          let same = ap (λ (l : Links). l.is_root) (link_is graphs records j no_link here ∙ sym (link_is graphs records j d here)) in
          absurd (false≢true (sym (no_roots j from to) ∙ (same ∙ root)))
    ]
  ]

  beside_names : (j : ℕ) (d : Links) → j < length (links_of graphs records) → j < length records → (j < o) ⊎ (k < j) → All (Beside o c) (names (spots_at graphs records j) j (record_at records j))
  beside_names j d below here (inl early) =
      All-weaker (λ p. p < j) (Beside o c) (λ p less. inl (omega (arith, less, early))) (names (spots_at graphs records j) j (record_at records j))
      (subst (λ (l : Links). All (λ p. p < j) l.names) (link_is graphs records j d here) (links_back graphs records j d below))
  beside_names j d below here (inr after) = names_beside graphs o c (spots_at graphs records j) j (record_at records j) (omega (arith, after, near)) (after_it j after here)

  closed : IsClosed (links_of graphs records) (beside_marks marks o k)
  closed = record {
    roots = λ j d below root.
        let here : j < length records = omega (arith, below, links_length graphs records) in
        mark_is marks o k j (omega (arith, here, many)) ∙ (beside_root j d below root ∙ reached.closed.roots j d below root);
    named = λ j d below is.
        let here : j < length records = omega (arith, below, links_length graphs records) in
        let was = was_marked marks o k j (sym (mark_is marks o k j (omega (arith, here, many))) ∙ is) in
        let back = links_back graphs records j d below in
        names_still j here (slice_index_or (links_of graphs records) j d).names
        (subst (λ (l : Links). All (Beside o c) l.names) (sym (link_is graphs records j d here)) (beside_names j d below here was.0))
        back (reached.closed.named j d below was.1);
  }

  not_reached : (p : ℕ) → o ≤ p → p ≤ k → bit marks p ≡ true → ⊥
  not_reached p from to marked =
      let has = reached.least (beside_marks marks o k) closed p marked in
      false≢true (sym (mark_is marks o k p (omega (arith, to, there, many)) ∙ in_log marks o k p from to) ∙ has)

-- ---- the last line of the log of a fact that is kept is kept too

after_last : (graphs : Graphs) (o k : ℕ) (places : Places) (hints : List ℕ) → places.owner ≡ Some o → All (λ p. p < o) places.facts → All (λ p. p < o) places.bans → StandBeside o k (with_one graphs places k (entry_with [] hints))
after_last graphs o k places hints owner facts bans = record {
  facts =
      subst (All (Beside o k)) (sym (one_given places.facts places.owner o k owner))
      (All-push (Beside o k) places.facts k (All-weaker (λ p. p < o) (Beside o k) (λ p less. inl less) places.facts facts) (inr (omega arith)));
  bans = All-weaker (λ p. p < o) (Beside o k) (λ p less. inl less) places.bans bans;
  start = omega arith;
  owner = tt;
}

pub not_kept : (graphs : Graphs) (records : List Record) (marks : List Bool) → IsReached (links_of graphs records) marks → (o k : ℕ) → o < k → k < length records → (hints : List ℕ) → record_at records k ≡ entry_with [] hints
    → (spots_at graphs records k).owner ≡ Some o → All (λ p. p < o) (spots_at graphs records k).facts → All (λ p. p < o) (spots_at graphs records k).bans
    → ((j : ℕ) → o ≤ j → j ≤ k → root_at (links_of graphs records) j ≡ false) → bit marks k ≡ false → bit marks o ≡ true → ⊥
not_kept graphs records marks reached o k before there hints last owner facts bans no_roots unmarked marked =
    let spots = spots_at graphs records k in
    let after = after_last graphs o k spots hints owner facts bans in
    let are = subst (StandBeside o k) (sym (spots_more graphs records k there ∙ ap (with_one graphs spots k) last)) after in
    not_reached graphs records marks reached o k k there (omega arith) no_roots late are o (omega arith) (omega (arith, before)) marked
  where
    late : (p : ℕ) → k ≤ p → bit marks p ≡ true → k < p
    late p from is = elim (cases_lt k p) [
      | inl after ↦ after
      | inr to ↦ let same : p ≡ k = omega (arith, from, to) in absurd (false≢true (sym unmarked ∙ (ap (bit marks) (sym same) ∙ is)))
    ]

-- ---- a drop isn't reached

-- What is given stands before a place, and the fact whose log is open.
record AreBefore (k : ℕ) (places : Places) : Type 0 where
  facts : All (λ p. p < k) places.facts
  bans : All (λ p. p < k) places.bans
  owner : OwnerBefore places.owner k

later_before : (k : ℕ) (places : List ℕ) → All (λ p. p < k) places → All (λ p. p < k + 1) places
later_before k places are = All-weaker (λ p. p < k) (λ p. p < k + 1) (λ p less. omega (arith, less)) places are

one_more : (k : ℕ) (places : List ℕ) → All (λ p. p < k) places → All (λ p. p < k + 1) (places ++ k ∷ [])
one_more k places are = All-push (λ p. p < k + 1) places k (later_before k places are) (omega arith)

given_before : (owner : Option ℕ) (k : ℕ) (places : List ℕ) → All (λ p. p < k) places → All (λ p. p < k + 1) (places ++ given_at owner k)
given_before None k places are = All-append (λ p. p < k + 1) places [] (later_before k places are) (All-nil (λ p. p < k + 1))
given_before (Some owner) k places are = one_more k places are

line_before : (places : Places) (k : ℕ) (empty : Bool) → All (λ p. p < k) places.facts → All (λ p. p < k + 1) (cond empty (record places { facts = places.facts ++ given_at places.owner k; owner = None; start = k + 1 }) places).facts
line_before places k true are = given_before places.owner k places.facts are
line_before places k false are = later_before k places.facts are

line_bans : (places : Places) (k : ℕ) (empty : Bool) → All (λ p. p < k) places.bans → All (λ p. p < k + 1) (cond empty (record places { facts = places.facts ++ given_at places.owner k; owner = None; start = k + 1 }) places).bans
line_bans places k true are = later_before k places.bans are
line_bans places k false are = later_before k places.bans are

facts_before : (graphs : Graphs) (places : Places) (k : ℕ) (entry : Record) → All (λ p. p < k) places.facts → All (λ p. p < k + 1) (with_one graphs places k entry).facts
facts_before graphs places k (record_of.Fact (head.Fails claim bits)) are = one_more k places.facts are
facts_before graphs places k (record_of.Fact (head.Holds claim)) are = later_before k places.facts are
facts_before graphs places k (record_of.Line line) are = line_before places k (is_empty line.clause) are
facts_before graphs places k (record_of.Conclusion conclusion.NonePorts) are = later_before k places.facts are
facts_before graphs places k (record_of.Conclusion (conclusion.NoneBan ban)) are = later_before k places.facts are
facts_before graphs places k (record_of.Conclusion (conclusion.Match pairs)) are = later_before k places.facts are
facts_before graphs places k record_of.Header are = later_before k places.facts are
facts_before graphs places k (record_of.Ban ban) are = later_before k places.facts are
facts_before graphs places k (record_of.DropFact fact) are = later_before k places.facts are
facts_before graphs places k (record_of.DropBan ban) are = later_before k places.facts are
facts_before graphs places k record_of.End are = later_before k places.facts are

bans_before : (graphs : Graphs) (places : Places) (k : ℕ) (entry : Record) → All (λ p. p < k) places.bans → All (λ p. p < k + 1) (with_one graphs places k entry).bans
bans_before graphs places k (record_of.Ban ban) are = one_more k places.bans are
bans_before graphs places k (record_of.Fact (head.Fails claim bits)) are = later_before k places.bans are
bans_before graphs places k (record_of.Fact (head.Holds claim)) are = later_before k places.bans are
bans_before graphs places k (record_of.Line line) are = line_bans places k (is_empty line.clause) are
bans_before graphs places k (record_of.Conclusion conclusion.NonePorts) are = later_before k places.bans are
bans_before graphs places k (record_of.Conclusion (conclusion.NoneBan ban)) are = later_before k places.bans are
bans_before graphs places k (record_of.Conclusion (conclusion.Match pairs)) are = later_before k places.bans are
bans_before graphs places k record_of.Header are = later_before k places.bans are
bans_before graphs places k (record_of.DropFact fact) are = later_before k places.bans are
bans_before graphs places k (record_of.DropBan ban) are = later_before k places.bans are
bans_before graphs places k record_of.End are = later_before k places.bans are

spots_before : (graphs : Graphs) (records : List Record) (k : ℕ) → k ≤ length records → AreBefore k (spots_at graphs records k)
spots_before graphs records zero within = record { facts = All-nil (λ p. p < 0); bans = All-nil (λ p. p < 0); owner = tt }
spots_before graphs records (suc k) within =
    let here : k < length records = omega (arith, within) in
    let next : k + 1 ≡ suc k = omega arith in
    let spots = spots_at graphs records k in
    let are = spots_before graphs records k (omega (arith, within)) in
    subst (λ n. AreBefore n (spots_at graphs records n)) next
    (subst (AreBefore (k + 1)) (sym (spots_more graphs records k here)) (record {
      facts = facts_before graphs spots k (record_at records k) are.facts;
      bans = bans_before graphs spots k (record_at records k) are.bans;
      owner = owner_kept graphs spots k (record_at records k) are.owner;
    }))

-- all that is given, and the owner, stands beside a drop
owner_beside_drop : (k : ℕ) (owner : Option ℕ) → OwnerBefore owner k → OwnerBeside k (k + 1) owner
owner_beside_drop k None before = tt
owner_beside_drop k (Some owner) before = inl before

beside_drop : (k : ℕ) (places : Places) → AreBefore k places → StandBeside k (k + 1) (record places { start = k + 1 })
beside_drop k places are = record {
  facts = All-weaker (λ p. p < k) (Beside k (k + 1)) (λ p less. inl less) places.facts are.facts;
  bans = All-weaker (λ p. p < k) (Beside k (k + 1)) (λ p less. inl less) places.bans are.bans;
  start = omega arith;
  owner = owner_beside_drop k places.owner are.owner;
}

module _ (graphs : Graphs) (records : List Record) (marks : List Bool) (reached : IsReached (links_of graphs records) marks) (k : ℕ) (there : k < length records) where
  drop_not_reached : is_root (spots_at graphs records k).owner (record_at records k) ≡ false → with_one graphs (spots_at graphs records k) k (record_at records k) ≡ record (spots_at graphs records k) { start = k + 1 } → bit marks k ≡ true → ⊥
  drop_not_reached no_root leads marked =
      let before = spots_before graphs records k (omega (arith, there)) in
      let are = subst (StandBeside k (k + 1)) (sym (spots_more graphs records k there ∙ leads)) (beside_drop k (spots_at graphs records k) before) in
      not_reached graphs records marks reached k k (k + 1) there (omega arith) here (λ p from is. omega (arith, from)) are k (omega arith) (omega arith) marked
    where
      here : (j : ℕ) → k ≤ j → j ≤ k → root_at (links_of graphs records) j ≡ false
      here j from to =
          let same : j ≡ k = omega (arith, from, to) in
          ap (root_at (links_of graphs records)) same ∙ (ap (λ (l : Links). l.is_root) (link_is graphs records k no_link there) ∙ no_root)

  -- what is marked has a line
  line_by : (entry : Record) → record_at records k ≡ entry → bit marks k ≡ true → HasLine entry
  line_by record_of.Header is marked = tt
  line_by (record_of.Fact fact) is marked = tt
  line_by (record_of.Line line) is marked = tt
  line_by (record_of.Ban ban) is marked = tt
  line_by (record_of.Conclusion ends) is marked = tt
  line_by (record_of.DropFact fact) is marked =
      let spots = spots_at graphs records k in
      absurd (drop_not_reached (ap (is_root spots.owner) is) (ap (with_one graphs spots k) is) marked)
  line_by (record_of.DropBan ban) is marked =
      let spots = spots_at graphs records k in
      absurd (drop_not_reached (ap (is_root spots.owner) is) (ap (with_one graphs spots k) is) marked)
  line_by record_of.End is marked = tt

  pub marked_line : bit marks k ≡ true → HasLine (record_at records k)
  marked_line marked = line_by (record_at records k) refl marked

pub reached_lines : (graphs : Graphs) (records : List Record) (marks : List Bool) → IsReached (links_of graphs records) marks → HaveLines marks records
reached_lines graphs records marks reached k d below marked =
    subst HasLine (get_or_default records k record_of.Header d below) (marked_line graphs records marks reached k below marked)
