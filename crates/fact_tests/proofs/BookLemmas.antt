-- What a book knows, and what it knows once a claim was decided or a query answered.
use Rattle.std.proofs.Common.{◌≡◌, ◌≢◌, ◌⊎◌, ℕ, ◌+◌, ◌-◌, ◌<◌, ◌≤◌, Bool, true, false, Result, Ok, Err, List, [], ◌∷◌, ◌++◌, length, map, All, slice_index_or, inl, inr, refl, sym, ap, subst, ◌∙◌, arith}
use Rattle.std.specs.List.{Any}
use Rattle.std.specs.Result.{IsErrAnd}
use Rattle.std.proofs.lemmas.Bool.{cases_eq, cases_lt}
use Rattle.std.proofs.lemmas.List.{get_or_append_left, get_or-append-add, get_or-map, get_or-set_same, get_or-set_other, length-append, length-map, length-set, map_push, append-nil}
use Rattle.std.proofs.lemmas.List.Elements.{All-push}
use Rattle.std.proofs.lemmas.List.Quantifiers.{Any-push, all_pairs_push}
use Rattle.cnf_core.specs.declared.stop.Stop.{Stop}
use Rattle.cnf_core.specs.declared.stop.Stop.TheVariants.{Spent, Memory}
use Rattle.circuits.specs.Matches.{HavePorts}
use Rattle.net_core.specs.Sides.{Graphs}
use Rattle.net_core.specs.declared.matching.Matching.{Matching}
use Rattle.net_core.specs.declared.graphs.Side.TheVariants.{First, Second}
use Rattle.net_core.specs.Sides.{graph_of}
use Rattle.claim_core.specs.declared.claims.Claim.{Claim}
use Rattle.claim_core.specs.declared.claims.Shape.{Shape}
use Rattle.claim_core.specs.declared.claims.Shape.TheVariants.{Up, Down, Swap}
use Rattle.claim_core.specs.declared.query.Feed.{Feed}
use Rattle.claim_core.specs.declared.query.Feed.TheVariants.{Fixed, Wire}
use Rattle.claim_core.specs.declared.query.Query.{Query}
use Rattle.claim_core.specs.Claims.{IsClaim, IsPlaced}
use Rattle.claim_core.specs.ClaimQueries.{claim_query, values_feed, with_fixed}
use Rattle.claim_core.specs.MatchQueries.{match_query, straight}
use Rattle.query_core.specs.Ledgers.{Ledgered}
use Rattle.claim_core.proofs.MatchLemmas.{straight_count}
use Rattle.account_core.specs.declared.fact.Evidence.{Evidence}
use Rattle.account_core.specs.declared.fact.Evidence.TheVariants.{Fails}
use Rattle.account_core.specs.declared.fact.Fact.{Fact}
use Rattle.oracle_core.specs.Work.{IsOfMatch, IsWorkOfClaimsAndMatches}
use Rattle.account_core.specs.Facts.{AreFacts, IsEvidence, IsFact}
use Rattle.oracle_core.specs.declared.oracle.Compared.TheVariants.{Differs}
use Rattle.oracle_core.specs.Oracles.{Claims, Compares, Grows, IsAnswered, IsDifference, IsNumberOf, IsStopped, Keeps, Known, Serves, Suits}
use Rattle.oracle_core.proofs.ServeLemmas.{grows_same, keeps_same, served_one, serves_last, serves_ok}
use Rattle.work_bound.proofs.WorkLemmas.{few_lines_of_work}
use Rattle.ask_core.specs.declared.question.Answer.{Answer}
use Rattle.ask_core.specs.declared.question.Answer.TheVariants.{Vector}
use Rattle.ask_core.specs.Answers.{IsAnswer}
use Rattle.fact_tests.specs.Kept.{Kept}
use Rattle.fact_tests.specs.Asking.{IsDecided, IsHalted}
use Rattle.fact_tests.specs.Books.{IsKept, known_by}
use Rattle.fact_tests.proofs.MatchBits.{met_difference}
use Rattle.fact_tests.proofs.StructureLemmas.{apart_from, own_bit}
use Rattle.fact_tests.proofs.WorkLemmas.{IsUnanswered, asked_keeps, asked_suits, asked_work}
use Rattle.claim_core.proofs.FeedLemmas.{straight_at}
use Rattle.sim_signature.specs.Sightings.{first_of, last_of}

-- ---- different claims ask different queries

abbrev first_value : Shape → Bool
first_value (Up i) = false
first_value (Down i) = true
first_value (Swap i j a b) = a

abbrev second_value : Shape → Bool
second_value (Up i) = false
second_value (Down i) = true
second_value (Swap i j a b) = b

first_below : (n : ℕ) (shape : Shape) → IsPlaced n shape → first_of shape < n
first_below n (Up i) placed = placed
first_below n (Down i) placed = placed
first_below n (Swap i j a b) placed = omega (arith, placed.0, placed.1)

second_below : (n : ℕ) (shape : Shape) → IsPlaced n shape → last_of shape < n
second_below n (Up i) placed = placed
second_below n (Down i) placed = placed
second_below n (Swap i j a b) placed = placed.1

first_second : (n : ℕ) (shape : Shape) → IsPlaced n shape → first_of shape ≤ last_of shape
first_second n (Up i) placed = omega arith
first_second n (Down i) placed = omega arith
first_second n (Swap i j a b) placed = omega (arith, placed.0)

first_fixed : (n : ℕ) (shape : Shape) (d : Feed) → IsPlaced n shape → slice_index_or (values_feed n shape) (first_of shape) d ≡ Fixed (first_value shape)
first_fixed n (Up i) d placed = get_or-set_same (straight n) i (Fixed false) d (omega (arith, placed, straight_count n))
first_fixed n (Down i) d placed = get_or-set_same (straight n) i (Fixed true) d (omega (arith, placed, straight_count n))
first_fixed n (Swap i j a b) d placed =
    let apart : i ≢ j = omega (arith, placed.0) in
    get_or-set_other (with_fixed i a (straight n)) j i (Fixed b) d apart ∙ get_or-set_same (straight n) i (Fixed a) d (omega (arith, placed.0, placed.1, straight_count n))

second_fixed : (n : ℕ) (shape : Shape) (d : Feed) → IsPlaced n shape → slice_index_or (values_feed n shape) (last_of shape) d ≡ Fixed (second_value shape)
second_fixed n (Up i) d placed = first_fixed n (Up i) d placed
second_fixed n (Down i) d placed = first_fixed n (Down i) d placed
second_fixed n (Swap i j a b) d placed =
    get_or-set_same (with_fixed i a (straight n)) j (Fixed b) d (omega (arith, placed.1, length-set (straight n) i (Fixed a), straight_count n))

-- a fixed input is one of the shape's
among : (n k : ℕ) (shape : Shape) (d : Feed) (b : Bool) → k < n → slice_index_or (values_feed n shape) k d ≡ Fixed b → (k ≡ first_of shape) ⊎ (k ≡ last_of shape)
among n k shape d b below is =
    elim (cases_eq k (first_of shape)) [
      | inl one ↦ inl one
      | inr not_one ↦
          elim (cases_eq k (last_of shape)) [
            | inl other ↦ inr other
            | inr not_other ↦
                let wire : Wire k false ≡ Fixed b = sym (straight_at n k d below) ∙ (sym (own_bit n k shape d (apart_from k shape not_one not_other)) ∙ is) in
                absurd (clash k b wire)
          ]
    ]
  where
    clash : (k : ℕ) (b : Bool) → Wire k false ≡ Fixed b → ⊥
    clash k b e = cc

pick : (a b c d : ℕ) → a ≤ b → c ≤ d → (a ≡ c) ⊎ (a ≡ d) → (b ≡ c) ⊎ (b ≡ d) → (c ≡ a) ⊎ (c ≡ b) → (d ≡ a) ⊎ (d ≡ b) → (a ≡ c) × (b ≡ d)
pick a b c d l m (inl p) (inr q) u w = (p, q)
pick a b c d l m (inl p) (inl q) u (inl w) = (p, omega (arith, p, q, w))
pick a b c d l m (inl p) (inl q) u (inr w) = (p, omega (arith, p, q, w))
pick a b c d l m (inr p) (inr q) (inl u) w = (omega (arith, p, q, u), q)
pick a b c d l m (inr p) (inr q) (inr u) w = (omega (arith, p, q, u), q)
pick a b c d l m (inr p) (inl q) u w = (omega (arith, p, q, l, m), omega (arith, p, q, l, m))

module _ (n : ℕ) (s t : Shape) (placed : IsPlaced n s) (other : IsPlaced n t) (same : values_feed n s ≡ values_feed n t) where
  none : Feed
  none = Fixed false

  same_places : (first_of s ≡ first_of t) × (last_of s ≡ last_of t)
  same_places =
      pick (first_of s) (last_of s) (first_of t) (last_of t) (first_second n s placed) (first_second n t other) (among n (first_of s) t none (first_value s) (first_below n s placed) (ap (λ f. slice_index_or f (first_of s) none) (sym same) ∙ first_fixed n s none placed)) (among n (last_of s) t none (second_value s) (second_below n s placed) (ap (λ f. slice_index_or f (last_of s) none) (sym same) ∙ second_fixed n s none placed)) (among n (first_of t) s none (first_value t) (first_below n t other) (ap (λ f. slice_index_or f (first_of t) none) same ∙ first_fixed n t none other)) (among n (last_of t) s none (second_value t) (second_below n t other) (ap (λ f. slice_index_or f (last_of t) none) same ∙ second_fixed n t none other))

  first_same : Fixed (first_value s) ≡ Fixed (first_value t)
  first_same = sym (first_fixed n s none placed) ∙ (ap (λ f. slice_index_or f (first_of s) none) same ∙ (ap (λ k. slice_index_or (values_feed n t) k none) same_places.0 ∙ first_fixed n t none other))

  second_same : Fixed (second_value s) ≡ Fixed (second_value t)
  second_same = sym (second_fixed n s none placed) ∙ (ap (λ f. slice_index_or f (last_of s) none) same ∙ (ap (λ k. slice_index_or (values_feed n t) k none) same_places.1 ∙ second_fixed n t none other))

by_parts : (n : ℕ) (s t : Shape) → IsPlaced n s → IsPlaced n t → first_of s ≡ first_of t → last_of s ≡ last_of t → Fixed (first_value s) ≡ Fixed (first_value t) → Fixed (second_value s) ≡ Fixed (second_value t) → s ≡ t
by_parts n (Up i) (Up j) p q f g v w = ap Up f
by_parts n (Up i) (Down j) p q f g v w = cc
by_parts n (Up i) (Swap k l a b) p q f g v w = absurd (omega (arith, f, g, q.0))
by_parts n (Down i) (Up j) p q f g v w = cc
by_parts n (Down i) (Down j) p q f g v w = ap Down f
by_parts n (Down i) (Swap k l a b) p q f g v w = absurd (omega (arith, f, g, q.0))
by_parts n (Swap k l a b) (Up i) p q f g v w = absurd (omega (arith, f, g, p.0))
by_parts n (Swap k l a b) (Down i) p q f g v w = absurd (omega (arith, f, g, p.0))
by_parts n (Swap i j a b) (Swap k l c d) p q f g v w = cc

pub claim_same : (graphs : Graphs) (c d : Claim) → IsClaim graphs c → IsClaim graphs d → claim_query graphs c ≡ claim_query graphs d → c ≡ d
claim_same graphs c d placed other same =
    let side : c.side ≡ d.side = ap (λ (q : Query). q.left.side) same in
    let output : c.output ≡ d.output = ap (λ (q : Query). q.left.output) same in
    let n = (graph_of graphs c.side).inputs in
    let inputs : (graph_of graphs d.side).inputs ≡ n = ap (λ s. (graph_of graphs s).inputs) (sym side) in
    let feeds : values_feed n c.shape ≡ values_feed n d.shape = ap (λ (q : Query). q.left.feed) same ∙ ap (λ m. values_feed m d.shape) inputs in
    let there : IsPlaced n d.shape = subst (λ m. IsPlaced m d.shape) inputs other.placed in
    let places = same_places n c.shape d.shape placed.placed there feeds in
    let shape : c.shape ≡ d.shape = by_parts n c.shape d.shape placed.placed there places.0 places.1 (first_same n c.shape d.shape placed.placed there feeds) (second_same n c.shape d.shape placed.placed there feeds) in
    λ i. record { side = side i; output = output i; shape = shape i }

-- a claim's query isn't one of a match
pub not_of_match : (graphs : Graphs) (claim : Claim) (query : Query) → IsOfMatch graphs query → query ≡ claim_query graphs claim → ⊥
not_of_match graphs claim query of_match is =
    let left : First ≡ claim.side = sym (ap (λ (q : Query). q.left.side) of_match.query_is) ∙ ap (λ (q : Query). q.left.side) is in
    let right : Second ≡ claim.side = sym (ap (λ (q : Query). q.right.side) of_match.query_is) ∙ ap (λ (q : Query). q.right.side) is in
    clash (left ∙ sym right)
  where
    clash : First ≡ Second → ⊥
    clash e = cc

-- ---- what is among the answered queries

any_left : {X : Type 0} (P : X → Type 0) (xs ys : List X) → Any P xs → Any P (xs ++ ys)
any_left {X} P xs ys (k, x, below, at, p) =
    (k, x, omega (arith, below, length-append xs ys), get_or_append_left xs ys x k below ∙ at, p)

any_right : {X : Type 0} (P : X → Type 0) (xs ys : List X) → Any P ys → Any P (xs ++ ys)
any_right {X} P xs ys (k, x, below, at, p) =
    (length xs + k, x, omega (arith, below, length-append xs ys), get_or-append-add xs ys k x ∙ at, p)

any_split : {X : Type 0} (P : X → Type 0) (xs ys : List X) → Any P (xs ++ ys) → Any P xs ⊎ Any P ys
any_split {X} P xs ys (k, x, below, at, p) =
    elim (cases_lt k (length xs)) [
      | inl less ↦ inl (k, x, less, sym (get_or_append_left xs ys x k less) ∙ at, p)
      | inr past ↦
          let j = k - length xs in
          let n : k ≡ length xs + j = omega (arith, past) in
          inr (j, x, omega (arith, n, below, length-append xs ys), sym (get_or-append-add xs ys j x) ∙ (ap (λ i. slice_index_or (xs ++ ys) i x) (sym n) ∙ at), p)
    ]

-- some element of a list is mapped there
any_map : {X Y : Type 0} (f : X → Y) (y : Y) (e : X) (xs : List X) → Any (λ other. other ≡ y) (map f xs) → (k : ℕ) × (k < length xs) × (f (slice_index_or xs k e) ≡ y)
any_map {X} {Y} f y e xs (k, x, below, at, p) =
    let within : k < length xs = omega (arith, below, length-map xs f) in
    (k, within, sym (get_or-map f xs k e x within) ∙ (at ∙ p))

module _ (graphs : Graphs) (facts : List Fact) (kept : List Kept) where
  abbrev of_fact : Fact → Query
  of_fact fact = claim_query graphs fact.claim

  abbrev of_kept : Kept → Query
  of_kept entry = entry.query

  pub unanswered_claim : (claim : Claim) → All (IsFact graphs) facts → All (IsKept graphs) kept → IsClaim graphs claim → All (λ fact. fact.claim ≢ claim) facts → IsAnswered (known_by graphs facts kept) (claim_query graphs claim) → ⊥
  unanswered_claim claim each keeps placed missing answered =
      elim (any_split (λ other. other ≡ claim_query graphs claim) (map of_fact facts) (map of_kept kept) answered) [
        | inl any ↦
            let e : Fact = record { claim = claim; evidence = Fails [] } in
            let at = any_map of_fact (claim_query graphs claim) e facts any in
            missing at.0 e at.1 (claim_same graphs (slice_index_or facts at.0 e).claim claim (each at.0 e at.1).placed placed at.2)
        | inr any ↦
            let e : Kept = record { query = claim_query graphs claim; answer = Vector [] } in
            let at = any_map of_kept (claim_query graphs claim) e kept any in
            not_of_match graphs claim (slice_index_or kept at.0 e).query (keeps at.0 e at.1).of_match at.2
      ]

  pub unanswered_match : (query : Query) → IsOfMatch graphs query → All (λ entry. entry.query ≢ query) kept → IsAnswered (known_by graphs facts kept) query → ⊥
  unanswered_match query of_match missing answered =
      elim (any_split (λ other. other ≡ query) (map of_fact facts) (map of_kept kept) answered) [
        | inl any ↦
            let e : Fact = record { claim = record { side = First; output = 0; shape = Up 0 }; evidence = Fails [] } in
            let at = any_map of_fact query e facts any in
            not_of_match graphs (slice_index_or facts at.0 e).claim query of_match (sym at.2)
        | inr any ↦
            let e : Kept = record { query = query; answer = Vector [] } in
            let at = any_map of_kept query e kept any in
            missing at.0 e at.1 at.2
      ]

  -- a fact more
  pub more_facts : (fact : Fact) (query : Query) → IsAnswered (known_by graphs facts kept) query → IsAnswered (known_by graphs (facts ++ fact ∷ []) kept) query
  more_facts fact query answered =
      let P : Query → Type 0 = λ other. other ≡ query in
      let now : Any P ((map of_fact facts ++ of_fact fact ∷ []) ++ map of_kept kept) = elim (any_split P (map of_fact facts) (map of_kept kept) answered) [
        | inl any ↦ any_left P (map of_fact facts ++ of_fact fact ∷ []) (map of_kept kept) (any_left P (map of_fact facts) (of_fact fact ∷ []) any)
        | inr any ↦ any_right P (map of_fact facts ++ of_fact fact ∷ []) (map of_kept kept) any
      ] in
      subst (λ qs. Any P (qs ++ map of_kept kept)) (sym (map_push of_fact facts fact)) now

  pub new_fact : (fact : Fact) → IsAnswered (known_by graphs (facts ++ fact ∷ []) kept) (of_fact fact)
  new_fact fact =
      let P : Query → Type 0 = λ other. other ≡ of_fact fact in
      subst (λ qs. Any P (qs ++ map of_kept kept)) (sym (map_push of_fact facts fact)) (any_left P (map of_fact facts ++ of_fact fact ∷ []) (map of_kept kept) (Any-push P (map of_fact facts) (of_fact fact) refl))

  -- an answer more
  pub more_kept : (entry : Kept) (query : Query) → IsAnswered (known_by graphs facts kept) query → IsAnswered (known_by graphs facts (kept ++ entry ∷ [])) query
  more_kept entry query answered =
      let P : Query → Type 0 = λ other. other ≡ query in
      let now : Any P (map of_fact facts ++ (map of_kept kept ++ of_kept entry ∷ [])) = elim (any_split P (map of_fact facts) (map of_kept kept) answered) [
        | inl any ↦ any_left P (map of_fact facts) (map of_kept kept ++ of_kept entry ∷ []) any
        | inr any ↦ any_right P (map of_fact facts) (map of_kept kept ++ of_kept entry ∷ []) (any_left P (map of_kept kept) (of_kept entry ∷ []) any)
      ] in
      subst (λ qs. Any P (map of_fact facts ++ qs)) (sym (map_push of_kept kept entry)) now

  pub new_kept : (entry : Kept) → IsAnswered (known_by graphs facts (kept ++ entry ∷ [])) entry.query
  new_kept entry =
      let P : Query → Type 0 = λ other. other ≡ entry.query in
      subst (λ qs. Any P (map of_fact facts ++ qs)) (sym (map_push of_kept kept entry)) (any_right P (map of_fact facts) (map of_kept kept ++ of_kept entry ∷ []) (Any-push P (map of_kept kept) (of_kept entry) refl))

-- ---- what a call does

facts_more : (graphs : Graphs) (facts : List Fact) (fact : Fact) → AreFacts graphs facts → All (λ other. other.claim ≢ fact.claim) facts → IsFact graphs fact → AreFacts graphs (facts ++ fact ∷ [])
facts_more graphs facts fact are missing is = record {
  each = All-push (IsFact graphs) facts fact are.each is;
  distinct = all_pairs_push (λ (one other : Fact). one.claim ≢ other.claim) facts fact are.distinct missing;
}

same_suits : (known later : Known) (ledger : Ledgered) → later.graphs ≡ known.graphs → ((q : Query) → IsAnswered known q → IsAnswered later q) → Suits known ledger → Suits later ledger
same_suits known later ledger graphs more suits = record {
  work = subst (λ (g : Graphs). IsWorkOfClaimsAndMatches g ledger) (sym graphs) suits.work;
  unspent = suits.unspent;
  answered = λ k d below charged. more (slice_index_or ledger.asked k d).query (suits.answered k d below charged);
}

module _ (known : Known) (query : Query) (before after : Ledgered) (fresh : IsUnanswered known query) (suits : Suits known before) where
  decided_keeps : IsDecided known.graphs query before after → Keeps known before after
  decided_keeps (inl same) = subst (Keeps known before) (sym same) (keeps_same known before)
  decided_keeps (inr asked) = asked_keeps known query before after fresh asked

  decided_suits : (later : Known) → Grows known later → IsAnswered later query → IsDecided known.graphs query before after → after.spent ≡ false → Suits later after
  decided_suits later grows answered (inl same) unspent =
      subst (Suits later) (sym same) (same_suits known later before grows.graphs grows.answered suits)
  decided_suits later grows answered (inr asked) unspent =
      asked_suits known query before after fresh asked later grows.graphs grows.answered answered unspent suits

  pub serves_decided : {X : Type 0} (later : Known) (answer : X) → Grows known later → IsAnswered later query → IsDecided known.graphs query before after → after.spent ≡ false → Serves {X = X} known later before after (Ok answer)
  serves_decided {X} later answer grows answered decided unspent = record {
    grows = grows;
    suits = decided_suits later grows answered decided unspent;
    keeps = decided_keeps decided;
    stopped = tt;
  }

  halted_stopped : (stop : Stop) → IsHalted known.graphs query before after stop → IsStopped known before after stop
  halted_stopped Memory halted = tt
  halted_stopped (Spent learned) halted = record {
    learned_is = halted.learned_is;
    used = halted.used;
    made = halted.made;
    refused = halted.spent;
    work = asked_work known query before after fresh halted.asked suits;
    keeps = asked_keeps known query before after fresh halted.asked;
    below = λ many. omega (arith, few_lines_of_work known.graphs after many (asked_work known query before after fresh halted.asked suits), halted.made);
  }

  pub serves_halted : {X : Type 0} (stop : Stop) → AreFacts known.graphs known.facts → IsHalted known.graphs query before after stop → Serves {X = X} known known before after (Err stop)
  serves_halted {X} stop lawful halted = record {
    grows = grows_same known lawful;
    suits = tt;
    keeps = tt;
    stopped = halted_stopped stop halted;
  }

-- one call after another
pub answers_then : {X Y : Type 0} (old mid new : Known) (before between after : Ledgered) (r : Result X Stop) (x : X) (s : Result Y Stop) → r ≡ Ok x → Serves {X = X} old mid before between r → Serves {X = Y} mid new between after s → Serves {X = Y} old new before after s
answers_then {X} old mid new before between after r x s is one other =
    serves_last old mid new before between after s (served_one old mid before between x (subst (λ (q : Result X Stop). Serves {X = X} old mid before between q) is one)) other

-- a vector answers the query of a match, and is a difference
pub differs : (matching : Matching) (k : ℕ) (value : Bool) (old new : Known) (before after : Ledgered) (r : Result Answer Stop) (answer : Answer) (x bits : List Bool) → HavePorts old.graphs.first old.graphs.second matching.inputs matching.outputs → Serves {X = Answer} old new before after r → r ≡ Ok answer → answer ≡ Vector x → IsAnswer old.graphs (match_query old.graphs.first.inputs matching k value) answer → bits ≡ x → Compares matching k old new before after (Ok (Differs bits))
differs matching k value old new before after r answer x bits ports serves is vector_is right bits_are =
    let told = subst (IsAnswer old.graphs (match_query old.graphs.first.inputs matching k value)) vector_is right in
    record {
      serves = serves_ok old new before after (Ok (Differs bits)) (Differs bits) refl (served_one old new before after answer (subst (λ (q : Result Answer Stop). Serves {X = Answer} old new before after q) is serves));
      compared = subst (IsDifference old.graphs matching k) (sym bits_are) (met_difference old.graphs matching k value x ports told.bits told.meets);
    }

-- ---- a claim is decided

module _ (graphs : Graphs) (facts : List Fact) (kept : List Kept) (claim : Claim) (known : Known) (is : known_by graphs facts kept ≡ known) (are : AreFacts graphs facts) (keeps : All (IsKept graphs) kept) (placed : IsClaim known.graphs claim) (missing : All (λ fact. fact.claim ≢ claim) known.facts) where
  placed_here : IsClaim graphs claim
  placed_here = subst (λ (k : Known). IsClaim k.graphs claim) (sym is) placed

  missing_here : All (λ fact. fact.claim ≢ claim) facts
  missing_here = subst (λ (k : Known). All (λ fact. fact.claim ≢ claim) k.facts) (sym is) missing

  fresh_claim : IsUnanswered (known_by graphs facts kept) (claim_query graphs claim)
  fresh_claim = record {
    never = unanswered_claim graphs facts kept claim are.each keeps placed_here missing_here;
    of_known = inl (claim, placed_here, refl);
  }

  not_held : {T : Type 0} (number : ℕ) → IsNumberOf known.facts claim number → T
  not_held {T} number number_is =
      let e : Fact = record { claim = claim; evidence = Fails [] } in
      absurd (missing number e number_is.within (number_is.claim_is e))

  pub claim_lawful : (evidence : Evidence) (later : List Fact) → IsEvidence graphs claim evidence → later ≡ facts ++ record { claim = claim; evidence = evidence } ∷ [] → AreFacts graphs later
  claim_lawful evidence later evident more =
      subst (AreFacts graphs) (sym more) (facts_more graphs facts (record { claim = claim; evidence = evidence }) are missing_here (record { placed = placed_here; evidence = evident }))

  pub claims_ok : (before after : Ledgered) (evidence : Evidence) (later : List Fact) (number : ℕ) → IsEvidence graphs claim evidence → IsDecided graphs (claim_query graphs claim) before after → after.spent ≡ false → Suits known before → later ≡ facts ++ record { claim = claim; evidence = evidence } ∷ [] → number ≡ length facts → Claims claim known (known_by graphs later kept) before after (Ok number)
  claims_ok before after evidence later number evident decided unspent suits more number_is =
      let fact : Fact = record { claim = claim; evidence = evidence } in
      let grows : Grows (known_by graphs facts kept) (known_by graphs later kept) = record {
        graphs = refl;
        added = fact ∷ [];
        facts = more;
        lawful = claim_lawful evidence later evident more;
        answered = λ query answered. subst (λ (fs : List Fact). IsAnswered (known_by graphs fs kept) query) (sym more) (more_facts graphs facts kept fact query answered);
      } in
      let answered : IsAnswered (known_by graphs later kept) (claim_query graphs claim) = subst (λ (fs : List Fact). IsAnswered (known_by graphs fs kept) (claim_query graphs claim)) (sym more) (new_fact graphs facts kept fact) in
      let suits_here = subst (λ (k : Known). Suits k before) (sym is) suits in
      let serves = serves_decided (known_by graphs facts kept) (claim_query graphs claim) before after fresh_claim suits_here {X = ℕ} (known_by graphs later kept) number grows answered decided unspent in
      let n : number ≡ length facts + 0 = omega (arith, number_is) in
      record {
        serves = subst (λ (k : Known). Serves {X = ℕ} k (known_by graphs later kept) before after (Ok number)) is serves;
        number = record {
          within = omega (arith, number_is, ap length more, length-append facts (fact ∷ []));
          claim_is = λ d. ap (λ (f : Fact). f.claim) (ap (λ (fs : List Fact). slice_index_or fs number d) more ∙ (ap (λ k. slice_index_or (facts ++ fact ∷ []) k d) n ∙ get_or-append-add facts (fact ∷ []) 0 d));
        };
        held = λ number number_is. not_held number number_is;
      }

  pub claims_stopped : (before after : Ledgered) (later : List Fact) (r : Result ℕ Stop) (stop : Stop) → later ≡ facts → IsErrAnd r (λ e. e ≡ stop) → Suits known before → IsHalted graphs (claim_query graphs claim) before after stop → Claims claim known (known_by graphs later kept) before after r
  claims_stopped before after later (Ok number) stop same and suits halted = absurd and
  claims_stopped before after later (Err other) stop same and suits halted =
      let suits_here = subst (λ (k : Known). Suits k before) (sym is) suits in
      let halted_too = subst (IsHalted graphs (claim_query graphs claim) before after) (sym and) halted in
      let serves = serves_halted (known_by graphs facts kept) (claim_query graphs claim) before after fresh_claim suits_here {X = ℕ} other are halted_too in
      subst (λ (fs : List Fact). Claims claim known (known_by graphs fs kept) before after (Err other)) (sym same) (record {
        serves = subst (λ (k : Known). Serves {X = ℕ} k (known_by graphs facts kept) before after (Err other)) is serves;
        number = tt;
        held = λ number number_is. not_held number number_is;
      })

-- ---- a query of a match is answered

module _ (graphs : Graphs) (facts : List Fact) (kept : List Kept) (query : Query) (known : Known) (is : known_by graphs facts kept ≡ known) (are : AreFacts graphs facts) (of_match : IsOfMatch known.graphs query) (missing : IsAnswered known query → ⊥) where
  match_here : IsOfMatch graphs query
  match_here = subst (λ (k : Known). IsOfMatch k.graphs query) (sym is) of_match

  fresh_match : IsUnanswered (known_by graphs facts kept) query
  fresh_match = record {
    never = λ answered. missing (subst (λ (k : Known). IsAnswered k query) is answered);
    of_known = inr match_here;
  }

  pub missing_kept : All (λ entry. entry.query ≢ query) kept
  missing_kept i d below same =
      let of_kept : Kept → Query = λ (entry : Kept). entry.query in
      let of_fact : Fact → Query = λ (fact : Fact). claim_query graphs fact.claim in
      let x = of_kept (slice_index_or kept i d) in
      let there : i < length (map of_kept kept) = omega (arith, below, length-map kept of_kept) in
      fresh_match.never (any_right (λ other. other ≡ query) (map of_fact facts) (map of_kept kept) (i, x, there, get_or-map of_kept kept i d x below, same))

  pub kept_more : (answer : Answer) (later : List Kept) → All (IsKept graphs) kept → IsAnswer graphs query answer → later ≡ kept ++ record { query = query; answer = answer } ∷ [] → All (IsKept graphs) later
  kept_more answer later keeps answer_is more =
      subst (All (IsKept graphs)) (sym more) (All-push (IsKept graphs) kept (record { query = query; answer = answer }) keeps (record { of_match = match_here; answer = answer_is }))

  pub answer_ok : {X : Type 0} (before after : Ledgered) (answer : Answer) (later : List Kept) (x : X) → IsDecided graphs query before after → after.spent ≡ false → Suits known before → later ≡ kept ++ record { query = query; answer = answer } ∷ [] → Serves {X = X} known (known_by graphs facts later) before after (Ok x)
  answer_ok {X} before after answer later x decided unspent suits more =
      let entry : Kept = record { query = query; answer = answer } in
      let grows : Grows (known_by graphs facts kept) (known_by graphs facts later) = record {
        graphs = refl;
        added = [];
        facts = sym (append-nil facts);
        lawful = are;
        answered = λ q answered. subst (λ (ks : List Kept). IsAnswered (known_by graphs facts ks) q) (sym more) (more_kept graphs facts kept entry q answered);
      } in
      let answered : IsAnswered (known_by graphs facts later) query = subst (λ (ks : List Kept). IsAnswered (known_by graphs facts ks) query) (sym more) (new_kept graphs facts kept entry) in
      let suits_here = subst (λ (k : Known). Suits k before) (sym is) suits in
      let serves = serves_decided (known_by graphs facts kept) query before after fresh_match suits_here {X = X} (known_by graphs facts later) x grows answered decided unspent in
      subst (λ (k : Known). Serves {X = X} k (known_by graphs facts later) before after (Ok x)) is serves

  pub answer_stopped : {X : Type 0} (before after : Ledgered) (r : Result X Stop) (stop : Stop) → IsErrAnd r (λ e. e ≡ stop) → Suits known before → IsHalted graphs query before after stop → Serves {X = X} known known before after r
  answer_stopped {X} before after (Ok x) stop and suits halted = absurd and
  answer_stopped {X} before after (Err other) stop and suits halted =
      let suits_here = subst (λ (k : Known). Suits k before) (sym is) suits in
      let halted_too = subst (IsHalted graphs query before after) (sym and) halted in
      let serves = serves_halted (known_by graphs facts kept) query before after fresh_match suits_here {X = X} other are halted_too in
      subst (λ (k : Known). Serves {X = X} k k before after (Err other)) is serves
