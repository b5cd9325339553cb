-- What one query more makes of a ledger of comparisons.
use Rattle.std.proofs.Common.{◌≡◌, ◌≢◌, ◌⊎◌, ℕ, ◌+◌, ◌<◌, ◌≤◌, Bool, true, false, List, [], ◌∷◌, ◌++◌, length, take, All, AllPairs, slice_index_or, inl, inr, refl, sym, ap, subst, ◌∙◌, arith}
use Rattle.std.proofs.lemmas.Bool.{false≢true}
use Rattle.std.proofs.lemmas.List.{get_or-take, length-take}
use Rattle.std.proofs.lemmas.List.Elements.{All-push, All-take}
use Rattle.std.proofs.lemmas.List.Quantifiers.{all_pairs_push}
use Rattle.circuits.specs.Netlists.{Net}
use Rattle.cnf_core.specs.declared.stop.Stop.{Stop}
use Rattle.cnf_core.specs.declared.stop.Stop.TheVariants.{Spent, Memory}
use Rattle.net_core.specs.Sides.{Graphs}
use Rattle.claim_core.specs.declared.query.Query.{Query}
use Rattle.query_core.specs.declared.ledger.Asked.{Asked}
use Rattle.query_core.specs.Ledgers.{Ledgered, charged_front}
use Rattle.oracle_core.specs.Work.{AreApart, IsWork, IsWorkOn}
use Rattle.sweep.specs.Asking.{IsAsked, IsDecided, IsHalted, entry_with}
use Rattle.sweep.proofs.FrontLemmas.{IsFront, front_is}
use Rattle.sweep.specs.declared.comparing.SignalPair.{SignalPair}
use Rattle.sweep.specs.Comparing.{HasCompared, IsEarlier, IsPair, IsPairQuery, IsStopped, pair_query}
use Rattle.sweep.specs.Exposed.{both}

-- A query was asked: what holds of each query before and of it holds of all, and its entry is work beside the others.
module _ (graphs : Graphs) (query : Query) (before after : Ledgered) (new : IsAsked graphs query before after) where
  abbrev entry : Asked
  entry = entry_with query new.lemmas new.lines

  abbrev front : IsFront before.asked (charged_front before.asked)
  front = front_is before.asked

  whole : after.asked ≡ take front.count before.asked ++ entry ∷ []
  whole = new.asked ∙ ap (λ (xs : List Asked). xs ++ entry ∷ []) front.is

  all_entries : (P : Asked → Type 0) → All P before.asked → P entry → All P after.asked
  all_entries P each last =
      subst (All P) (sym whole) (All-push P (take front.count before.asked) entry (All-take P front.count before.asked each) last)

  pub all_queries : (P : Query → Type 0) → All (λ (e : Asked). P e.query) before.asked → P query → All (λ (e : Asked). P e.query) after.asked
  all_queries P each last = all_entries (λ (e : Asked). P e.query) each last

  pub work_more : All (λ (e : Asked). e.query ≢ query) before.asked → IsWork graphs before → IsWork graphs after
  work_more fresh work = record {
    entries = all_entries (IsWorkOn graphs) work.entries new.work;
    once =
        let apart = All-take (λ (e : Asked). e.query ≢ query) front.count before.asked fresh in
        subst (AllPairs AreApart) (sym whole) (all_pairs_push AreApart (take front.count before.asked) entry (pairs_take front.count before.asked front.within work.once) (λ k d below one other same. apart k d below same));
  }
    where
      pairs_take : (n : ℕ) (xs : List Asked) → n ≤ length xs → AllPairs AreApart xs → AllPairs AreApart (take n xs)
      pairs_take n xs within pairs i j d less below =
          let size : length (take n xs) ≡ n = omega (arith, length-take n xs, within) in
          let here : j < n = omega (arith, below, size) in
          let first : i < n = omega (arith, less, here) in
          subst (λ x. AreApart x (slice_index_or (take n xs) j d)) (sym (get_or-take n xs i d first)) (subst (AreApart (slice_index_or xs i d)) (sym (get_or-take n xs j d here)) (pairs i j d less (omega (arith, here, within))))

-- the same where it may be that nothing was asked
pub queries_decided : (graphs : Graphs) (query : Query) (before after : Ledgered) → IsDecided graphs query before after → (P : Query → Type 0) → All (λ (e : Asked). P e.query) before.asked → P query → All (λ (e : Asked). P e.query) after.asked
queries_decided graphs query before after (inl same) P each last =
    subst (λ (l : Ledgered). All (λ (e : Asked). P e.query) l.asked) (sym same) each
queries_decided graphs query before after (inr new) P each last = all_queries graphs query before after new P each last

pub work_decided : (graphs : Graphs) (query : Query) (before after : Ledgered) → IsDecided graphs query before after → All (λ (e : Asked). e.query ≢ query) before.asked → IsWork graphs before → IsWork graphs after
work_decided graphs query before after (inl same) fresh work = subst (IsWork graphs) (sym same) work
work_decided graphs query before after (inr new) fresh work = work_more graphs query before after new fresh work

pub budget_decided : (graphs : Graphs) (query : Query) (before after : Ledgered) → IsDecided graphs query before after → after.budget ≡ before.budget
budget_decided graphs query before after (inl same) = ap (λ (l : Ledgered). l.budget) same
budget_decided graphs query before after (inr new) = new.budget

-- a query that compares a pair
abbrev pub OfPair : Net → SignalPair → Bool → Query → Type 0
OfPair net pair value query = IsEarlier pair.other (pair.one + 1) query ⊎ (query ≡ pair_query net.inputs pair value)

-- An earlier one isn't it, nor is that of the other value.
pub earlier_apart : (net : Net) (pair : SignalPair) (value : Bool) (query : Query) → IsEarlier pair.other (pair.one + 1) query → query ≢ pair_query net.inputs pair value
earlier_apart net pair value query (inl before) same = omega (arith, before, ap (λ (q : Query). q.right.output) same)
earlier_apart net pair value query (inr (at, later)) same = omega (arith, later, ap (λ (q : Query). q.left.output) same)

pub half_apart : (net : Net) (pair : SignalPair) (query : Query) → OfPair net pair true query → query ≢ pair_query net.inputs pair false
half_apart net pair query (inl earlier) same = earlier_apart net pair false query earlier same
half_apart net pair query (inr half) same = false≢true (ap (λ (q : Query). q.left_value) (sym same ∙ half))

-- and it is one of those that come before the pair with an earlier signal
pub pair_earlier : (net : Net) (pair : SignalPair) (value : Bool) (query : Query) → OfPair net pair value query → IsEarlier pair.other pair.one query
pair_earlier net pair value query (inl (inl before)) = inl before
pair_earlier net pair value query (inl (inr (at, later))) = inr (at, omega (arith, later))
pair_earlier net pair value query (inr same) =
    inr (ap (λ (q : Query). q.right.output) same, omega (arith, ap (λ (q : Query). q.left.output) same))

pub is_pair_query : (net : Net) (pair : SignalPair) (value : Bool) → IsPair net pair → IsPairQuery net (pair_query net.inputs pair value)
is_pair_query net pair value is = record { pair = pair; value = value; is = is; query_is = refl }

-- The query of the first value was asked.
pub record HasHalf (net : Net) (pair : SignalPair) (budget : ℕ) (ledger : Ledgered) : Type 0 where
  pub work : IsWork (both net) ledger
  pub queries : All (λ (e : Asked). IsPairQuery net e.query) ledger.asked
  pub of_pair : All (λ (e : Asked). OfPair net pair true e.query) ledger.asked
  pub budget_is : ledger.budget ≡ budget

pub half_of : (net : Net) (pair : SignalPair) (before after : Ledgered) → IsPair net pair → HasCompared net pair.other (pair.one + 1) before → IsDecided (both net) (pair_query net.inputs pair true) before after → HasHalf net pair before.budget after
half_of net pair before after is compared decided = record {
  work = work_decided (both net) q before after decided (λ k d below. earlier_apart net pair true (slice_index_or before.asked k d).query (compared.earlier k d below)) compared.work;
  queries = queries_decided (both net) q before after decided (IsPairQuery net) compared.queries (is_pair_query net pair true is);
  of_pair = queries_decided (both net) q before after decided (OfPair net pair true) (λ k d below. inl (compared.earlier k d below)) (inr refl);
  budget_is = budget_decided (both net) q before after decided;
}
  where
    q : Query
    q = pair_query net.inputs pair true

pub half_compared : (net : Net) (pair : SignalPair) (budget : ℕ) (ledger : Ledgered) → HasHalf net pair budget ledger → ledger.spent ≡ false → HasCompared net pair.other pair.one ledger
half_compared net pair budget ledger half unspent = record {
  work = half.work;
  queries = half.queries;
  earlier = λ k d below. pair_earlier net pair true (slice_index_or ledger.asked k d).query (half.of_pair k d below);
  unspent = unspent;
}

pub whole_compared : (net : Net) (pair : SignalPair) (budget : ℕ) (half after : Ledgered) → IsPair net pair → HasHalf net pair budget half → IsDecided (both net) (pair_query net.inputs pair false) half after → after.spent ≡ false → HasCompared net pair.other pair.one after
whole_compared net pair budget half after is has decided unspent = record {
  work = work_decided (both net) q half after decided (λ k d below. half_apart net pair (slice_index_or half.asked k d).query (has.of_pair k d below)) has.work;
  queries = queries_decided (both net) q half after decided (IsPairQuery net) has.queries (is_pair_query net pair false is);
  earlier = queries_decided (both net) q half after decided (IsEarlier pair.other pair.one)
      (λ k d below. pair_earlier net pair true (slice_index_or half.asked k d).query (has.of_pair k d below))
      (pair_earlier net pair false q (inr refl));
  unspent = unspent;
}
  where
    q : Query
    q = pair_query net.inputs pair false

-- a stop at either query
pub half_stopped : (net : Net) (pair : SignalPair) (before after : Ledgered) (stop : Stop) → IsPair net pair → HasCompared net pair.other (pair.one + 1) before → IsHalted (both net) (pair_query net.inputs pair true) before after stop → IsStopped net before.budget after stop
half_stopped net pair before after Memory is compared halted = tt
half_stopped net pair before after (Spent learned) is compared halted =
    let half = half_of net pair before after is compared (inr halted.asked) in
    record {
      budget_is = half.budget_is;
      refused = halted.spent;
      used = halted.used;
      made = halted.made;
      work = half.work;
      queries = half.queries;
    }

pub whole_stopped : (net : Net) (pair : SignalPair) (budget : ℕ) (half after : Ledgered) (stop : Stop) → IsPair net pair → HasHalf net pair budget half → IsHalted (both net) (pair_query net.inputs pair false) half after stop → IsStopped net budget after stop
whole_stopped net pair budget half after Memory is has halted = tt
whole_stopped net pair budget half after (Spent learned) is has halted =
    let q = pair_query net.inputs pair false in
    let decided : IsDecided (both net) q half after = inr halted.asked in
    record {
      budget_is = budget_decided (both net) q half after decided ∙ has.budget_is;
      refused = halted.spent;
      used = halted.used ∙ has.budget_is;
      made = halted.made ∙ ap (λ (n : ℕ). n + 1) has.budget_is;
      work = work_decided (both net) q half after decided (λ k d below. half_apart net pair (slice_index_or half.asked k d).query (has.of_pair k d below)) has.work;
      queries = queries_decided (both net) q half after decided (IsPairQuery net) has.queries (is_pair_query net pair false is);
    }
