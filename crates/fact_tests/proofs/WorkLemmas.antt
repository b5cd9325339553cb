-- What asking one more query makes of a ledger.
use Rattle.std.proofs.Common.{◌≡◌, ◌⊎◌, ℕ, suc, ◌+◌, ◌-◌, ◌<◌, ◌≤◌, cond, false, List, [], ◌∷◌, ◌++◌, length, take, All, AllPairs, slice_index_or, slice_set, inl, inr, refl, sym, ap, subst, ◌∙◌, arith}
use Rattle.std.proofs.lemmas.Bool.Decides.{eqb_tells}
use Rattle.std.proofs.lemmas.Bool.{cases_lt}
use Rattle.std.proofs.lemmas.List.{get_or-take, get_or_append_left, get_or-append-add, length-append, length-take, take_all}
use Rattle.std.proofs.lemmas.List.Elements.{All-push, All-take}
use Rattle.std.proofs.lemmas.List.Quantifiers.{all_pairs_push}
use Rattle.cnf_core.specs.declared.log.LogLine.{LogLine}
use Rattle.net_core.specs.Sides.{Graphs}
use Rattle.claim_core.specs.declared.query.Query.{Query}
use Rattle.query_core.specs.declared.ledger.Asked.{Asked}
use Rattle.query_core.specs.Ledgers.{Ledgered, charged_front, entry_of, last_asked, nothing_asked, opened, with_line, with_lines}
use Rattle.oracle_core.specs.Work.{AreApart, IsCharged, IsOfClaim, IsOfMatch, IsWorkOn, IsWorkOfClaimsAndMatches}
use Rattle.ask_core.proofs.BoundLemmas.{asked_last, last_is}
use Rattle.fact_tests.specs.Asking.{IsAsked, entry_with}
use Rattle.oracle_core.specs.Oracles.{Known, IsAnswered, IsAsBefore, Keeps, Suits, entry_at}

-- one line was learned for a query that was opened
pub line_last : (query : Query) (line : LogLine) (asked : List Asked) → with_line line (opened query [] asked) ≡ charged_front asked ++ entry_with query 0 (line ∷ []) ∷ []
line_last query line asked =
    ap (λ (e : Asked). with_lines (e.lines ++ line ∷ []) (opened query [] asked)) (last_is (charged_front asked) (entry_of query [])) ∙ asked_last query [] (line ∷ []) asked

-- The first entries of a ledger, among them each one for which lines were learned.
pub record IsFront (asked front : List Asked) : Type 0 where
  pub count : ℕ
  pub within : count ≤ length asked
  pub is : front ≡ take count asked
  pub charged : (k : ℕ) → k < length asked → IsCharged (entry_at asked k) → k < count

pub front_is : (asked : List Asked) → IsFront asked (charged_front asked)
front_is asked =
    let e = last_asked asked in
    elim (eqb_tells (length e.lines) e.lemmas) [
      | inl (found, same) ↦ record {
        count = length asked - 1;
        within = omega arith;
        is = ap (λ t. cond t (take (length asked - 1) asked) asked) found;
        charged = λ k below charged. by_place k below charged same (cases_lt k (length asked - 1));
      }
      | inr (found, apart) ↦ record {
        count = length asked;
        within = omega arith;
        is = ap (λ t. cond t (take (length asked - 1) asked) asked) found ∙ sym (take_all (length asked) asked (omega arith));
        charged = λ k below charged. below;
      }
    ]
  where
    by_place : (k : ℕ) → k < length asked → IsCharged (entry_at asked k) → length (last_asked asked).lines ≡ (last_asked asked).lemmas → (k < length asked - 1) ⊎ (length asked - 1 ≤ k) → k < length asked - 1
    by_place k below charged same (inl less) = less
    by_place k below charged same (inr past) =
        let n : k ≡ length asked - 1 = omega (arith, below, past) in
        let last : IsCharged (last_asked asked) = subst (λ j. IsCharged (entry_at asked j)) n charged in
        absurd (omega (arith, same, last))

-- A query of a claim or of a match that wasn't answered.
pub record IsUnanswered (known : Known) (query : Query) : Type 0 where
  pub never : IsAnswered known query → ⊥
  pub of_known : IsOfClaim known.graphs query ⊎ IsOfMatch known.graphs query

-- Such a query was asked: the ledger is that before with one entry more, after those for which lines were learned.
module _ (known : Known) (query : Query) (before after : Ledgered) (fresh : IsUnanswered known query) (new : IsAsked known.graphs query before after) where
  abbrev entry : Asked
  entry = entry_with query new.lemmas new.lines

  abbrev front : IsFront before.asked (charged_front before.asked)
  front = front_is before.asked

  abbrev shown : List Asked
  shown = take front.count before.asked

  size : length shown ≡ front.count
  size = omega (arith, length-take front.count before.asked, front.within)

  whole : after.asked ≡ shown ++ entry ∷ []
  whole = new.asked ∙ ap (λ (xs : List Asked). xs ++ entry ∷ []) front.is

  count : length after.asked ≡ front.count + 1
  count = omega (arith, ap length whole, length-append shown (entry ∷ []), size)

  front_same : (k : ℕ) → k < front.count → IsAsBefore before.asked after.asked k
  front_same k below =
      (omega (arith, below, front.within), omega (arith, count, below), ap (λ (xs : List Asked). entry_at xs k) whole ∙ (get_or_append_left shown (entry ∷ []) nothing_asked k (omega (arith, size, below)) ∙ get_or-take front.count before.asked k nothing_asked below))

  pub asked_keeps : Keeps known before after
  asked_keeps = record {
    budget = new.budget;
    charged = λ k below charged. front_same k (front.charged k below charged);
    opened = λ k below. elim (cases_lt k front.count) [
      | inl less ↦ inl (front_same k less)
      | inr past ↦
          let n : k ≡ length shown + 0 = omega (arith, count, size, below, past) in
          let e : entry_at after.asked k ≡ entry = ap (λ (xs : List Asked). entry_at xs k) whole ∙ (ap (entry_at (shown ++ entry ∷ [])) n ∙ get_or-append-add shown (entry ∷ []) 0 nothing_asked) in
          inr (λ answered. fresh.never (subst (IsAnswered known) (ap (λ (x : Asked). x.query) e) answered))
    ];
  }

  -- what holds of the entries before and of the new one holds of all
  all_of : (P : Asked → Type 0) → All P before.asked → P entry → All P after.asked
  all_of P each last = subst (All P) (sym whole) (All-push P shown entry (All-take P front.count before.asked each) last)

  pub asked_work : Suits known before → IsWorkOfClaimsAndMatches known.graphs after
  asked_work suits = record {
    work = record {
      entries = all_of (IsWorkOn known.graphs) suits.work.work.entries new.work;
      once =
          let answered = All-take (λ (x : Asked). IsCharged x → IsAnswered known x.query) front.count before.asked suits.answered in
          subst (AllPairs AreApart) (sym whole) (all_pairs_push AreApart shown entry (pairs_take front.count before.asked front.within suits.work.work.once) (λ k d below one other same. fresh.never (subst (IsAnswered known) same (answered k d below one))));
    };
    queries = all_of (λ (x : Asked). IsOfClaim known.graphs x.query ⊎ IsOfMatch known.graphs x.query) suits.work.queries fresh.of_known;
  }
    where
      pairs_take : (n : ℕ) (xs : List Asked) → n ≤ length xs → AllPairs AreApart xs → AllPairs AreApart (take n xs)
      pairs_take n xs within pairs i j d less below =
          let size : length (take n xs) ≡ n = omega (arith, length-take n xs, within) in
          let here : j < n = omega (arith, below, size) in
          let first : i < n = omega (arith, less, here) in
          subst (λ x. AreApart x (slice_index_or (take n xs) j d)) (sym (get_or-take n xs i d first)) (subst (AreApart (slice_index_or xs i d)) (sym (get_or-take n xs j d here)) (pairs i j d less (omega (arith, here, within))))

  -- the query is answered now, and what was answered still is
  pub asked_suits : (later : Known) → later.graphs ≡ known.graphs → ((q : Query) → IsAnswered known q → IsAnswered later q) → IsAnswered later query → after.spent ≡ false → Suits known before → Suits later after
  asked_suits later graphs more answered unspent suits = record {
    work = subst (λ (g : Graphs). IsWorkOfClaimsAndMatches g after) (sym graphs) (asked_work suits);
    unspent = unspent;
    answered = all_of (λ (x : Asked). IsCharged x → IsAnswered later x.query) (λ k d below charged. more (slice_index_or before.asked k d).query (suits.answered k d below charged)) (λ charged. answered);
  }
