-- Where the entries of assigned pairs stand, and what is assigned before a choice.
use Rattle.std.proofs.Common.{◌≡◌, ◌≢◌, ◌⊎◌, ℕ, zero, suc, ◌+◌, ◌<◌, ◌≤◌, Bool, true, false, cond, List, [], ◌∷◌, ◌++◌, length, map, filter, get_or, take, All, AllPairs, Contains, refl, sym, ap, subst, ◌∙◌, inl, inr, arith}
use Rattle.std.proofs.lemmas.Bool.{cases_lt, false≢true}
use Rattle.std.proofs.lemmas.List.{get_or_default, get_or-take, length-take-le, take_more}
use Rattle.std.proofs.lemmas.List.Elements.{All-contains, All-weaker, Contains-push_cases}
use Rattle.circuits.specs.declared.port.Pair.{Pair}
use Rattle.ban_book.proofs.BlockListLemmas.{cons_more}
use Rattle.net_core.specs.Sides.{Graphs}
use Rattle.account_core.specs.Ports.{IsKnown}
use Rattle.account_core.specs.Assigned.{AreApart, AreAssignable}
use Rattle.pair_domains.specs.declared.entry.Entry.{Entry}
use Rattle.pair_domains.specs.declared.entry.Fate.TheVariants.{Assigned}
use Rattle.net_core.specs.declared.graphs.Side.{Side}
use Rattle.pair_domains.specs.declared.entry.Fate.{Fate}
use Rattle.pair_domains.specs.declared.entry.Cause.TheVariants.{Choice, LastWay}
use Rattle.pair_domains.specs.Trails.{AreDomains, AreEntries, Domained, IsOpen, IsPairOf, IsPlace, assigned_in, is_assigned}
use Rattle.pair_domains.proofs.EntryLemmas.{assigned_more, one_entry}
use Rattle.pair_search.specs.ConflictSets.{FitPorts, HasNoChoice, IsChoiceAt, IsLastOf, IsLearned}
use Rattle.pair_search.specs.Pivots.{IsSplit}
use Rattle.circuits.specs.declared.port.PortKind.TheVariants.{Input}
use Rattle.account_core.specs.declared.step.Ban.{Ban}
use Rattle.ban_book.specs.Covering.{Covers}
use Rattle.pair_search.specs.declared.learned.LearnedBan.{LearnedBan}
use Rattle.pair_search.specs.declared.learned.LearnedBan.TheVariants as learned
use Rattle.pair_search.proofs.ConflictLemmas.{known_of}
use Rattle.pair_search.proofs.JustifiedLemmas.{assigned_before, assigned_front_of}
use Rattle.pair_search.proofs.ResolveLemmas.{up_to_last}
use Rattle.ban_book.proofs.BookLemmas.{covers_wider}
use Rattle.circuits.proofs.Lists.{contains_cons}

-- An entry by which a pair is assigned.
pub record IsSource (es : List Entry) (p : Pair) (e : Entry) : Type 0 where
  pub there : Contains es e
  pub assigned : is_assigned e.fate ≡ true
  pub is : e.pair ≡ p

source_later : (x : Entry) (es : List Entry) (p : Pair) (e : Entry) → IsSource es p e → IsSource (x ∷ es) p e
source_later x es p e is = record {
  there = (suc is.there.0, omega (arith, is.there.1), is.there.2);
  assigned = is.assigned;
  is = is.is;
}

abbrev pub assigned_with : Entry → List Entry → Bool → List Pair
assigned_with x es b = map (λ (e : Entry). e.pair) (cond b (x ∷ filter (λ (e : Entry). is_assigned e.fate) es) (filter (λ (e : Entry). is_assigned e.fate) es))

source_at : (x : Entry) (es : List Entry) (p : Pair) → (Contains (assigned_in es) p → (e : Entry) × IsSource es p e) → is_assigned x.fate ≡ true → (k : ℕ) → k < suc (length (assigned_in es)) → get_or (x.pair ∷ assigned_in es) k p ≡ p → (e : Entry) × IsSource (x ∷ es) p e
source_at x es p later assigned zero below is = (x, record { there = (0, omega arith, refl); assigned = assigned; is = is })
source_at x es p later assigned (suc k) below is = let rest = later (k, omega (arith, below), is) in (rest.0, source_later x es p rest.0 rest.1)

source_by : (x : Entry) (es : List Entry) (p : Pair) → (Contains (assigned_in es) p → (e : Entry) × IsSource es p e) → (b : Bool) → is_assigned x.fate ≡ b → Contains (assigned_with x es b) p → (e : Entry) × IsSource (x ∷ es) p e
source_by x es p later true assigned here = source_at x es p later assigned here.0 here.1 here.2
source_by x es p later false assigned here = let rest = later here in (rest.0, source_later x es p rest.0 rest.1)

-- each assigned pair has one
pub source_of : (es : List Entry) (p : Pair) → Contains (assigned_in es) p → (e : Entry) × IsSource es p e
source_of [] p there = absurd (omega (arith, there.1))
source_of (x ∷ es) p there = source_by x es p (λ rest. source_of es p rest) (is_assigned x.fate) refl there

-- assigned pairs are of ports that exist
pub assigned_pair_of : (n m : ℕ) (es : List Entry) (p : Pair) → AreEntries n m es → Contains (assigned_in es) p → IsPairOf n m p
assigned_pair_of n m es p are there =
    let s = source_of es p there in
    subst (IsPairOf n m) s.1.is (All-contains (λ (e : Entry). IsPairOf n m e.pair) es s.0 are.known s.1.there)

-- an assigned pair isn't open
pub assigned_not_open : (es : List Entry) (p : Pair) → Contains (assigned_in es) p → IsOpen es p → ⊥
assigned_not_open es p there none =
    let s = source_of es p there in
    All-contains (λ (e : Entry). e.pair ≢ p) es s.0 none s.1.there s.1.is

entry_at : (es : List Entry) (place : ℕ) (d : Entry) → place < length es → Contains es (get_or es place d)
entry_at es place d below = (place, below, get_or_default es place (get_or es place d) d below)

-- the entry of an assigned pair says that it is assigned
pub placed_assigned : (es : List Entry) (p : Pair) (place : ℕ) (d : Entry) → AllPairs (λ (x y : Entry). x.pair ≢ y.pair) es → Contains (assigned_in es) p → IsPlace es p place → is_assigned (get_or es place d).fate ≡ true
placed_assigned es p place d distinct there at =
    let s = source_of es p there in
    let same : get_or es place d ≡ s.0 = one_entry es (get_or es place d) s.0 distinct (entry_at es place d at.within) s.1.there (at.there d ∙ sym s.1.is) in
    ap (λ (e : Entry). is_assigned e.fate) same ∙ s.1.assigned

-- what is assigned up to an entry, and with it
pub front_more : (es : List Entry) (assigned : List Pair) (place index : ℕ) (p : Pair) (d : Entry) → place < length es → index < length assigned → take index assigned ≡ assigned_in (take place es) → is_assigned (get_or es place d).fate ≡ true → (get_or es place d).pair ≡ get_or assigned index p → take (index + 1) assigned ≡ assigned_in (take (place + 1) es)
front_more es assigned place index p d below within front kept same =
    take_more assigned index p within
    ∙ (ap (λ l. l ++ get_or assigned index p ∷ []) front
    ∙ (ap (λ q. assigned_in (take place es) ++ q ∷ []) (sym same)
    ∙ (sym (assigned_more (take place es) (get_or es place d) kept) ∙ ap assigned_in (sym (take_more es place d below)))))

-- all pairs but the latest are assigned up to the entry of the second latest
pub others_before : (es : List Entry) (pairs : List Pair) (last second place : ℕ) (d : Pair) → last < length (assigned_in es) → All (Contains (take (last + 1) (assigned_in es))) pairs → IsLastOf (assigned_in es) last pairs second → take (second + 1) (assigned_in es) ≡ assigned_in (take place es) → All (Contains (get_or (assigned_in es) last d ∷ assigned_in (take place es))) pairs
others_before es pairs last second place d below among last_is front k e inside =
    by_case (Contains-push_cases (take last (assigned_in es)) (get_or (assigned_in es) last d) (get_or pairs k e) (subst (λ (l : List Pair). Contains l (get_or pairs k e)) (take_more (assigned_in es) last d below) (among k e inside)))
  where
    by_case : Contains (take last (assigned_in es)) (get_or pairs k e) ⊎ (get_or (assigned_in es) last d ≡ get_or pairs k e) → Contains (get_or (assigned_in es) last d ∷ assigned_in (take place es)) (get_or pairs k e)
    by_case (inl early) = contains_cons (assigned_in (take place es)) (get_or (assigned_in es) last d) (get_or pairs k e) (subst (λ (l : List Pair). Contains l (get_or pairs k e)) front (up_to_last (assigned_in es) pairs last second (get_or pairs k e) (omega (arith, below)) last_is (k, inside, get_or_default pairs k (get_or pairs k e) e inside) early))
    by_case (inr same) = (0, omega arith, same)

-- the latest pair is the only one
pub others_none : (es : List Entry) (pairs rest : List Pair) (last : ℕ) (d : Pair) → last < length (assigned_in es) → All (Contains (take (last + 1) (assigned_in es))) pairs → All (λ pair. Contains pairs pair → ⊥) (take last (assigned_in es)) → All (Contains (get_or (assigned_in es) last d ∷ rest)) pairs
others_none es pairs rest last d below among none k e inside =
    by_case (Contains-push_cases (take last (assigned_in es)) (get_or (assigned_in es) last d) (get_or pairs k e) (subst (λ (l : List Pair). Contains l (get_or pairs k e)) (take_more (assigned_in es) last d below) (among k e inside)))
  where
    by_case : Contains (take last (assigned_in es)) (get_or pairs k e) ⊎ (get_or (assigned_in es) last d ≡ get_or pairs k e) → Contains (get_or (assigned_in es) last d ∷ rest) (get_or pairs k e)
    by_case (inl early) = absurd (All-contains (λ (p : Pair). Contains pairs p → ⊥) (take last (assigned_in es)) (get_or pairs k e) none early (k, inside, get_or_default pairs k (get_or pairs k e) e inside))
    by_case (inr same) = (0, omega arith, same)

-- a pair is open before its entry
pub open_before : (es : List Entry) (p : Pair) (place own : ℕ) (d : Entry) → AllPairs (λ (x y : Entry). x.pair ≢ y.pair) es → place ≤ own → own < length es → ((e : Entry) → (get_or es own e).pair ≡ p) → IsOpen (take place es) p
open_before es p place own d distinct order below is k e inside same =
    let early : k < place = omega (arith, inside, length-take-le place es (omega (arith, order, below))) in
    distinct k own e (omega (arith, early, order)) below (sym (ap (λ (x : Entry). x.pair) (get_or-take place es k e early)) ∙ (same ∙ sym (is e)))

cons_assigned : (p : Pair) (few more pairs : List Pair) → All (Contains more) few → All (Contains (p ∷ few)) pairs → All (Contains (p ∷ more)) pairs
cons_assigned p few more pairs stays are = All-weaker (Contains (p ∷ few)) (Contains (p ∷ more)) (λ x. cons_more p few more x stays) pairs are

-- a choice after the others and before the latest pair
pub split_at : (es : List Entry) (pairs : List Pair) (p : Pair) (first place own : ℕ) → AllPairs (λ (x y : Entry). x.pair ≢ y.pair) es → first ≤ place → place < own → own < length es → ((e : Entry) → (get_or es own e).pair ≡ p) → IsChoiceAt es place → All (Contains (p ∷ assigned_in (take first es))) pairs → IsSplit es pairs p place
split_at es pairs p first place own distinct from to below is choice others = record {
  choice = choice;
  open' = open_before es p place own (record { pair = p; fate = Assigned Choice }) distinct (omega (arith, to)) below is;
  others = cons_assigned p (assigned_in (take first es)) (assigned_in (take place es)) pairs (assigned_front_of es first place from) others;
}

-- the latest pair was chosen itself
pub split_own : (es : List Entry) (pairs : List Pair) (p : Pair) (last own : ℕ) → AllPairs (λ (x y : Entry). x.pair ≢ y.pair) es → own < length es → ((e : Entry) → (get_or es own e).pair ≡ p) → IsChoiceAt es own → last < length (assigned_in es) → ((d : Pair) → get_or (assigned_in es) last d ≡ p) → take last (assigned_in es) ≡ assigned_in (take own es) → All (Contains (take (last + 1) (assigned_in es))) pairs → IsSplit es pairs p own
split_own es pairs p last own distinct below is choice within last_is front among = record {
  choice = choice;
  open' = open_before es p own own (record { pair = p; fate = Assigned Choice }) distinct (omega arith) below is;
  others = λ k e inside. by_case k e (Contains-push_cases (take last (assigned_in es)) p (get_or pairs k e) (subst (λ (l : List Pair). Contains l (get_or pairs k e)) (take_more (assigned_in es) last p within ∙ ap (λ q. take last (assigned_in es) ++ q ∷ []) (last_is p)) (among k e inside)));
}
  where
    by_case : (k : ℕ) (e : Pair) → Contains (take last (assigned_in es)) (get_or pairs k e) ⊎ (p ≡ get_or pairs k e) → Contains (p ∷ assigned_in (take own es)) (get_or pairs k e)
    by_case k e (inl early) = contains_cons (assigned_in (take own es)) p (get_or pairs k e) (subst (λ (l : List Pair). Contains l (get_or pairs k e)) front early)
    by_case k e (inr same) = (0, omega arith, same)

-- the assigned pairs are of ports that exist, and share none
pub assigned_known : (graphs : Graphs) (n m : ℕ) (es : List Entry) → FitPorts graphs n m → AreEntries n m es → AreAssignable graphs (assigned_in es)
assigned_known graphs n m es fit are = record {
  known = λ k d below. known_of graphs n m (get_or (assigned_in es) k d) fit (assigned_pair_of n m es (get_or (assigned_in es) k d) are (k, below, get_or_default (assigned_in es) k (get_or (assigned_in es) k d) d below));
  apart = are.apart;
}

-- and so are the first of them
pub assigned_first : (graphs : Graphs) (assigned : List Pair) (k : ℕ) → k ≤ length assigned → AreAssignable graphs assigned → AreAssignable graphs (take k assigned)
assigned_first graphs assigned k within are = record {
  known = λ i d below.
      let early : i < k = omega (arith, below, length-take-le k assigned within) in
      subst (IsKnown graphs) (sym (get_or-take k assigned i d early)) (are.known i d (omega (arith, early, within)));
  apart = λ i j d less below.
      let early : j < k = omega (arith, below, length-take-le k assigned within) in
      subst (λ (p : Pair). AreApart p (get_or (take k assigned) j d)) (sym (get_or-take k assigned i d (omega (arith, less, early)))) (subst (AreApart (get_or assigned i d)) (sym (get_or-take k assigned j d early)) (are.apart i j d less (omega (arith, early, within))));
}

-- an assigned pair, as it is lent
pub lent_assigned : (assigned lent : List Pair) (index : ℕ) (d : Pair) → lent ≡ assigned → index < length assigned → Contains assigned (get_or lent index d)
lent_assigned assigned lent index d same below =
    subst (λ (l : List Pair). Contains assigned (get_or l index d)) (sym same) (index, below, get_or_default assigned index (get_or assigned index d) d below)

-- the assigned pairs before one are those that are assigned before its entry
pub front_of : (n m : ℕ) (es : List Entry) (place index : ℕ) (p : Pair) → AreEntries n m es → IsPlace es p place → Contains (assigned_in es) p → index < length (assigned_in es) → ((d : Pair) → get_or (assigned_in es) index d ≡ p) → take index (assigned_in es) ≡ assigned_in (take place es)
front_of n m es place index p are at there below is =
    assigned_before es place index e are.apart at.within (get_or_default es place e d at.within) (placed_assigned es p place d are.distinct there at) below (is e.pair ∙ sym (at.there d))
  where
    d : Entry
    d = record { pair = p; fate = Assigned Choice }

    e : Entry
    e = get_or es place d

-- a choice, as it is lent
pub chosen_at : (es lent : List Entry) (place : ℕ) (d : Entry) → lent ≡ es → place < length es → ((e : Entry) → is_assigned (get_or es place e).fate ≡ true) → (is_assigned (get_or lent place d).fate ≡ true → (get_or lent place d).fate ≡ Assigned Choice) → IsChoiceAt es place
chosen_at es lent place d same below assigned chosen = record {
  within = below;
  chosen = λ e. ap (λ (x : Entry). x.fate) (get_or_default es place e d below) ∙ (ap (λ (l : List Entry). (get_or l place d).fate) (sym same) ∙ chosen (ap (λ (l : List Entry). is_assigned (get_or l place d).fate) same ∙ assigned d));
}

-- and a pair that was forced
pub forced_at : (es lent : List Entry) (place : ℕ) (d : Entry) (p : Pair) (side : Side) → lent ≡ es → place < length es → ((e : Entry) → (get_or es place e).pair ≡ p) → (get_or lent place d).fate ≡ Assigned (LastWay side) → Contains es (record { pair = p; fate = Assigned (LastWay side) })
forced_at es lent place d p side same below is forced =
    (place, below, get_or_default es place entry d below ∙ (ap (λ (q : Pair). record { pair = q; fate = (get_or es place d).fate }) (is d) ∙ ap (λ (f : Fate). record { pair = p; fate = f }) (ap (λ (l : List Entry). (get_or l place d).fate) (sym same) ∙ forced)))
  where
    entry : Entry
    entry = record { pair = p; fate = Assigned (LastWay side) }

-- what a conflict is resolved to where a choice stands between its latest pair and the others
pub back_is : (domains : Domained) (bans : List Ban) (pairs lent : List Pair) (last place ban : ℕ) (result : LearnedBan) → AreDomains domains → last < length (assigned_in domains.entries) → lent ≡ pairs → ((d : Pair) → IsSplit domains.entries lent (get_or (assigned_in domains.entries) last d) place) → Covers bans pairs ban → ((d : Pair) → result ≡ learned.Back (record { place = place; pair = get_or (assigned_in domains.entries) last d; ban = ban })) → IsLearned bans domains result
back_is domains bans pairs lent last place ban result are below same split covers is =
    subst (IsLearned bans domains) (sym (is d)) (record {
      choice = (split d).choice;
      known = assigned_pair_of domains.inputs domains.outputs domains.entries p are (last, below, get_or_default (assigned_in domains.entries) last p d below);
      open' = (split d).open';
      covers = covers_wider bans pairs (p ∷ assigned_in (take place domains.entries)) ban (subst (All (Contains (p ∷ assigned_in (take place domains.entries)))) same (split d).others) covers;
    })
  where
    d : Pair
    d = record { kind = Input; from = 0; to = 0; flip = false }

    p : Pair
    p = get_or (assigned_in domains.entries) last d

-- no choice stands before the place that the search for one begins at
pub no_choice_yet : (es : List Entry) (from : ℕ) → HasNoChoice es from from
no_choice_yet es from = record { none = λ k d low high. absurd (omega (arith, low, high)) }

-- nor one place further, where that one has none
pub no_choice_more : (es : List Entry) (from place : ℕ) (d : Entry) (is : Bool) → place < length es → HasNoChoice es from place → is ≡ false → ((get_or es place d).fate ≡ Assigned Choice → is ≡ true) → HasNoChoice es from (place + 1)
no_choice_more es from place d is below before not tells = record {
  none = λ k e low high. elim (cases_lt k place) [
    | inl early ↦ before.none k e low early
    | inr late ↦ λ chosen. at k (omega (arith, high, late)) e chosen
  ];
}
  where
    at : (k : ℕ) → k ≡ place → (e : Entry) → (get_or es k e).fate ≡ Assigned Choice → ⊥
    at k same e chosen = false≢true (sym not ∙ tells (subst (λ (x : Entry). x.fate ≡ Assigned Choice) (get_or_default es place e d below) (subst (λ n. (get_or es n e).fate ≡ Assigned Choice) same chosen)))
