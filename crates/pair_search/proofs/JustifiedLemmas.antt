-- What follows of pairs that are assigned and deleted.
use Rattle.std.proofs.Common.{◌≡◌, ◌⊎◌, ℕ, suc, ◌+◌, ◌<◌, ◌≤◌, true, cond, List, [], ◌∷◌, ◌++◌, length, map, filter, get_or, take, drop, All, AllPairs, Contains, Some, refl, sym, ap, subst, ◌∙◌, inl, inr, arith}
use Rattle.std.proofs.lemmas.Bool.{cases_lt, cases_order}
use Rattle.std.proofs.lemmas.List.{drop_more, get_or_append_left, get_or_at, get_or_default, get_or_push, get_or-take, length-append, length_push, length-take-le, map-append, take_all, take-append-drop, take-append-le, take_at, take-take}
use Rattle.std.proofs.lemmas.List.Elements.{Contains-append_left, filter-append}
use Rattle.circuits.specs.declared.port.Pair.{Pair}
use Rattle.net_core.specs.declared.graphs.Side.{Side}
use Rattle.account_core.specs.declared.step.Ban.{Ban}
use Rattle.account_core.specs.Assigned.{AreApart}
use Rattle.pair_domains.specs.declared.entry.Entry.{Entry}
use Rattle.pair_domains.specs.declared.entry.Fate.{Fate}
use Rattle.pair_domains.specs.declared.entry.Fate.TheVariants.{Assigned, Deleted}
use Rattle.pair_domains.specs.declared.entry.Cause.TheVariants.{Choice, LastWay}
use Rattle.pair_domains.specs.declared.entry.Reason.{Reason}
use Rattle.pair_domains.specs.declared.entry.Reason.TheVariants as reason
use Rattle.pair_domains.specs.Trails.{IsDeleted, assigned_in, is_assigned, ports_of}
use Rattle.pair_search.specs.Named.{AreNamed, EachWay, IsLeftOutOr, IsNamedIn, deleted}
use Rattle.account_core.specs.Tallies.{port_of}
use Rattle.pair_search.specs.Justified.{AreJustified, IsJustified}
use Rattle.pair_search.proofs.NamedLemmas.{named_more}
use Rattle.ban_book.proofs.BookLemmas.{covers_later}

pub assigned_append : (xs ys : List Entry) → assigned_in (xs ++ ys) ≡ assigned_in xs ++ assigned_in ys
assigned_append xs ys =
    ap (map (λ (e : Entry). e.pair)) (filter-append (λ (e : Entry). is_assigned e.fate) xs ys)
    ∙ map-append (λ (e : Entry). e.pair) (filter (λ (e : Entry). is_assigned e.fate) xs) (filter (λ (e : Entry). is_assigned e.fate) ys)

-- the pairs that are assigned in a front are assigned
pub assigned_front : (es : List Entry) (k : ℕ) → All (Contains (assigned_in es)) (assigned_in (take k es))
assigned_front es k i d below =
    subst (λ l. Contains l (get_or (assigned_in (take k es)) i d)) (sym (assigned_append (take k es) (drop k es)) ∙ ap assigned_in (take-append-drop k es)) (Contains-append_left (assigned_in (take k es)) (assigned_in (drop k es)) (get_or (assigned_in (take k es)) i d) (i, below, get_or_default (assigned_in (take k es)) i (get_or (assigned_in (take k es)) i d) d below))

pub assigned_front_of : (es : List Entry) (j k : ℕ) → j ≤ k → All (Contains (assigned_in (take k es))) (assigned_in (take j es))
assigned_front_of es j k order = subst (λ (l : List Entry). All (Contains (assigned_in (take k es))) (assigned_in l)) (take-take j k es order) (assigned_front (take k es) j)

-- what a deleted pair's reason names, by the place of its entry
named_at : (n m : ℕ) (bans : List Ban) (es : List Entry) (place : ℕ) (pair : Pair) (why : Reason) → AreJustified n m bans es → place < length es → get_or es place (deleted pair why) ≡ deleted pair why → AreNamed bans (assigned_in (take place es)) pair why
named_at n m bans es place pair why are below is =
    subst (λ (e : Entry). IsJustified n m bans (take place es) e.pair e.fate) is (are.each place (deleted pair why) below)

-- what a deleted pair's reason names is assigned
pub names_assigned : (n m : ℕ) (bans : List Ban) (es : List Entry) (pair : Pair) (why : Reason) → AreJustified n m bans es → Contains es (deleted pair why) → AreNamed bans (assigned_in es) pair why
names_assigned n m bans es pair why are there =
    named_more bans (assigned_in (take there.0 es)) (assigned_in es) pair why (assigned_front es there.0) (named_at n m bans es there.0 pair why are there.1 there.2)

-- a pair that is deleted in a front names pairs that are assigned in it
pub front_named : (n m : ℕ) (bans : List Ban) (es : List Entry) (k : ℕ) (way : Pair) → k ≤ length es → AreJustified n m bans es → IsDeleted (take k es) way → IsNamedIn bans es (assigned_in (take k es)) way
front_named n m bans es k way within are is =
    let there = is.1 in
    let below : there.0 < k = omega (arith, there.1, length-take-le k es within) in
    let inside : there.0 < length es = omega (arith, below, within) in
    let whole : Contains es (deleted way is.0) = subst (λ (l : List Entry). Contains l (deleted way is.0)) (take-append-drop k es) (Contains-append_left (take k es) (drop k es) (deleted way is.0) there) in
    let same : get_or es there.0 (deleted way is.0) ≡ deleted way is.0 = sym (get_or-take k es there.0 (deleted way is.0) below) ∙ there.2 in
    (is.0, whole, named_more bans (assigned_in (take there.0 es)) (assigned_in (take k es)) way is.0 (assigned_front_of es there.0 k (omega (arith, below))) (named_at n m bans es there.0 way is.0 are inside same))

-- the other ways of a pair's port, where it is the last one
pub forced_ways : (n m : ℕ) (bans : List Ban) (es : List Entry) (place : ℕ) (pair : Pair) (side : Side) → AreJustified n m bans es → place < length es → get_or es place (record { pair = pair; fate = Assigned (LastWay side) }) ≡ record { pair = pair; fate = Assigned (LastWay side) } → EachWay (port_of side pair) (ports_of n m pair.kind) (λ way. IsLeftOutOr (Some pair) way (IsNamedIn bans es (assigned_in (take place es)) way))
forced_ways n m bans es place pair side are below is number less = by_case _ (each number less)
  where
    each : EachWay (port_of side pair) (ports_of n m pair.kind) (λ way. IsLeftOutOr (Some pair) way (IsDeleted (take place es) way))
    each = subst (λ (e : Entry). IsJustified n m bans (take place es) e.pair e.fate) is (are.each place (record { pair = pair; fate = Assigned (LastWay side) }) below)

    by_case : (way : Pair) → IsLeftOutOr (Some pair) way (IsDeleted (take place es) way) → IsLeftOutOr (Some pair) way (IsNamedIn bans es (assigned_in (take place es)) way)
    by_case way (inl same) = inl same
    by_case way (inr gone) = inr (front_named n m bans es place way (omega (arith, below)) are gone)

-- a pair apart from itself
not_apart : (p : Pair) → AreApart p p → ⊥
not_apart p is = is.from refl refl

-- a pair stands at one place alone
one_place : (xs ys : List Pair) (p : Pair) (i : ℕ) → AllPairs AreApart (xs ++ p ∷ ys) → i < length (xs ++ p ∷ ys) → get_or (xs ++ p ∷ ys) i p ≡ p → i ≡ length xs
one_place xs ys p i apart below is = by_order (cases_order i (length xs))
  where
    here : get_or (xs ++ p ∷ ys) (length xs) p ≡ p
    here = get_or_at xs p ys p (length xs) refl

    size : length (xs ++ p ∷ ys) ≡ length xs + suc (length ys)
    size = length-append xs (p ∷ ys)

    by_order : (i ≡ length xs) ⊎ ((i < length xs) ⊎ (length xs < i)) → i ≡ length xs
    by_order (inl same) = same
    by_order (inr (inl less)) = absurd (not_apart p (subst (λ (q : Pair). AreApart q p) is (subst (AreApart (get_or (xs ++ p ∷ ys) i p)) here (apart i (length xs) p less (omega (arith, size))))))
    by_order (inr (inr more)) = absurd (not_apart p (subst (λ (q : Pair). AreApart q p) here (subst (AreApart (get_or (xs ++ p ∷ ys) (length xs) p)) is (apart (length xs) i p more below))))

-- the assigned pairs before one are those that are assigned before its entry
pub assigned_before : (es : List Entry) (place index : ℕ) (e : Entry) → AllPairs AreApart (assigned_in es) → place < length es → get_or es place e ≡ e → is_assigned e.fate ≡ true → index < length (assigned_in es) → get_or (assigned_in es) index e.pair ≡ e.pair → take index (assigned_in es) ≡ assigned_in (take place es)
assigned_before es place index e apart below is assigned within there =
    let at : index ≡ length (assigned_in (take place es)) = one_place (assigned_in (take place es)) (assigned_in (drop (place + 1) es)) e.pair index (subst (AllPairs AreApart) split apart) (subst (λ (l : List Pair). index < length l) split within) (subst (λ (l : List Pair). get_or l index e.pair ≡ e.pair) split there) in
    ap (take index) split ∙ take_at (assigned_in (take place es)) (e.pair ∷ assigned_in (drop (place + 1) es)) index (sym at)
  where
    rest : drop place es ≡ e ∷ drop (place + 1) es
    rest = drop_more es place e below ∙ ap (λ x. x ∷ drop (place + 1) es) is

    one : assigned_in (e ∷ drop (place + 1) es) ≡ e.pair ∷ assigned_in (drop (place + 1) es)
    one = ap (λ b. map (λ (x : Entry). x.pair) (cond b (e ∷ filter (λ (x : Entry). is_assigned x.fate) (drop (place + 1) es)) (filter (λ (x : Entry). is_assigned x.fate) (drop (place + 1) es)))) assigned

    split : assigned_in es ≡ assigned_in (take place es) ++ e.pair ∷ assigned_in (drop (place + 1) es)
    split = ap assigned_in (sym (take-append-drop place es)) ∙ (assigned_append (take place es) (drop place es) ∙ ap (λ (l : List Pair). assigned_in (take place es) ++ l) (ap assigned_in rest ∙ one))

-- bans that come after change nothing of it
pub named_later : (before added after : List Ban) (pairs : List Pair) (pair : Pair) (why : Reason) → after ≡ before ++ added → AreNamed before pairs pair why → AreNamed after pairs pair why
named_later before added after pairs pair (reason.Clash with) more is = is
named_later before added after pairs pair (reason.Ban number) more is = covers_later before added after (pair ∷ pairs) number more is
named_later before added after pairs pair (reason.Mismatch with fails holds) more is = is

fate_later : (n m : ℕ) (before added after : List Ban) (es : List Entry) (pair : Pair) (fate : Fate) → after ≡ before ++ added → IsJustified n m before es pair fate → IsJustified n m after es pair fate
fate_later n m before added after es pair (Assigned Choice) more is = is
fate_later n m before added after es pair (Assigned (LastWay side)) more is = is
fate_later n m before added after es pair (Deleted why) more is = named_later before added after (assigned_in es) pair why more is

pub justified_later : (n m : ℕ) (before added after : List Ban) (es : List Entry) → after ≡ before ++ added → AreJustified n m before es → AreJustified n m after es
justified_later n m before added after es more are = record {
  each = λ place e below. fate_later n m before added after (take place es) (get_or es place e).pair (get_or es place e).fate more (are.each place e below);
}

-- the ways of the port that forced an assigned pair, by its place among the assigned pairs
pub ways_before : (n m : ℕ) (bans : List Ban) (es : List Entry) (index : ℕ) (pair : Pair) (side : Side) → AllPairs AreApart (assigned_in es) → AreJustified n m bans es → Contains es (record { pair = pair; fate = Assigned (LastWay side) }) → index < length (assigned_in es) → get_or (assigned_in es) index pair ≡ pair → EachWay (port_of side pair) (ports_of n m pair.kind) (λ way. IsLeftOutOr (Some pair) way (IsNamedIn bans es (take index (assigned_in es)) way))
ways_before n m bans es index pair side apart are there within is =
    let e : Entry = record { pair = pair; fate = Assigned (LastWay side) } in
    subst (λ (assigned : List Pair). EachWay (port_of side pair) (ports_of n m pair.kind) (λ way. IsLeftOutOr (Some pair) way (IsNamedIn bans es assigned way))) (sym (assigned_before es there.0 index e apart there.1 there.2 refl within is)) (forced_ways n m bans es there.0 pair side are there.1 there.2)

-- one more entry follows
pub justified_push : (n m : ℕ) (bans : List Ban) (es : List Entry) (e : Entry) → AreJustified n m bans es → IsJustified n m bans es e.pair e.fate → AreJustified n m bans (es ++ e ∷ [])
justified_push n m bans es e are is = record { each = by_place }
  where
    by_place : (k : ℕ) (d : Entry) → k < length (es ++ e ∷ []) → IsJustified n m bans (take k (es ++ e ∷ [])) (get_or (es ++ e ∷ []) k d).pair (get_or (es ++ e ∷ []) k d).fate
    by_place k d below = elim (cases_lt k (length es)) [
      | inl less ↦
          subst (λ (x : Entry). IsJustified n m bans (take k (es ++ e ∷ [])) x.pair x.fate) (sym (get_or_append_left es (e ∷ []) d k less)) (subst (λ (l : List Entry). IsJustified n m bans l (get_or es k d).pair (get_or es k d).fate) (sym (take-append-le k es (e ∷ []) (omega (arith, less)))) (are.each k d less))
      | inr past ↦
          let at : length es ≡ k = omega (arith, below, past, length_push es e) in
          let front : take k (es ++ e ∷ []) ≡ es = take-append-le k es (e ∷ []) (omega (arith, at)) ∙ take_all k es (omega (arith, at)) in
          subst (λ (x : Entry). IsJustified n m bans (take k (es ++ e ∷ [])) x.pair x.fate) (sym (get_or_push es e d k at)) (subst (λ (l : List Entry). IsJustified n m bans l e.pair e.fate) (sym front) is)
    ]

-- the first entries follow
pub justified_front : (n m : ℕ) (bans : List Ban) (es : List Entry) (place : ℕ) → place ≤ length es → AreJustified n m bans es → AreJustified n m bans (take place es)
justified_front n m bans es place within are = record { each = by_place }
  where
    by_place : (k : ℕ) (d : Entry) → k < length (take place es) → IsJustified n m bans (take k (take place es)) (get_or (take place es) k d).pair (get_or (take place es) k d).fate
    by_place k d below =
        let early : k < place = omega (arith, below, length-take-le place es within) in
        subst (λ (x : Entry). IsJustified n m bans (take k (take place es)) x.pair x.fate) (sym (get_or-take place es k d early)) (subst (λ (l : List Entry). IsJustified n m bans l (get_or es k d).pair (get_or es k d).fate) (sym (take-take k place es (omega (arith, early)))) (are.each k d (omega (arith, early, within))))
