-- What is kept, with one entry more and one less.
use Rattle.std.proofs.Common.{◌≡◌, ◌≢◌, ℕ, ◌+◌, ◌-◌, ◌^◌, ◌<◌, ◌≤◌, ◌&&◌, not, true, false, take, List, [], ◌∷◌, ◌++◌, length, get_or, set, All, AllPairs, Contains, Option, Some, None, refl, sym, ap, subst, ◌∙◌, inl, inr, arith}
use Rattle.std.proofs.lemmas.Bool.{cases_Bool, cases_eq, false≢true}
use Rattle.std.proofs.lemmas.List.{get_or_append_left, get_or_at, get_or-set_other, get_or-set_same, length-set, length_push, take_at}
use Rattle.std.proofs.lemmas.List.Elements.{All-push, Contains-append_left, Contains-push, Contains-push_cases}
use Rattle.std.proofs.lemmas.List.Quantifiers.{all_pairs_push}
use Rattle.std.proofs.lemmas.List.Sums.{count_by-le-length}
use Rattle.circuits.specs.declared.port.Pair.{Pair}
use Rattle.circuits.specs.declared.port.PortKind.{PortKind}
use Rattle.net_core.specs.declared.graphs.Side.{Side}
use Rattle.net_core.specs.declared.graphs.Side.TheVariants.{First, Second}
use Rattle.account_core.specs.Tallies.{port_on}
use Rattle.account_core.specs.Assigned.{AreApart}
use Rattle.pair_domains.specs.declared.entry.Entry.{Entry}
use Rattle.pair_domains.specs.Numbers.{at_ports, pair_number, port_number, put_at_ports}
use Rattle.pair_domains.specs.Trails.{Domained, AreEntries, IsFreePort, IsOpen, IsPairOf, assigned_in, is_at, is_assigned, ports_of}
use Rattle.pair_domains.specs.Kept.{AreCounts, ArePairsAt, ArePlaces, IsKept, IsPairAt, IsPlaceOf}
use Rattle.pair_domains.proofs.NumberLemmas.{pair_number_below, pair_number_same}
use Rattle.pair_domains.proofs.EntryLemmas.{All-front, All-last, AllPairs-front, AllPairs-last, at_of, gone_deleted, gone_assigned, assigned_more, assigned_same, none_of_false, of_at, one_of_true}
use Rattle.pair_domains.proofs.TableLemmas.{changed_at, changed_other, changed_size}

-- the entries
apart_from : (x p : Pair) → is_at First p.kind p.from x ≡ false → is_at Second p.kind p.to x ≡ false → AreApart x p
apart_from x p first second = record {
  from = λ kind same. false≢true (sym first ∙ at_of First p.kind p.from x kind same);
  to = λ kind same. false≢true (sym second ∙ at_of Second p.kind p.to x kind same);
}

entries_assigned : (n m : ℕ) (es : List Entry) (e : Entry) → AreEntries n m es → is_assigned e.fate ≡ true → IsPairOf n m e.pair → IsOpen es e.pair → IsFreePort es First e.pair.kind e.pair.from → IsFreePort es Second e.pair.kind e.pair.to → AreEntries n m (es ++ e ∷ [])
entries_assigned n m es e are is known free from to = record {
  known = All-push (λ (x : Entry). IsPairOf n m x.pair) es e are.known known;
  distinct = all_pairs_push (λ (x y : Entry). x.pair ≢ y.pair) es e are.distinct free;
  apart = subst (AllPairs AreApart) (sym (assigned_more es e is)) (all_pairs_push AreApart (assigned_in es) e.pair are.apart (λ k d below. apart_from (get_or (assigned_in es) k d) e.pair (from k d below) (to k d below)));
}

entries_deleted : (n m : ℕ) (es : List Entry) (e : Entry) → AreEntries n m es → is_assigned e.fate ≡ false → IsPairOf n m e.pair → IsOpen es e.pair → AreEntries n m (es ++ e ∷ [])
entries_deleted n m es e are is known free = record {
  known = All-push (λ (x : Entry). IsPairOf n m x.pair) es e are.known known;
  distinct = all_pairs_push (λ (x y : Entry). x.pair ≢ y.pair) es e are.distinct free;
  apart = subst (AllPairs AreApart) (sym (assigned_same es e is)) are.apart;
}

entries_fewer : (n m : ℕ) (es : List Entry) (e : Entry) → AreEntries n m (es ++ e ∷ []) → AreEntries n m es
entries_fewer n m es e are = record {
  known = All-front (λ (x : Entry). IsPairOf n m x.pair) es e are.known;
  distinct = AllPairs-front (λ (x y : Entry). x.pair ≢ y.pair) es e are.distinct;
  apart = elim (cases_Bool (is_assigned e.fate)) [
    | inl is ↦ AllPairs-front AreApart (assigned_in es) e.pair (subst (AllPairs AreApart) (assigned_more es e is) are.apart)
    | inr is ↦ subst (AllPairs AreApart) (assigned_same es e is) are.apart
  ];
}

-- the places
place_stays : (es : List Entry) (e : Entry) (q : Pair) (o : Option ℕ) → e.pair ≢ q → IsPlaceOf es q o → IsPlaceOf (es ++ e ∷ []) q o
place_stays es e q (Some k) other says = record {
  found = record {
    within = omega (arith, says.found.within, length_push es e);
    there = λ d. ap (λ (x : Entry). x.pair) (get_or_append_left es (e ∷ []) d k says.found.within) ∙ says.found.there d;
  };
  none = tt;
}
place_stays es e q None other says = record { found = tt; none = All-push (λ (x : Entry). x.pair ≢ q) es e says.none other }

place_before : (es : List Entry) (e : Entry) (q : Pair) (o : Option ℕ) → e.pair ≢ q → IsPlaceOf (es ++ e ∷ []) q o → IsPlaceOf es q o
place_before es e q (Some k) other says = record {
  found = record {
    within = within;
    there = λ d. ap (λ (x : Entry). x.pair) (sym (get_or_append_left es (e ∷ []) d k within)) ∙ says.found.there d;
  };
  none = tt;
}
  where
    within : k < length es
    within = elim (cases_eq k (length es)) [
      | inl last ↦ absurd (other (ap (λ (x : Entry). x.pair) (sym (get_or_at es e [] e k (sym last))) ∙ says.found.there e))
      | inr differ ↦ omega (arith, says.found.within, length_push es e, differ)
    ]
place_before es e q None other says = record { found = tt; none = All-front (λ (x : Entry). x.pair ≢ q) es e says.none }

places_more : (n m : ℕ) (es : List Entry) (e : Entry) (ps : List (Option ℕ)) (k : ℕ) → IsPairOf n m e.pair → k ≡ length es → ArePlaces n m es ps → ArePlaces n m (es ++ e ∷ []) (set ps (pair_number n m e.pair) (Some k))
places_more n m es e ps k known last are = record {
  few = are.few;
  size = length-set ps (pair_number n m e.pair) (Some k) ∙ are.size;
  each = λ q qin. elim (cases_eq (pair_number n m q) (pair_number n m e.pair)) [
    | inl same ↦ here q (pair_number_same n m q e.pair qin known same) same
    | inr differ ↦
        subst (IsPlaceOf (es ++ e ∷ []) q) (sym (get_or-set_other ps (pair_number n m e.pair) (pair_number n m q) (Some k) None differ)) (place_stays es e q (get_or ps (pair_number n m q) None) (λ is. differ (ap (pair_number n m) (sym is))) (are.each q qin))
  ];
}
  where
    here : (q : Pair) → q ≡ e.pair → pair_number n m q ≡ pair_number n m e.pair → IsPlaceOf (es ++ e ∷ []) q (get_or (set ps (pair_number n m e.pair) (Some k)) (pair_number n m q) None)
    here q is same =
        let slot = ap (λ i. get_or (set ps (pair_number n m e.pair) (Some k)) i None) same ∙ get_or-set_same ps (pair_number n m e.pair) (Some k) None (omega (arith, are.size, pair_number_below n m e.pair known)) in
        subst (IsPlaceOf (es ++ e ∷ []) q) (sym slot) (record {
          found = record {
            within = omega (arith, last, length_push es e);
            there = λ d. ap (λ (x : Entry). x.pair) (get_or_at es e [] d k (sym last)) ∙ sym is;
          };
          none = tt;
        })

places_fewer : (n m : ℕ) (es : List Entry) (e : Entry) (ps : List (Option ℕ)) → AreEntries n m (es ++ e ∷ []) → ArePlaces n m (es ++ e ∷ []) ps → ArePlaces n m es (set ps (pair_number n m e.pair) None)
places_fewer n m es e ps entries are = record {
  few = are.few;
  size = length-set ps (pair_number n m e.pair) None ∙ are.size;
  each = λ q qin. elim (cases_eq (pair_number n m q) (pair_number n m e.pair)) [
    | inl same ↦ here q (pair_number_same n m q e.pair qin known same) same
    | inr differ ↦
        subst (IsPlaceOf es q) (sym (get_or-set_other ps (pair_number n m e.pair) (pair_number n m q) None None differ)) (place_before es e q (get_or ps (pair_number n m q) None) (λ is. differ (ap (pair_number n m) (sym is))) (are.each q qin))
  ];
}
  where
    known : IsPairOf n m e.pair
    known = All-last (λ (x : Entry). IsPairOf n m x.pair) es e entries.known

    here : (q : Pair) → q ≡ e.pair → pair_number n m q ≡ pair_number n m e.pair → IsPlaceOf es q (get_or (set ps (pair_number n m e.pair) None) (pair_number n m q) None)
    here q is same =
        let slot = ap (λ i. get_or (set ps (pair_number n m e.pair) None) i None) same ∙ get_or-set_same ps (pair_number n m e.pair) None None (omega (arith, are.size, pair_number_below n m e.pair known)) in
        let others = AllPairs-last (λ (x y : Entry). x.pair ≢ y.pair) es e entries.distinct in
        subst (IsPlaceOf es q) (sym slot) (record { found = tt; none = λ k d below at. others k d below (at ∙ is) })

-- the assigned pairs of ports
assigned_by : (es fs : List Entry) (side : Side) (kind : PortKind) (port : ℕ) (o : Option Pair) → assigned_in es ≡ assigned_in fs → IsPairAt es side kind port o → IsPairAt fs side kind port o
assigned_by es fs side kind port (Some q) same says = record { found = record { assigned = subst (λ l. Contains l q) same says.found.assigned; at = says.found.at }; none = tt }
assigned_by es fs side kind port None same says = record { found = tt; none = subst (All (λ pair. is_at side kind port pair ≡ false)) same says.none }

pairs_at_by : (n m : ℕ) (es fs : List Entry) (hs : List (Option Pair)) → assigned_in es ≡ assigned_in fs → ArePairsAt n m es hs → ArePairsAt n m fs hs
pairs_at_by n m es fs hs same are = record {
  size = are.size;
  each = λ side kind port below. assigned_by es fs side kind port (get_or hs (port_number n m side kind port) None) same (are.each side kind port below);
}

assigned_stays : (es : List Entry) (e : Entry) (side : Side) (kind : PortKind) (port : ℕ) (o : Option Pair) → is_assigned e.fate ≡ true → is_at side kind port e.pair ≡ false → IsPairAt es side kind port o → IsPairAt (es ++ e ∷ []) side kind port o
assigned_stays es e side kind port (Some q) is off says = record {
  found = record {
    assigned = subst (λ l. Contains l q) (sym (assigned_more es e is)) (Contains-append_left (assigned_in es) (e.pair ∷ []) q says.found.assigned);
    at = says.found.at;
  };
  none = tt;
}
assigned_stays es e side kind port None is off says = record {
  found = tt;
  none = subst (All (λ pair. is_at side kind port pair ≡ false)) (sym (assigned_more es e is)) (All-push (λ pair. is_at side kind port pair ≡ false) (assigned_in es) e.pair says.none off);
}

assigned_before : (es : List Entry) (e : Entry) (side : Side) (kind : PortKind) (port : ℕ) (o : Option Pair) → is_assigned e.fate ≡ true → is_at side kind port e.pair ≡ false → IsPairAt (es ++ e ∷ []) side kind port o → IsPairAt es side kind port o
assigned_before es e side kind port (Some q) is off says = record {
  found = record {
    assigned = elim (Contains-push_cases (assigned_in es) e.pair q (subst (λ l. Contains l q) (assigned_more es e is) says.found.assigned)) [
      | inl there ↦ there
      | inr same ↦ absurd (false≢true (sym off ∙ (ap (is_at side kind port) same ∙ says.found.at)))
    ];
    at = says.found.at;
  };
  none = tt;
}
assigned_before es e side kind port None is off says = record {
  found = tt;
  none = All-front (λ pair. is_at side kind port pair ≡ false) (assigned_in es) e.pair (subst (All (λ pair. is_at side kind port pair ≡ false)) (assigned_more es e is) says.none);
}

pairs_at_more : (n m : ℕ) (es : List Entry) (e : Entry) (hs : List (Option Pair)) → IsPairOf n m e.pair → is_assigned e.fate ≡ true → ArePairsAt n m es hs → ArePairsAt n m (es ++ e ∷ []) (put_at_ports (Some e.pair) n m e.pair hs)
pairs_at_more n m es e hs known is are = record {
  size = changed_size None (λ old. Some e.pair) n m e.pair hs ∙ are.size;
  each = λ side kind port below. elim (cases_Bool (is_at side kind port e.pair)) [
    | inl on ↦
        subst (IsPairAt (es ++ e ∷ []) side kind port) (sym (changed_at None (λ old. Some e.pair) n m e.pair hs side kind port known are.size on)) (record {
          found = record { assigned = subst (λ l. Contains l e.pair) (sym (assigned_more es e is)) (Contains-push (assigned_in es) e.pair); at = on };
          none = tt;
        })
    | inr off ↦
        subst (IsPairAt (es ++ e ∷ []) side kind port) (sym (changed_other None (λ old. Some e.pair) n m e.pair hs side kind port known below off)) (assigned_stays es e side kind port (get_or hs (port_number n m side kind port) None) is off (are.each side kind port below))
  ];
}

-- a pair apart from one of a port isn't of that port
off_port : (x p : Pair) (side : Side) (kind : PortKind) (port : ℕ) → AreApart x p → is_at side kind port p ≡ true → is_at side kind port x ≡ false
off_port x p side kind port apart on = elim (cases_Bool (is_at side kind port x)) [
  | inl at ↦
      let one = of_at side kind port x at in
      let other = of_at side kind port p on in
      absurd (by_side side apart (one.0 ∙ sym other.0) (one.1 ∙ sym other.1))
  | inr off ↦ off
]
  where
    by_side : (s : Side) → AreApart x p → x.kind ≡ p.kind → port_on s x ≡ port_on s p → ⊥
    by_side First are kinds ports = are.from kinds ports
    by_side Second are kinds ports = are.to kinds ports

pairs_at_fewer : (n m : ℕ) (es : List Entry) (e : Entry) (hs : List (Option Pair)) → AreEntries n m (es ++ e ∷ []) → is_assigned e.fate ≡ true → ArePairsAt n m (es ++ e ∷ []) hs → ArePairsAt n m es (put_at_ports None n m e.pair hs)
pairs_at_fewer n m es e hs entries is are = record {
  size = let nothing : Option Pair = None in changed_size nothing (λ old. nothing) n m e.pair hs ∙ are.size;
  each = λ side kind port below. elim (cases_Bool (is_at side kind port e.pair)) [
    | inl on ↦
        subst (IsPairAt es side kind port) (sym (changed_at None (λ old. None) n m e.pair hs side kind port known are.size on)) (record {
          found = tt;
          none = λ k d within. off_port (get_or (assigned_in es) k d) e.pair side kind port (apart k d within) on;
        })
    | inr off ↦
        subst (IsPairAt es side kind port) (sym (changed_other None (λ old. None) n m e.pair hs side kind port known below off)) (assigned_before es e side kind port (get_or hs (port_number n m side kind port) None) is off (are.each side kind port below))
  ];
}
  where
    known : IsPairOf n m e.pair
    known = All-last (λ (x : Entry). IsPairOf n m x.pair) es e entries.known

    apart : All (λ x. AreApart x e.pair) (assigned_in es)
    apart = AllPairs-last AreApart (assigned_in es) e.pair (subst (AllPairs AreApart) (assigned_more es e is) entries.apart)

-- the counts
counts_assigned : (n m : ℕ) (es : List Entry) (e : Entry) (gs : List ℕ) → is_assigned e.fate ≡ true → AreCounts n m es gs → AreCounts n m (es ++ e ∷ []) gs
counts_assigned n m es e gs is are = record { size = are.size; each = λ side kind port below. are.each side kind port below ∙ sym (gone_assigned es e side kind port is) }

counts_unassigned : (n m : ℕ) (es : List Entry) (e : Entry) (gs : List ℕ) → is_assigned e.fate ≡ true → AreCounts n m (es ++ e ∷ []) gs → AreCounts n m es gs
counts_unassigned n m es e gs is are = record { size = are.size; each = λ side kind port below. are.each side kind port below ∙ gone_assigned es e side kind port is }

counts_more : (n m : ℕ) (es : List Entry) (e : Entry) (gs : List ℕ) → IsPairOf n m e.pair → is_assigned e.fate ≡ false → AreCounts n m es gs → AreCounts n m (es ++ e ∷ []) (at_ports 0 (λ count. count + 1) n m e.pair gs)
counts_more n m es e gs known is are = record {
  size = changed_size 0 (λ count. count + 1) n m e.pair gs ∙ are.size;
  each = λ side kind port below. elim (cases_Bool (is_at side kind port e.pair)) [
    | inl on ↦
        let one = one_of_true (is_at side kind port e.pair) on in
        omega (arith, changed_at 0 (λ count. count + 1) n m e.pair gs side kind port known are.size on, are.each side kind port below, gone_deleted es e side kind port is, one)
    | inr off ↦
        let none = none_of_false (is_at side kind port e.pair) off in
        omega (arith, changed_other 0 (λ count. count + 1) n m e.pair gs side kind port known below off, are.each side kind port below, gone_deleted es e side kind port is, none)
  ];
}

counts_fewer : (n m : ℕ) (es : List Entry) (e : Entry) (gs : List ℕ) → IsPairOf n m e.pair → is_assigned e.fate ≡ false → AreCounts n m (es ++ e ∷ []) gs → AreCounts n m es (at_ports 0 (λ count. count - 1) n m e.pair gs)
counts_fewer n m es e gs known is are = record {
  size = changed_size 0 (λ count. count - 1) n m e.pair gs ∙ are.size;
  each = λ side kind port below. elim (cases_Bool (is_at side kind port e.pair)) [
    | inl on ↦
        let one = one_of_true (is_at side kind port e.pair) on in
        omega (arith, changed_at 0 (λ count. count - 1) n m e.pair gs side kind port known are.size on, are.each side kind port below, gone_deleted es e side kind port is, one)
    | inr off ↦
        let none = none_of_false (is_at side kind port e.pair) off in
        omega (arith, changed_other 0 (λ count. count - 1) n m e.pair gs side kind port known below off, are.each side kind port below, gone_deleted es e side kind port is, none)
  ];
}

pub kept_assigned : (n m : ℕ) (es : List Entry) (e : Entry) (ws : List Pair) (ps : List (Option ℕ)) (hs : List (Option Pair)) (gs : List ℕ) (k : ℕ) → IsKept n m es ws ps hs gs → is_assigned e.fate ≡ true → IsPairOf n m e.pair → IsOpen es e.pair → IsFreePort es First e.pair.kind e.pair.from → IsFreePort es Second e.pair.kind e.pair.to → k ≡ length es → IsKept n m (es ++ e ∷ []) (ws ++ e.pair ∷ []) (set ps (pair_number n m e.pair) (Some k)) (put_at_ports (Some e.pair) n m e.pair hs) gs
kept_assigned n m es e ws ps hs gs k are is known free from to last = record {
  entries_are = entries_assigned n m es e are.entries_are is known free from to;
  pairs_are = ap (λ l. l ++ e.pair ∷ []) are.pairs_are ∙ sym (assigned_more es e is);
  places_are = places_more n m es e ps k known last are.places_are;
  pairs_at_are = pairs_at_more n m es e hs known is are.pairs_at_are;
  gone_are = counts_assigned n m es e gs is are.gone_are;
}

pub kept_deleted : (n m : ℕ) (es : List Entry) (e : Entry) (ws : List Pair) (ps : List (Option ℕ)) (hs : List (Option Pair)) (gs : List ℕ) (k : ℕ) → IsKept n m es ws ps hs gs → is_assigned e.fate ≡ false → IsPairOf n m e.pair → IsOpen es e.pair → k ≡ length es → IsKept n m (es ++ e ∷ []) ws (set ps (pair_number n m e.pair) (Some k)) hs (at_ports 0 (λ count. count + 1) n m e.pair gs)
kept_deleted n m es e ws ps hs gs k are is known free last = record {
  entries_are = entries_deleted n m es e are.entries_are is known free;
  pairs_are = are.pairs_are ∙ sym (assigned_same es e is);
  places_are = places_more n m es e ps k known last are.places_are;
  pairs_at_are = pairs_at_by n m es (es ++ e ∷ []) hs (sym (assigned_same es e is)) are.pairs_at_are;
  gone_are = counts_more n m es e gs known is are.gone_are;
}

-- a list without its last element
without_last : (ws now hs : List Pair) (p : Pair) → now ≡ take (length ws - 1) ws → ws ≡ hs ++ p ∷ [] → now ≡ hs
without_last ws now hs p rest is =
    let size : length ws - 1 ≡ length hs = omega (arith, ap length is, length_push hs p) in
    rest ∙ (ap (λ k. take k ws) size ∙ (ap (take (length hs)) is ∙ take_at hs (p ∷ []) (length hs) refl))

pub kept_unassigned : (n m : ℕ) (es : List Entry) (e : Entry) (ws now : List Pair) (ps : List (Option ℕ)) (hs : List (Option Pair)) (gs : List ℕ) → IsKept n m (es ++ e ∷ []) ws ps hs gs → is_assigned e.fate ≡ true → now ≡ take (length ws - 1) ws → IsKept n m es now (set ps (pair_number n m e.pair) None) (put_at_ports None n m e.pair hs) gs
kept_unassigned n m es e ws now ps hs gs are is rest = record {
  entries_are = entries_fewer n m es e are.entries_are;
  pairs_are = without_last ws now (assigned_in es) e.pair rest (are.pairs_are ∙ assigned_more es e is);
  places_are = places_fewer n m es e ps are.entries_are are.places_are;
  pairs_at_are = pairs_at_fewer n m es e hs are.entries_are is are.pairs_at_are;
  gone_are = counts_unassigned n m es e gs is are.gone_are;
}

pub kept_undeleted : (n m : ℕ) (es : List Entry) (e : Entry) (ws : List Pair) (ps : List (Option ℕ)) (hs : List (Option Pair)) (gs : List ℕ) → IsKept n m (es ++ e ∷ []) ws ps hs gs → is_assigned e.fate ≡ false → IsKept n m es ws (set ps (pair_number n m e.pair) None) hs (at_ports 0 (λ count. count - 1) n m e.pair gs)
kept_undeleted n m es e ws ps hs gs are is = record {
  entries_are = entries_fewer n m es e are.entries_are;
  pairs_are = are.pairs_are ∙ assigned_same es e is;
  places_are = places_fewer n m es e ps are.entries_are are.places_are;
  pairs_at_are = pairs_at_by n m (es ++ e ∷ []) es hs (assigned_same es e is) are.pairs_at_are;
  gone_are = counts_fewer n m es e gs (All-last (λ (x : Entry). IsPairOf n m x.pair) es e are.entries_are.known) is are.gone_are;
}

-- a count fits
pub few_gone : (n m : ℕ) (es : List Entry) (gs : List ℕ) (side : Side) (kind : PortKind) (port : ℕ) → AreCounts n m es gs → length es < 2 ^ 63 → port < ports_of n m kind → get_or gs (port_number n m side kind port) 0 < 2 ^ 63
few_gone n m es gs side kind port are few below =
    omega (arith, are.each side kind port below, count_by-le-length (λ (x : Entry). not (is_assigned x.fate) && is_at side kind port x.pair) es, few)

-- the last pair is known
pub last_known : (n m : ℕ) (es : List Entry) (e : Entry) → AreEntries n m (es ++ e ∷ []) → IsPairOf n m e.pair
last_known n m es e are = All-last (λ (x : Entry). IsPairOf n m x.pair) es e are.known

-- what is left while entries are taken off the end
pub record IsGoingBack (was now : Domained) (count : ℕ) : Type 0 where
  pub inputs : now.inputs ≡ was.inputs
  pub outputs : now.outputs ≡ was.outputs
  pub enough : count ≤ length now.entries
  pub front : now.entries ≡ take (length now.entries) was.entries
