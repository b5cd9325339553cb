-- Classes of inputs that grow input by input.
use Rattle.std.proofs.Common.{◌≡◌, ◌≢◌, ◌⊎◌, ℕ, ◌+◌, ◌<◌, ◌≤◌, Bool, true, false, List, [], ◌∷◌, ◌++◌, length, All, Option, None, Some, get_or, set, refl, sym, subst, ap, ◌∙◌, inl, inr, arith}
use Rattle.std.proofs.lemmas.Bool.{cases_eq, cases_lt, false≢true}
use Rattle.std.proofs.lemmas.List.{get_or_append_left, get_or_push, get_or-set_other, get_or-set_same, get_or_default, length-set, length_push}
use Rattle.std.proofs.lemmas.List.Elements.{All-push, All-set}
use Rattle.std.proofs.lemmas.List.Quantifiers.{all_pairs_push}
use Rattle.std.specs.Bool.{Decides}
use Rattle.circuits.proofs.EachLemmas.{each_push}
use Rattle.circuits.specs.Literals.{EachAt, differ}
use Rattle.claim_core.specs.declared.info.Unate.{Unate}
use Rattle.claim_core.specs.declared.info.Unate.TheVariants.{Positive}
use Rattle.claim_core.specs.declared.info.Sym.{Sym}
use Rattle.claim_core.specs.Rows.{IsEntry, ListsPairs, ListsSupport}
use Rattle.fact_tests.specs.declared.exchange_classes.ExchangeClasses.{ExchangeClasses}
use Rattle.fact_tests.specs.declared.exchange_classes.Class.{Class}
use Rattle.fact_tests.specs.declared.exchange_classes.OtherInputs.{OtherInputs}
use Rattle.fact_tests.specs.declared.exchange_classes.ClassPlace.{ClassPlace}
use Rattle.fact_tests.specs.declared.exchange_classes.FoundClass.{FoundClass}
use Rattle.fact_tests.specs.Exchanges.{Adds, AreApart, AreClasses, Finds, HasLast, IsClass, IsExchange, IsFound, IsIn, IsJoined, IsNever, IsNext, IsOther, IsPlace, IsSecond, IsStranger, IsTried, IsWay, Joins, KeepsBoth, Sorts, both_by, classes_with, found_by, last_by, next_by, place_in, second_by, skew_by, sym_by}
use Rattle.fact_tests.specs.Outputs.{IsAlike, IsSymmetry, input_at, pair_of}
use Rattle.fact_tests.proofs.ExchangeLemmas.{exchange_between, exchange_is, exchange_over, never_back, never_over}
use Rattle.fact_tests.proofs.AlikeLemmas.{alike_back}
use Rattle.fact_tests.proofs.RowLemmas.{pair_step, read_at, support_above}

-- what is tried

refuted : {P : Type 0} → Decides false P → P → ⊥
refuted decides p = false≢true (decides.1 p)

pub way_symmetric : (n : ℕ) (f : List Bool → Bool) (i j : ℕ) (symmetric : Bool) → symmetric ≡ true → Decides symmetric (IsAlike n f i j false) → IsWay n f i j (Some false)
way_symmetric n f i j symmetric is decides = decides.0 is

pub way_skew : (n : ℕ) (f : List Bool → Bool) (i j : ℕ) (symmetric skew : Bool) → symmetric ≡ false
    → Decides symmetric (IsAlike n f i j false)
    → Decides skew (IsAlike n f i j true)
    → IsWay n f i j (skew_by skew)
way_skew n f i j symmetric true never decides other = other.0 refl
way_skew n f i j symmetric false never decides other = neither
  where
    neither : (inverted : Bool) → IsAlike n f i j inverted → ⊥
    neither false alike = false≢true (sym never ∙ decides.1 alike)
    neither true alike = refuted other alike

pub second_is : (n : ℕ) (f : List Bool → Bool) (first entry : ℕ × Unate) (symmetric skew : Bool)
    → Decides symmetric (IsAlike n f first.0 entry.0 false)
    → Decides skew (IsAlike n f first.0 entry.0 true)
    → IsSecond n f first entry (second_by entry symmetric skew)
second_is n f first entry true true one other = (refl, record { alike = one.0 refl; other = other })
second_is n f first entry true false one other = (refl, record { alike = one.0 refl; other = other })
second_is n f first entry false true one other = (refl, record { alike = other.0 refl; other = one })
second_is n f first entry false false one other = neither
  where
    neither : (inverted : Bool) → IsAlike n f first.0 entry.0 inverted → ⊥
    neither false alike = refuted one alike
    neither true alike = refuted other alike

-- and an input more
joined_next : (n : ℕ) (f : List Bool → Bool) (class : Class) (old : OtherInputs) (entry : ℕ × Unate) (way : Option Bool) → class.others ≡ Some old
    → IsOther n f class.first.0 (Some old) old.last.0 old.inverted
    → old.last.0 < entry.0
    → IsWay n f old.last.0 entry.0 way
    → IsJoined n f class entry (next_by old entry way)
joined_next n f class old entry None has joined order way =
    subst (λ others. IsNever n f (last_by class.first others).0 entry.0) (sym has) way
joined_next n f class old entry (Some inverted) has joined order way = record {
  last = refl;
  exchange = exchange_over n f class.first.0 old.last.0 entry.0 old.inverted old.both inverted (omega (arith, joined.0)) (omega (arith, order)) (omega (arith, joined.0, order)) joined.1 way;
  kept = subst (λ others. KeepsBoth others (record { last = entry; inverted = differ old.inverted inverted; both = old.both })) (sym has) refl;
}

pub next_joins : (n : ℕ) (f : List Bool → Bool) (end : ℕ) (class : Class) (old : OtherInputs) (entry : ℕ × Unate) (next : Option OtherInputs) → class.others ≡ Some old
    → IsClass n f end class
    → end ≤ entry.0
    → IsNext n f old entry next
    → IsJoined n f class entry next
next_joins n f end class old entry next has is le follows =
    let joined : HasLast n f class.first.0 (Some old) = subst (HasLast n f class.first.0) has is.joined in
    let before : old.last.0 < end = subst (λ others. (last_by class.first others).0 < end) has is.before in
    subst (IsJoined n f class entry) (sym follows.2) (joined_next n f class old entry follows.0 has joined (omega (arith, before, le)) follows.1)

-- what is found

pub tried_is : (n : ℕ) (f : List Bool → Bool) (classes : List Class) (entry : ℕ × Unate) (number : ℕ) (d : Class) (others : Option OtherInputs) → number < length classes
    → IsJoined n f (get_or classes number d) entry others
    → IsTried n f classes entry number (found_by number (get_or classes number d) others)
tried_is n f classes entry number d None there joined =
    λ e h. subst (λ class. IsStranger n f class entry.0) (get_or_default classes number d e there) joined
tried_is n f classes entry number d (Some others) there joined = record {
  there = there;
  first = λ e. ap (λ (class : Class). class.first) (get_or_default classes number d e there);
  joins = λ e. subst (λ class. Joins n f class entry others) (get_or_default classes number d e there) joined;
}

-- one class more was tried in vain
pub strangers_more : (n : ℕ) (f : List Bool → Bool) (classes : List Class) (entry : ℕ × Unate) (number : ℕ) (result : Option FoundClass) → result ≡ None
    → IsTried n f classes entry number result
    → ((k : ℕ) (d : Class) → k < number → k < length classes → IsStranger n f (get_or classes k d) entry.0)
    → (k : ℕ) (d : Class) → k < number + 1 → k < length classes → IsStranger n f (get_or classes k d) entry.0
strangers_more n f classes entry number result none tried so_far k d below there =
    elim (cases_lt k number) [
      | inl less ↦ so_far k d less there
      | inr past ↦
          let same : number ≡ k = omega (arith, below, past) in
          subst (λ k. IsStranger n f (get_or classes k d) entry.0) same (subst (IsTried n f classes entry number) none tried d (omega (arith, same, there)))
    ]

-- classes

first_by : (n : ℕ) (f : List Bool → Bool) (end : ℕ) (first : ℕ × Unate) (others : Option OtherInputs) → HasLast n f first.0 others → (last_by first others).0 < end → first.0 < end
first_by n f end first None joined before = before
first_by n f end first (Some others) joined before = omega (arith, joined.0, before)

first_before : (n : ℕ) (f : List Bool → Bool) (end : ℕ) (class : Class) → IsClass n f end class → class.first.0 < end
first_before n f end class is = first_by n f end class.first class.others is.joined is.before

never_by : (n : ℕ) (f : List Bool → Bool) (i : ℕ) (first : ℕ × Unate) (others : Option OtherInputs) → HasLast n f first.0 others → (last_by first others).0 < i → IsNever n f (last_by first others).0 i → IsNever n f first.0 i
never_by n f i first None joined before never = never
never_by n f i first (Some others) joined before never =
    never_over n f first.0 others.last.0 i others.inverted (omega (arith, joined.0)) (omega (arith, before)) (omega (arith, joined.0, before)) joined.1.alike never

later_class : (n : ℕ) (f : List Bool → Bool) (end more : ℕ) (class : Class) → end ≤ more → IsClass n f end class → IsClass n f more class
later_class n f end more class le is = record { first = is.first; last = is.last; before = omega (arith, is.before, le); joined = is.joined }

pub later_classes : (n : ℕ) (f : List Bool → Bool) (end more : ℕ) (classes : List Class) → end ≤ more → AreClasses n f end classes → AreClasses n f more classes
later_classes n f end more classes le are = record {
  each = λ k d h. later_class n f end more (get_or classes k d) le (are.each k d h);
  apart = are.apart;
}

-- a class of its own
classes_push : (n : ℕ) (f : List Bool → Bool) (entry : ℕ × Unate) (classes : List Class)
    → IsEntry n f entry
    → AreClasses n f entry.0 classes
    → All (λ class. IsStranger n f class entry.0) classes
    → AreClasses n f (entry.0 + 1) (classes_with entry None classes)
classes_push n f entry classes right are strangers =
    let new : Class = record { first = entry; others = None } in
    record {
      each = All-push (IsClass n f (entry.0 + 1)) classes new (later_classes n f entry.0 (entry.0 + 1) classes (omega arith) are).each (record { first = right; last = right; before = omega arith; joined = tt });
      apart = all_pairs_push (AreApart n f) classes new are.apart (λ k d h.
          let class = get_or classes k d in
          let is : IsClass n f entry.0 class = are.each k d h in
          (omega (arith, first_before n f entry.0 class is), never_by n f entry.0 class.first class.others is.joined is.before (strangers k d h)));
    }

class_grown : (n : ℕ) (f : List Bool → Bool) (entry : ℕ × Unate) (old : Class) (found : FoundClass)
    → IsEntry n f entry
    → IsClass n f entry.0 old
    → found.first ≡ old.first
    → Joins n f old entry found.others
    → IsClass n f (entry.0 + 1) (record { first = found.first; others = Some found.others })
class_grown n f entry old found right is same joins = record {
  first = subst (IsEntry n f) (sym same) is.first;
  last = subst (IsEntry n f) (sym joins.last) right;
  before = omega (arith, ap (λ (entry : ℕ × Unate). entry.0) joins.last);
  joined = subst (λ (first : ℕ × Unate). (first.0 < found.others.last.0) × IsExchange n f first.0 found.others.last.0 found.others.inverted found.others.both) (sym same)
      (subst (λ (last : ℕ × Unate). (old.first.0 < last.0) × IsExchange n f old.first.0 last.0 found.others.inverted found.others.both) (sym joins.last) (first_before n f entry.0 old is, joins.exchange));
}

-- the first inputs stay
first_kept : (classes : List Class) (number : ℕ) (new : Class) (k : ℕ) (d : Class) → number < length classes
    → ((d : Class) → new.first ≡ (get_or classes number d).first)
    → (get_or (set classes number new) k d).first ≡ (get_or classes k d).first
first_kept classes number new k d there same =
    elim (cases_eq k number) [
      | inl is ↦ ap (λ k. (get_or (set classes number new) k d).first) is ∙ (ap (λ (class : Class). class.first) (get_or-set_same classes number new d there) ∙ (same d ∙ ap (λ k. (get_or classes k d).first) (sym is)))
      | inr apart ↦ ap (λ (class : Class). class.first) (get_or-set_other classes number k new d apart)
    ]

classes_set : (n : ℕ) (f : List Bool → Bool) (entry : ℕ × Unate) (classes : List Class) (found : FoundClass)
    → IsEntry n f entry
    → AreClasses n f entry.0 classes
    → Finds n f classes entry found
    → AreClasses n f (entry.0 + 1) (classes_with entry (Some found) classes)
classes_set n f entry classes found right are finds =
    let new : Class = record { first = found.first; others = Some found.others } in
    let kept : (k : ℕ) (d : Class) → (get_or (set classes found.number new) k d).first ≡ (get_or classes k d).first = λ k d. first_kept classes found.number new k d finds.there finds.first in
    record {
      each = All-set (IsClass n f (entry.0 + 1)) classes found.number new
          (class_grown n f entry (get_or classes found.number new) found right (are.each found.number new finds.there) (finds.first new) (finds.joins new))
          (later_classes n f entry.0 (entry.0 + 1) classes (omega arith) are).each;
      apart = λ i j d less h.
          let is = are.apart i j d less (omega (arith, h, length-set classes found.number new)) in
          subst (λ (first : ℕ × Unate). (first.0 ≢ (get_or (set classes found.number new) j d).first.0) × IsNever n f first.0 (get_or (set classes found.number new) j d).first.0) (sym (kept i d))
          (subst (λ (first : ℕ × Unate). ((get_or classes i d).first.0 ≢ first.0) × IsNever n f (get_or classes i d).first.0 first.0) (sym (kept j d)) is);
    }

-- whoever belongs to a class belongs to it still
in_by : (n : ℕ) (f : List Bool → Bool) (first i : ℕ) (old : Option OtherInputs) (new : OtherInputs) (inverted : Bool) → KeepsBoth old new → IsOther n f first old i inverted → IsOther n f first (Some new) i inverted
in_by n f first i None new inverted kept is = absurd is
in_by n f first i (Some old) new inverted kept is = (is.0, subst (IsExchange n f first i inverted) (sym kept) is.1)

in_grown : (n : ℕ) (f : List Bool → Bool) (entry : ℕ × Unate) (old : Class) (found : FoundClass) (i : ℕ) (inverted : Bool)
    → found.first ≡ old.first
    → Joins n f old entry found.others
    → IsIn n f old i inverted
    → IsIn n f (record { first = found.first; others = Some found.others }) i inverted
in_grown n f entry old found i inverted same joins is =
    elim is [
      | inl first ↦ inl (first.0 ∙ ap (λ (first : ℕ × Unate). first.0) (sym same), first.1)
      | inr other ↦ inr (subst (λ (first : ℕ × Unate). IsOther n f first.0 (Some found.others) i inverted) (sym same) (in_by n f old.first.0 i old.others found.others inverted joins.kept other))
    ]

place_push : (n : ℕ) (f : List Bool → Bool) (entry : ℕ × Unate) (classes : List Class) (i : ℕ) (place : ClassPlace) → IsPlace n f classes i place → IsPlace n f (classes_with entry None classes) i place
place_push n f entry classes i place is =
    let new : Class = record { first = entry; others = None } in
    record {
      there = omega (arith, is.there, length_push classes new);
      belongs = λ d. subst (λ class. IsIn n f class i place.inverted) (sym (get_or_append_left classes (new ∷ []) d place.class is.there)) (is.belongs d);
    }

place_set : (n : ℕ) (f : List Bool → Bool) (entry : ℕ × Unate) (classes : List Class) (found : FoundClass) (i : ℕ) (place : ClassPlace) → Finds n f classes entry found → IsPlace n f classes i place → IsPlace n f (classes_with entry (Some found) classes) i place
place_set n f entry classes found i place finds is =
    let new : Class = record { first = found.first; others = Some found.others } in
    record {
      there = omega (arith, is.there, length-set classes found.number new);
      belongs = λ d.
          elim (cases_eq place.class found.number) [
            | inl same ↦
                subst (λ class. IsIn n f class i place.inverted) (sym (ap (λ k. get_or (set classes found.number new) k d) same ∙ get_or-set_same classes found.number new d finds.there))
                (in_grown n f entry (get_or classes found.number d) found i place.inverted (finds.first d) (finds.joins d) (subst (λ k. IsIn n f (get_or classes k d) i place.inverted) same (is.belongs d)))
            | inr apart ↦ subst (λ class. IsIn n f class i place.inverted) (sym (get_or-set_other classes found.number place.class new d apart)) (is.belongs d)
          ];
    }

here_push : (n : ℕ) (f : List Bool → Bool) (entry : ℕ × Unate) (classes : List Class) → IsPlace n f (classes_with entry None classes) entry.0 (place_in None classes)
here_push n f entry classes =
    let new : Class = record { first = entry; others = None } in
    record {
      there = omega (arith, length_push classes new);
      belongs = λ d. subst (λ class. IsIn n f class entry.0 false) (sym (get_or_push classes new d (length classes) refl)) (inl (refl, refl));
    }

here_set : (n : ℕ) (f : List Bool → Bool) (entry : ℕ × Unate) (classes : List Class) (found : FoundClass) → AreClasses n f entry.0 classes → Finds n f classes entry found → IsPlace n f (classes_with entry (Some found) classes) entry.0 (place_in (Some found) classes)
here_set n f entry classes found are finds =
    let new : Class = record { first = found.first; others = Some found.others } in
    record {
      there = omega (arith, finds.there, length-set classes found.number new);
      belongs = λ d. subst (λ class. IsIn n f class entry.0 found.others.inverted) (sym (get_or-set_same classes found.number new d finds.there)) (inr (joined d));
    }
  where
    joined : (d : Class) → (found.first.0 < entry.0) × IsExchange n f found.first.0 entry.0 found.others.inverted found.others.both
    joined d =
        let old = get_or classes found.number d in
        subst (λ (first : ℕ × Unate). (first.0 < entry.0) × IsExchange n f first.0 entry.0 found.others.inverted found.others.both) (sym (finds.first d))
        (first_before n f entry.0 old (are.each found.number d finds.there), (finds.joins d).exchange)

-- the next input is added
adds_by : (n : ℕ) (f : List Bool → Bool) (entry : ℕ × Unate) (old new : ExchangeClasses) (found : Option FoundClass)
    → IsEntry n f entry
    → AreClasses n f entry.0 old.classes
    → IsFound n f old.classes entry found
    → new.classes ≡ classes_with entry found old.classes
    → new.places ≡ old.places ++ place_in found old.classes ∷ []
    → Adds n f entry.0 old new
adds_by n f entry old new None right are found classes places = record {
  classes = subst (AreClasses n f (entry.0 + 1)) (sym classes) (classes_push n f entry old.classes right are found);
  place = place_in None old.classes;
  placed = places;
  belongs = subst (λ classes. IsPlace n f classes entry.0 (place_in None old.classes)) (sym classes) (here_push n f entry old.classes);
  kept = λ j place is. subst (λ classes. IsPlace n f classes j place) (sym classes) (place_push n f entry old.classes j place is);
}
adds_by n f entry old new (Some found) right are finds classes places = record {
  classes = subst (AreClasses n f (entry.0 + 1)) (sym classes) (classes_set n f entry old.classes found right are finds);
  place = place_in (Some found) old.classes;
  placed = places;
  belongs = subst (λ classes. IsPlace n f classes entry.0 (place_in (Some found) old.classes)) (sym classes) (here_set n f entry old.classes found are finds);
  kept = λ j place is. subst (λ classes. IsPlace n f classes j place) (sym classes) (place_set n f entry old.classes found j place finds is);
}

pub added : (n : ℕ) (f : List Bool → Bool) (entry : ℕ × Unate) (old new : ExchangeClasses) (found : Option FoundClass)
    → IsEntry n f entry
    → AreClasses n f entry.0 old.classes
    → IsFound n f old.classes entry found
    → new.classes ≡ classes_with entry found old.classes
    → new.places ≡ old.places ++ place_in found old.classes ∷ []
    → Adds n f entry.0 old new
added = adds_by

-- the inputs in order

pub sorts_none : (n : ℕ) (f : List Bool → Bool) (support : List (ℕ × Unate)) (sorted : ExchangeClasses) → sorted.classes ≡ [] → sorted.places ≡ [] → Sorts n f support 0 sorted
sorts_none n f support sorted classes places = record {
  classes = subst (AreClasses n f (input_at n support 0)) (sym classes) (record {
    each = λ k d h. absurd (omega (arith, h));
    apart = λ i j d less h. absurd (omega (arith, h));
  });
  counted = ap length places;
  places = subst (λ places. EachAt (λ k place. IsPlace n f sorted.classes (input_at n support k) place) places) (sym places) (λ k d h. absurd (omega (arith, h)));
}

pub sorts_more : (n : ℕ) (f : List Bool → Bool) (support : List (ℕ × Unate)) (k i : ℕ) (old new : ExchangeClasses) → ListsSupport n f 0 n support → k < length support
    → i ≡ (get_or support k (0, Positive)).0
    → Sorts n f support k old
    → Adds n f i old new
    → Sorts n f support (k + 1) new
sorts_more n f support k i old new lists there read sorts adds =
    let here : i ≡ input_at n support k = read ∙ read_at n support k there in
    let P : ℕ → ClassPlace → Type 0 = λ m place. IsPlace n f new.classes (input_at n support m) place in
    let before : EachAt P old.places = λ m d h. adds.kept (input_at n support m) (get_or old.places m d) (sorts.places m d h) in
    let belongs : P (length old.places) adds.place = subst (λ i. IsPlace n f new.classes i adds.place) (here ∙ ap (input_at n support) (sym sorts.counted)) adds.belongs in
    record {
      classes = later_classes n f (i + 1) (input_at n support (k + 1)) new.classes (omega (arith, here, support_above n f 0 support k lists there)) adds.classes;
      counted = ap length adds.placed ∙ omega (arith, length_push old.places adds.place, sorts.counted);
      places = subst (EachAt P) (sym adds.placed) (each_push P old.places adds.place before belongs);
    }

-- what is needed before the next input is added
pub classes_at : (n : ℕ) (f : List Bool → Bool) (support : List (ℕ × Unate)) (k i : ℕ) (sorted : ExchangeClasses) → k < length support → i ≡ (get_or support k (0, Positive)).0 → Sorts n f support k sorted → AreClasses n f i sorted.classes
classes_at n f support k i sorted there read sorts =
    subst (λ i. AreClasses n f i sorted.classes) (sym (read ∙ read_at n support k there)) sorts.classes

-- two inputs

-- the first input of one class isn't in another
strange_first : (n : ℕ) (f : List Bool → Bool) (one other : Class) (inverted : Bool) → AreApart n f one other → IsIn n f one other.first.0 inverted → ⊥
strange_first n f one other inverted apart is =
    elim is [
      | inl first ↦ apart.0 (sym first.0)
      | inr joined ↦ by one.others joined
    ]
  where
    by : (others : Option OtherInputs) → IsOther n f one.first.0 others other.first.0 inverted → ⊥
    by None joined = joined
    by (Some others) joined = apart.1 inverted joined.1.alike

-- an input of a class may be exchanged with the first one, or is it
same_or_alike : (n : ℕ) (f : List Bool → Bool) (first i : ℕ) (others : Option OtherInputs) (inverted : Bool) → IsOther n f first others i inverted → (first < i) × IsAlike n f first i inverted
same_or_alike n f first i None inverted is = absurd is
same_or_alike n f first i (Some others) inverted is = (is.0, is.1.alike)

-- whoever may not be exchanged with the first input of a class may not be with another one
never_in : (n : ℕ) (f : List Bool → Bool) (class : Class) (i j : ℕ) (inverted : Bool) → i ≢ j → class.first.0 ≢ j
    → IsIn n f class i inverted
    → IsNever n f class.first.0 j
    → IsNever n f i j
never_in n f class i j inverted apart ends is never =
    elim is [
      | inl first ↦ subst (λ i. IsNever n f i j) (sym first.0) never
      | inr joined ↦
          let other = same_or_alike n f class.first.0 i class.others inverted joined in
          never_over n f i class.first.0 j inverted (omega (arith, other.0)) ends apart (back other.0 other.1) never
    ]
  where
    back : class.first.0 < i → IsAlike n f class.first.0 i inverted → IsAlike n f i class.first.0 inverted
    back less alike = alike_back n f class.first.0 i inverted (omega (arith, less)) alike

apart_back : (n : ℕ) (f : List Bool → Bool) (one other : Class) → AreApart n f one other → AreApart n f other one
apart_back n f one other apart = (λ e. apart.0 (sym e), never_back n f one.first.0 other.first.0 apart.0 apart.1)

never_between : (n : ℕ) (f : List Bool → Bool) (one other : Class) (i j : ℕ) (p q : Bool) → i ≢ j → AreApart n f one other → IsIn n f one i p → IsIn n f other j q → IsNever n f i j
never_between n f one other i j p q apart classes first second =
    let ends : i ≢ other.first.0 = λ e. strange_first n f one other p classes (subst (λ i. IsIn n f one i p) e first) in
    let upper : IsNever n f i other.first.0 = never_in n f one i other.first.0 p ends classes.0 first classes.1 in
    never_back n f j i (λ e. apart (sym e))
    (never_in n f other j i q (λ e. apart (sym e)) (λ e. ends (sym e)) second (never_back n f i other.first.0 ends upper))

-- inputs of two classes
pub sym_apart : (n : ℕ) (f : List Bool → Bool) (end i j : ℕ) (classes : List Class) (one other : ClassPlace) → AreClasses n f end classes
    → IsPlace n f classes i one
    → IsPlace n f classes j other
    → i < j
    → one.class ≢ other.class
    → IsSymmetry n f i j None
sym_apart n f end i j classes one other are first second order apart =
    let d : Class = record { first = (0, Positive); others = None } in
    let never : IsNever n f i j = never_between n f (get_or classes one.class d) (get_or classes other.class d) i j one.inverted other.inverted (omega (arith, order)) (classes_apart d) (first.belongs d) (second.belongs d) in
    (never false, never true)
  where
    classes_apart : (d : Class) → AreApart n f (get_or classes one.class d) (get_or classes other.class d)
    classes_apart d =
        elim (cases_lt one.class other.class) [
          | inl less ↦ are.apart one.class other.class d less second.there
          | inr past ↦ elim (cases_lt other.class one.class) [
            | inl less ↦ apart_back n f (get_or classes other.class d) (get_or classes one.class d) (are.apart other.class one.class d less first.there)
            | inr same ↦ absurd (apart (omega (arith, past, same)))
          ]
        ]

plain_sign : (sign : Bool) → differ false sign ≡ sign
plain_sign false = refl
plain_sign true = refl

exchange_in : (n : ℕ) (f : List Bool → Bool) (first i j : ℕ) (others : Option OtherInputs) (p q : Bool) → i < j
    → ((i ≡ first) × (p ≡ false)) ⊎ IsOther n f first others i p
    → ((j ≡ first) × (q ≡ false)) ⊎ IsOther n f first others j q
    → IsExchange n f i j (differ p q) (both_by others)
exchange_in n f first i j others p q order (inl one) (inl other) = absurd (omega (arith, order, one.0, other.0))
exchange_in n f first i j None p q order (inl one) (inr other) = absurd other
exchange_in n f first i j (Some others) p q order (inl one) (inr other) =
    subst (λ sign. IsExchange n f i j sign others.both) (sym (ap (λ sign. differ sign q) one.1 ∙ plain_sign q)) (subst (λ i. IsExchange n f i j q others.both) (sym one.0) other.1)
exchange_in n f first i j None p q order (inr one) other = absurd one
exchange_in n f first i j (Some others) p q order (inr one) (inl other) = absurd (omega (arith, order, one.0, other.0))
exchange_in n f first i j (Some others) p q order (inr one) (inr other) =
    exchange_between n f first i j p q others.both (omega (arith, one.0)) (omega (arith, other.0)) (omega (arith, order)) one.1 other.1

-- inputs of one class
pub sym_same : (n : ℕ) (f : List Bool → Bool) (i j : ℕ) (classes : List Class) (one other : ClassPlace) (d : Class) (both : Bool) (way : Sym) → IsPlace n f classes i one
    → IsPlace n f classes j other
    → i < j
    → one.class ≡ other.class
    → both ≡ both_by (get_or classes one.class d).others
    → way ≡ sym_by both (differ one.inverted other.inverted)
    → IsSymmetry n f i j (Some way)
sym_same n f i j classes one other d both way first second order same has is =
    let class = get_or classes one.class d in
    let lower : IsIn n f class j other.inverted = subst (λ k. IsIn n f (get_or classes k d) j other.inverted) (sym same) (second.belongs d) in
    let exchange : IsExchange n f i j (differ one.inverted other.inverted) (both_by class.others) = exchange_in n f class.first.0 i j class.others one.inverted other.inverted order (first.belongs d) lower in
    subst (λ (way : Sym). IsSymmetry n f i j (Some way)) (sym (is ∙ ap (λ both. sym_by both (differ one.inverted other.inverted)) has)) (exchange_is n f i j (both_by class.others) (differ one.inverted other.inverted) exchange)

-- one pair more is decided, by where its inputs belong
pub pair_at : (n : ℕ) (f : List Bool → Bool) (support : List (ℕ × Unate)) (sorted : ExchangeClasses) (place t lesser greater : ℕ) (pairs new : List (ℕ × ℕ × Sym)) (way : Option Sym) (lent : List Class) (one other : ClassPlace)
    → ListsSupport n f 0 n support
    → Sorts n f support (length support) sorted
    → place < t
    → t < length support
    → lesser ≡ (get_or support place (0, Positive)).0
    → greater ≡ (get_or support t (0, Positive)).0
    → lent ≡ sorted.classes
    → one ≡ get_or sorted.places place one
    → other ≡ get_or sorted.places t other
    → ((n : ℕ) (f : List Bool → Bool) (end i j : ℕ) → AreClasses n f end lent → IsPlace n f lent i one → IsPlace n f lent j other → i < j → IsSymmetry n f i j way)
    → new ≡ pairs ++ pair_of lesser greater way
    → ListsPairs n f (input_at n support place) (input_at n support t) pairs
    → ListsPairs n f (input_at n support place) (input_at n support (t + 1)) new
pair_at n f support sorted place t lesser greater pairs new way lent one other lists sorts less there low high is_lent at_one at_other decides is so_far =
    let first : lesser ≡ input_at n support place = low ∙ read_at n support place (omega (arith, less, there)) in
    let last : greater ≡ input_at n support t = high ∙ read_at n support t there in
    let order : input_at n support place < input_at n support t = lists.ascending place t (n, Positive) less there in
    let upper : IsPlace n f lent (input_at n support place) one = subst (λ classes. IsPlace n f classes (input_at n support place) one) (sym is_lent) (subst (IsPlace n f sorted.classes (input_at n support place)) (sym at_one) (sorts.places place one (omega (arith, less, there, sorts.counted)))) in
    let lower : IsPlace n f lent (input_at n support t) other = subst (λ classes. IsPlace n f classes (input_at n support t) other) (sym is_lent) (subst (IsPlace n f sorted.classes (input_at n support t)) (sym at_other) (sorts.places t other (omega (arith, there, sorts.counted)))) in
    let decided : IsSymmetry n f (input_at n support place) greater way = subst (λ j. IsSymmetry n f (input_at n support place) j way) (sym last)
    (decides n f (input_at n support (length support)) (input_at n support place) (input_at n support t) (subst (AreClasses n f (input_at n support (length support))) (sym is_lent) sorts.classes) upper lower order) in
    pair_step n f support (input_at n support place) t greater pairs new way lists there high (omega (arith, order, last)) (lists.right place (n, Positive) (omega (arith, less, there))).inside so_far decided (is ∙ ap (λ i. pairs ++ pair_of i greater way) first)
