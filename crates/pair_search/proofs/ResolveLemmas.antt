-- Conflicts that are resolved on, one assigned pair after the other.
use Rattle.std.proofs.Common.{◌≡◌, ◌≢◌, ◌⊎◌, ℕ, ◌+◌, ◌-◌, ◌<◌, ◌≤◌, List, [], ◌∷◌, length, get_or, take, All, Contains, refl, sym, subst, ◌∙◌, inl, inr, arith}
use Rattle.std.proofs.lemmas.Bool.{cases_lt, cases_eq}
use Rattle.std.proofs.lemmas.List.{get_or_default, get_or-take, length-take-le, take_more}
use Rattle.std.proofs.lemmas.List.Elements.{All-contains, Contains-push_cases}
use Rattle.circuits.specs.declared.port.Pair.{Pair}
use Rattle.net_core.specs.Sides.{Graphs}
use Rattle.account_core.specs.declared.step.Ban.{Ban}
use Rattle.pair_domains.specs.declared.entry.Entry.{Entry}
use Rattle.pair_domains.specs.Trails.{assigned_in}
use Rattle.pair_search.specs.declared.conflict_set.ConflictSet.{ConflictSet}
use Rattle.pair_search.specs.ConflictSets.{IsConflictSet, IsLastOf}
use Rattle.pair_search.specs.Grounded.{LearnsMore}
use Rattle.pair_search.proofs.GroundedLemmas.{learns_twice}

-- none of the assigned pairs from a place on, of the first ones, is one of some
pub record ArePassed (assigned pairs : List Pair) (left limit : ℕ) : Type 0 where
  pub order : left ≤ limit
  pub none : (k : ℕ) (d : Pair) → left ≤ k → k < limit → Contains pairs (get_or assigned k d) → ⊥

pub passed_more : (assigned pairs : List Pair) (left limit : ℕ) → 0 < left → ArePassed assigned pairs left limit → ((d : Pair) → Contains pairs (get_or assigned (left - 1) d) → ⊥) → ArePassed assigned pairs (left - 1) limit
passed_more assigned pairs left limit some are here = record { order = omega (arith, are.order); none = λ k d from below. by_place k d from below (cases_eq k (left - 1)) }
  where
    by_place : (k : ℕ) (d : Pair) → left - 1 ≤ k → k < limit → (k ≡ left - 1) ⊎ (k ≢ left - 1) → Contains pairs (get_or assigned k d) → ⊥
    by_place k d from below (inl same) there = here d (subst (λ n. Contains pairs (get_or assigned n d)) same there)
    by_place k d from below (inr other) there = are.none k d (omega (arith, from, other, some)) below there

pub last_at : (assigned pairs : List Pair) (left limit : ℕ) → 0 < left → ArePassed assigned pairs left limit → ((d : Pair) → Contains pairs (get_or assigned (left - 1) d)) → IsLastOf assigned limit pairs (left - 1)
last_at assigned pairs left limit some are here = record {
  within = omega (arith, some, are.order);
  is = here;
  later = λ k d from below. are.none k d (omega (arith, from)) below;
}

pub passed_all : (assigned pairs : List Pair) (left limit : ℕ) → left ≤ 0 → limit ≤ length assigned → ArePassed assigned pairs left limit → All (λ pair. Contains pairs pair → ⊥) (take limit assigned)
passed_all assigned pairs left limit all few are k d below there =
    let inside : k < limit = omega (arith, below, length-take-le limit assigned few) in
    are.none k d (omega (arith, all)) inside (subst (Contains pairs) (get_or-take limit assigned k d inside) there)

-- what a conflict is while it is resolved
pub record IsResolving (graphs : Graphs) (entries : List Entry) (before now : List Ban) (conflict : ConflictSet) (limit : ℕ) : Type 0 where
  pub within : limit ≤ length (assigned_in entries)
  pub conflict_is : IsConflictSet now (take limit (assigned_in entries)) conflict
  pub more : LearnsMore graphs entries before now

-- what is among the first assigned pairs, and none of the later ones, is among those up to the last
pub up_to_last : (assigned pairs : List Pair) (limit last : ℕ) (pair : Pair) → limit ≤ length assigned → IsLastOf assigned limit pairs last → Contains pairs pair → Contains (take limit assigned) pair → Contains (take (last + 1) assigned) pair
up_to_last assigned pairs limit last pair few is here there =
    let k = there.0 in
    let below : k < limit = omega (arith, there.1, length-take-le limit assigned few) in
    let at : get_or assigned k pair ≡ pair = sym (get_or-take limit assigned k pair below) ∙ there.2 in
    elim (cases_lt last k) [
      | inl later ↦ absurd (is.later k pair later below (subst (Contains pairs) (sym at) here))
      | inr first ↦
          let inside : k < last + 1 = omega (arith, first) in
          (k, omega (arith, inside, length-take-le (last + 1) assigned (omega (arith, is.within, few))), get_or-take (last + 1) assigned k pair inside ∙ at)
    ]

pub resolving_at : (graphs : Graphs) (entries : List Entry) (before now : List Ban) (conflict : ConflictSet) (limit last : ℕ) → IsResolving graphs entries before now conflict limit → IsLastOf (assigned_in entries) limit conflict.pairs.items last → IsConflictSet now (take (last + 1) (assigned_in entries)) conflict
resolving_at graphs entries before now conflict limit last is last_is = record {
  part = record {
    among = λ k d below. up_to_last (assigned_in entries) conflict.pairs.items limit last (get_or conflict.pairs.items k d) is.within last_is (k, below, get_or_default conflict.pairs.items k (get_or conflict.pairs.items k d) d below) (is.conflict_is.part.among k d below);
    ordered = is.conflict_is.part.ordered;
  };
  covers = is.conflict_is.covers;
}

pub resolving_on : (graphs : Graphs) (entries : List Entry) (before now next : List Ban) (conflict other : ConflictSet) (limit last : ℕ) → IsResolving graphs entries before now conflict limit → last < limit → LearnsMore graphs entries now next → IsConflictSet next (take last (assigned_in entries)) other → IsResolving graphs entries before next other last
resolving_on graphs entries before now next conflict other limit last is less more there = record {
  within = omega (arith, less, is.within);
  conflict_is = there;
  more = learns_twice graphs entries before now next is.more more;
}

-- what is left of a conflict without its latest pair
pub part_without : (assigned : List Pair) (place : ℕ) (way : Pair) (pairs fewer : List Pair) → place < length assigned → ((d : Pair) → get_or assigned place d ≡ way) → All (Contains (take (place + 1) assigned)) pairs → All (Contains pairs) fewer → All (λ other. other ≢ way) fewer → All (Contains (take place assigned)) fewer
part_without assigned place way pairs fewer below is among stays gone k d inside =
    by_case (Contains-push_cases (take place assigned) (get_or assigned place way) (get_or fewer k d) (subst (λ (l : List Pair). Contains l (get_or fewer k d)) (take_more assigned place way below) (All-contains (Contains (take (place + 1) assigned)) pairs (get_or fewer k d) among (stays k d inside))))
  where
    by_case : Contains (take place assigned) (get_or fewer k d) ⊎ (get_or assigned place way ≡ get_or fewer k d) → Contains (take place assigned) (get_or fewer k d)
    by_case (inl early) = early
    by_case (inr same) = absurd (gone k d inside (sym same ∙ is way))

-- a conflict of none of the assigned pairs
pub none_left : (pairs assigned : List Pair) → All (Contains assigned) pairs → All (λ pair. Contains pairs pair → ⊥) assigned → pairs ≡ []
none_left [] assigned among none = refl
none_left (p ∷ pairs) assigned among none = absurd (All-contains (λ (x : Pair). Contains (p ∷ pairs) x → ⊥) assigned p none (among 0 p (omega arith)) (0, omega arith, refl))

-- the last of the assigned pairs, as they are lent
pub last_lent : (assigned lent pairs pairs_lent : List Pair) (limit last : ℕ) → lent ≡ assigned → pairs_lent ≡ pairs → IsLastOf lent limit pairs_lent last → IsLastOf assigned limit pairs last
last_lent assigned lent pairs pairs_lent limit last one two is =
    subst (λ (l : List Pair). IsLastOf l limit pairs last) one (subst (λ (ps : List Pair). IsLastOf lent limit ps last) two is)
