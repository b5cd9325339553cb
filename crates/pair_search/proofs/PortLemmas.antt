-- The ways that a port has left.
use Rattle.std.proofs.Common.{◌≡◌, ◌⊎◌, ℕ, zero, suc, ◌+◌, ◌*◌, ◌<◌, ◌≤◌, Bool, true, false, List, [], ◌∷◌, length, get_or, Contains, Some, refl, sym, ap, subst, ◌∙◌, inl, inr, arith}
use Rattle.std.proofs.lemmas.Bool.{cases_lt, cases_order, false≢true}
use Rattle.std.proofs.lemmas.List.{get_or_default}
use Rattle.std.proofs.lemmas.List.Elements.{All-contains}
use Rattle.circuits.specs.declared.port.Pair.{Pair}
use Rattle.circuits.specs.declared.port.PortKind.{PortKind}
use Rattle.net_core.specs.declared.graphs.Side.{Side}
use Rattle.account_core.specs.Tallies.{port_of, port_on}
use Rattle.ban_book.specs.Ways.{nth_way}
use Rattle.pair_domains.specs.declared.entry.Entry.{Entry}
use Rattle.pair_domains.specs.declared.entry.Fate.{Fate}
use Rattle.pair_domains.specs.declared.entry.Fate.TheVariants.{Assigned, Deleted}
use Rattle.pair_domains.specs.Trails.{IsDeleted, IsFreePort, IsOpen, assigned_in, is_at, is_assigned, ports_of}
use Rattle.pair_domains.proofs.EntryLemmas.{at_of}
use Rattle.account_core.specs.declared.ports.Port.{Port}
use Rattle.pair_search.specs.Named.{EachWay, IsLeftOutOr}
use Rattle.pair_search.proofs.PivotLemmas.{assigned_with}
use Rattle.circuits.proofs.Lists.{contains_cons}

-- one more way is deleted
pub gone_more : (es : List Entry) (F : ℕ → Pair) (from at : ℕ) → ((k : ℕ) → from ≤ k → k < at → IsDeleted es (F k)) → IsDeleted es (F at) → (k : ℕ) → from ≤ k → k < at + 1 → IsDeleted es (F k)
gone_more es F from at are here k past below = by_place (cases_lt k at)
  where
    by_place : (k < at) ⊎ (at ≤ k) → IsDeleted es (F k)
    by_place (inl less) = are k past less
    by_place (inr more) = let e : at ≡ k = omega (arith, below, more) in subst (λ n. IsDeleted es (F n)) e here

abbrev is_last : List Entry → Pair → Pair → Type 0
is_last es way other = IsLeftOutOr (Some way) other (IsDeleted es other)

-- all ways of a port but one are deleted
pub last_way : (n m : ℕ) (es : List Entry) (port : Port) (number : ℕ) (way : Pair) → way ≡ nth_way port.side port.kind port.number number → way.kind ≡ port.kind → port_on port.side way ≡ port.number → ((k : ℕ) → 0 ≤ k → k < number → IsDeleted es (nth_way port.side port.kind port.number k)) → ((k : ℕ) → number + 1 ≤ k → k < 2 * ports_of n m port.kind → IsDeleted es (nth_way port.side port.kind port.number k)) → EachWay (port_of port.side way) (ports_of n m way.kind) (λ other. IsLeftOutOr (Some way) other (IsDeleted es other))
last_way n m es port number way way_is kind_is port_is before after k below =
    subst (λ (p : ℕ). is_last es way (nth_way port.side way.kind p k)) (sym port_is) (subst (λ (kind : PortKind). is_last es way (nth_way port.side kind port.number k)) (sym kind_is) (by_order (cases_order k number)))
  where
    inside : k < 2 * ports_of n m port.kind
    inside = subst (λ (kind : PortKind). k < 2 * ports_of n m kind) kind_is below

    by_order : (k ≡ number) ⊎ ((k < number) ⊎ (number < k)) → IsLeftOutOr (Some way) (nth_way port.side port.kind port.number k) (IsDeleted es (nth_way port.side port.kind port.number k))
    by_order (inl same) = inl (ap (λ (w : Pair). Some w) (way_is ∙ ap (nth_way port.side port.kind port.number) (sym same)))
    by_order (inr (inl less)) = inr (before k (omega arith) less)
    by_order (inr (inr more)) = inr (after k (omega (arith, more)) inside)

wider : (x : Entry) (es : List Entry) (p : Pair) (b : Bool) → Contains (assigned_in es) p → Contains (assigned_with x es b) p
wider x es p true there = contains_cons (assigned_in es) x.pair p there
wider x es p false there = there

first_of : (x : Entry) (es : List Entry) (b : Bool) → b ≡ true → Contains (assigned_with x es b) x.pair
first_of x es true assigned = (0, omega arith, refl)
first_of x es false assigned = absurd (false≢true assigned)

-- the pair of an entry that assigns it is assigned
pub assigned_by : (es : List Entry) (k : ℕ) (d : Entry) → k < length es → is_assigned (get_or es k d).fate ≡ true → Contains (assigned_in es) (get_or es k d).pair
assigned_by [] k d below assigned = absurd (omega (arith, below))
assigned_by (x ∷ es) zero d below assigned = first_of x es (is_assigned x.fate) assigned
assigned_by (x ∷ es) (suc k) d below assigned = wider x es (get_or es k d).pair (is_assigned x.fate) (assigned_by es k d (omega (arith, below)) assigned)

-- a pair of a port of which none is assigned is open, if it isn't deleted
pub open_of_free : (es : List Entry) (side : Side) (kind : PortKind) (port : ℕ) (way : Pair) → IsFreePort es side kind port → way.kind ≡ kind → port_on side way ≡ port → (IsDeleted es way → ⊥) → IsOpen es way
open_of_free es side kind port way free kind_is port_is left k d below same = by_fate (get_or es k d).fate refl
  where
    assigned : is_assigned (get_or es k d).fate ≡ true → ⊥
    assigned is = false≢true (sym (All-contains (λ (p : Pair). is_at side kind port p ≡ false) (assigned_in es) way free (subst (Contains (assigned_in es)) same (assigned_by es k d below is))) ∙ at_of side kind port way kind_is port_is)

    by_fate : (fate : Fate) → (get_or es k d).fate ≡ fate → ⊥
    by_fate (Assigned cause) is = assigned (ap is_assigned is)
    by_fate (Deleted why) is =
        left (why, (k, below, get_or_default es k (record { pair = way; fate = Deleted why }) d below ∙ (ap (λ (p : Pair). record { pair = p; fate = (get_or es k d).fate }) same ∙ ap (λ (f : Fate). record { pair = way; fate = f }) is)))
