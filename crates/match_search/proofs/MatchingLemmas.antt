-- The matching that has the pairs of all ports.
use Rattle.std.proofs.Common.{◌≡◌, ◌≢◌, ℕ, ◌<◌, Bool, false, List, length, get_or, All, AllPairs, sym, ap, subst, ◌∙◌, inl, inr, arith}
use Rattle.std.specs.Prelude.{Contains}
use Rattle.std.proofs.lemmas.List.{get_or_default}
use Rattle.std.proofs.lemmas.List.Elements.{All-contains}
use Rattle.circuits.specs.declared.port.Pair.{Pair}
use Rattle.circuits.specs.declared.port.PortKind.{PortKind}
use Rattle.circuits.specs.Bijections.{IsSignedBijection}
use Rattle.net_core.specs.Sides.{Graphs}
use Rattle.net_core.specs.declared.graphs.Side.TheVariants.{First}
use Rattle.account_core.specs.Ports.{ports_in, IsKnown}
use Rattle.account_core.specs.Assigned.{AreAssignable, IsEntryOf, IsOf, IsWhole}
use Rattle.ban_book.proofs.BlockListLemmas.{contained_of_any}
use Rattle.ban_book.proofs.OrderLemmas.{assigned_apart}

-- The pair of a port, with the port's entry.
pub record IsPaired (assigned : List Pair) (kind : PortKind) (entries : List (ℕ × Bool)) (port : ℕ) (pair : Pair) : Type 0 where
  pub there : Contains assigned pair
  pub is : IsOf First kind port pair
  pub entry : get_or entries port (0, false) ≡ (pair.to, pair.flip)

pub paired : (graphs : Graphs) (assigned : List Pair) (kind : PortKind) (entries : List (ℕ × Bool)) → IsWhole graphs assigned → All (IsEntryOf kind entries) assigned → (port : ℕ) → port < ports_in graphs.first kind → (pair : Pair) × IsPaired assigned kind entries port pair
paired graphs assigned kind entries whole are port below =
    let any = whole kind port below in
    let there = contained_of_any (IsOf First kind port) assigned any in (
      any.1,
      record {
        there = there;
        is = any.4;
        entry = ap (λ k. get_or entries k (0, false)) (sym any.4.port_is) ∙ All-contains (IsEntryOf kind entries) assigned any.1 are there any.4.kind_is;
      },
    )

pub bijection : (graphs : Graphs) (assigned : List Pair) (kind : PortKind) (entries : List (ℕ × Bool)) (n : ℕ) → AreAssignable graphs assigned → IsWhole graphs assigned → ports_in graphs.first kind ≡ n → ports_in graphs.second kind ≡ n → length entries ≡ n → All (IsEntryOf kind entries) assigned → IsSignedBijection n entries
bijection graphs assigned kind entries n assigned_are whole first second size are = record {
  entries = size;
  in_range = in_range;
  distinct = distinct;
}
  where
    in_range : All (λ (entry : ℕ × Bool). entry.0 < n) entries
    in_range k d below =
        let found = paired graphs assigned kind entries whole are k (omega (arith, below, size, first)) in
        let e : get_or entries k d ≡ (found.0.to, found.0.flip) = get_or_default entries k d (0, false) below ∙ found.1.entry in
        let known = All-contains (IsKnown graphs) assigned found.0 assigned_are.known found.1.there in
        let to : found.0.to < ports_in graphs.second kind = subst (λ k'. found.0.to < ports_in graphs.second k') found.1.is.kind_is known.to in
        omega (arith, ap (λ (x : ℕ × Bool). x.0) e, to, second)

    distinct : AllPairs (λ (one other : ℕ × Bool). one.0 ≢ other.0) entries
    distinct i j d less below same =
        let one = paired graphs assigned kind entries whole are i (omega (arith, less, below, size, first)) in
        let other = paired graphs assigned kind entries whole are j (omega (arith, below, size, first)) in
        let to : one.0.to ≡ other.0.to = sym (ap (λ (x : ℕ × Bool). x.0) (get_or_default entries i d (0, false) (omega (arith, less, below)) ∙ one.1.entry)) ∙ (same ∙ ap (λ (x : ℕ × Bool). x.0) (get_or_default entries j d (0, false) below ∙ other.1.entry)) in
        elim (assigned_apart assigned one.0 other.0 assigned_are.apart one.1.there other.1.there) [
          | inl e ↦ absurd (omega (arith, less, one.1.is.port_is, other.1.is.port_is, ap (λ (p : Pair). p.from) e))
          | inr apart ↦ apart.to (one.1.is.kind_is ∙ sym other.1.is.kind_is) to
        ]
