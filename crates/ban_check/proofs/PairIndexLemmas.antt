-- Pairs in order are found by their ports.
use Rattle.std.proofs.Common.{◌≡◌, ◌≢◌, ◌↔◌, ◌⊎◌, ◌&&◌, ℕ, ◌+◌, ◌<◌, eqb, Bool, true, false, List, [], length, Any, Contains, Some, cond, slice_index_or, inl, inr, refl, sym, ap, subst, ◌∙◌, arith}
use Rattle.std.specs.Bool.{Decides, IsTrue}
use Rattle.std.proofs.lemmas.Bool.{cases_lt, false_from_ne_true}
use Rattle.std.proofs.lemmas.Bool.Decides.{Decides-and, Decides-eqb, Decides-like}
use Rattle.circuits.specs.declared.port.Pair.{Pair}
use Rattle.circuits.specs.declared.port.PortKind.{PortKind}
use Rattle.circuits.specs.declared.port.PortKind.TheVariants.{Input, Output}
use Rattle.circuits.specs.contracts.port.PortKindPartialEq.TheImpl.{eq-value as kind_eq}
use Rattle.net_core.specs.declared.graphs.Side.{Side}
use Rattle.net_core.specs.declared.graphs.Side.TheVariants.{First, Second}
use Rattle.net_core.specs.contracts.graphs.SidePartialEq.TheImpl.{eq-value as side_eq}
use Rattle.claim_core.proofs.EqualLemmas.{side_decides}
use Rattle.account_core.specs.Covers.{IsImpossible}
use Rattle.account_core.specs.Ports.{AreOrdered, Clash, StandInOrder}
use Rattle.account_core.specs.Tallies.{port_of, port_on}
use Rattle.ban_check.specs.PairIndices.{IsAnothers, IsIndexOf, IsIndexOfFirst, found_at}
use Rattle.account_core.specs.declared.ports.Port.{Port}
use Rattle.account_core.specs.contracts.ports.PortPartialEq.TheImpl.{eq-value as port_eq}
use Rattle.ban_check.proofs.BoolLemmas.{same_test}

kind_decides : (x y : PortKind) → Decides (kind_eq.it x y) (x ≡ y)
kind_decides Input Input = (λ e. refl, λ e. refl)
kind_decides Input Output = (λ e. cc, λ e. cc)
kind_decides Output Input = (λ e. cc, λ e. cc)
kind_decides Output Output = (λ e. refl, λ e. refl)

port_decides : (x y : Port) → Decides (port_eq.it x y) (x ≡ y)
port_decides x y =
    Decides-like (port_eq.it x y) (λ e i. record { side = e.0 i; kind = e.1.0 i; number = e.1.1 i }) (λ e. (ap (λ (p : Port). p.side) e, (ap (λ (p : Port). p.kind) e, ap (λ (p : Port). p.number) e))) (Decides-and (side_eq.it x.side y.side) (kind_eq.it x.kind y.kind && eqb x.number y.number) (side_decides x.side y.side) (Decides-and (kind_eq.it x.kind y.kind) (eqb x.number y.number) (kind_decides x.kind y.kind) (Decides-eqb x.number y.number)))

-- pairs in order share no port
ports_differ : (one other : Pair) (side : Side) → StandInOrder one other → one.kind ≡ other.kind → port_on side other ≢ port_on side one
ports_differ one other First order kinds same = let less = order.ascending kinds in omega (arith, less, same)
ports_differ one other Second order kinds same = order.apart kinds (sym same)

apart : (one other : Pair) (side here : Side) → StandInOrder one other → port_of here other ≢ port_of side one
apart one other side here order same =
    let sides : here ≡ side = ap (λ (p : Port). p.side) same in
    ports_differ one other side order (sym (ap (λ (p : Port). p.kind) same)) (subst (λ s. port_on s other ≡ port_on side one) sides (ap (λ (p : Port). p.number) same))

-- an empty index
pub index_none : (pairs : List Pair) (entries : List (Port × Pair)) → entries ≡ [] → IsIndexOfFirst pairs 0 entries
index_none pairs entries none = record {
  each = λ port pair is. subst (λ (es : List (Port × Pair)). found_at es port ≡ Some pair → Contains pairs pair × (port_of port.side pair ≡ port)) (sym none) (λ e. cc) is;
  all = λ k d below side. absurd (omega (arith, below));
}

-- one pair more, under one port
module _ (port : Port) (pair : Pair) (before after : List (Port × Pair)) (puts : (other : Port) → found_at after other ≡ cond (port_eq.it port other) (Some pair) (found_at before other)) where
  pub put_here : (other : Port) → port ≡ other → found_at after other ≡ Some pair
  put_here other same = puts other ∙ ap (λ b. cond b (Some pair) (found_at before other)) ((port_decides port other).1 same)

  pub put_elsewhere : (other : Port) → port ≢ other → found_at after other ≡ found_at before other
  put_elsewhere other differ = puts other ∙ ap (λ b. cond b (Some pair) (found_at before other)) (false_from_ne_true (port_eq.it port other) (λ e. differ ((port_decides port other).0 e)))

  -- what stands under a port afterwards
  pub put_told : (Q : Port → Pair → Type 0) → Q port pair → ((other : Port) (held : Pair) → found_at before other ≡ Some held → Q other held) → (other : Port) (held : Pair) → found_at after other ≡ Some held → Q other held
  put_told Q new old other held is = by_test (port_eq.it port other) refl
    where
      by_test : (b : Bool) → port_eq.it port other ≡ b → Q other held
      by_test true same =
          let ports : port ≡ other = (port_decides port other).0 same in
          let values : Some pair ≡ Some held = sym (put_here other ports) ∙ is in
          let held_is : pair ≡ held = cc in
          subst (λ p. Q p held) ports (subst (Q port) held_is new)
      by_test false differ = old other held (sym (puts other ∙ ap (λ b. cond b (Some pair) (found_at before other)) differ) ∙ is)

-- one pair more, under both of its ports
module _ (pairs : List Pair) (n : ℕ) (pair : Pair) (before between after : List (Port × Pair)) (first_put : (other : Port) → found_at between other ≡ cond (port_eq.it (port_of First pair) other) (Some pair) (found_at before other)) (second_put : (other : Port) → found_at after other ≡ cond (port_eq.it (port_of Second pair) other) (Some pair) (found_at between other)) where
  abbrev IsTold : Port → Pair → Type 0
  IsTold port held = Contains pairs held × (port_of port.side held ≡ port)

  pub index_more : n < length pairs → ((d : Pair) → slice_index_or pairs n d ≡ pair) → AreOrdered pairs → IsIndexOfFirst pairs n before → IsIndexOfFirst pairs (n + 1) after
  index_more below at ordered index = record {
    each = put_told (port_of Second pair) pair between after second_put IsTold (there, refl) (put_told (port_of First pair) pair before between first_put IsTold (there, refl) index.each);
    all = all;
  }
    where
      there : Contains pairs pair
      there = (n, below, at pair)

      new : (side : Side) → found_at after (port_of side pair) ≡ Some pair
      new First = put_elsewhere (port_of Second pair) pair between after second_put (port_of First pair) (λ e. let s = ap (λ (p : Port). p.side) e in cc) ∙ put_here (port_of First pair) pair before between first_put (port_of First pair) refl
      new Second = put_here (port_of Second pair) pair between after second_put (port_of Second pair) refl

      old : (k : ℕ) (d : Pair) → k < n → (side : Side) → found_at after (port_of side (slice_index_or pairs k d)) ≡ Some (slice_index_or pairs k d)
      old k d less side =
          let one = slice_index_or pairs k d in
          let order : StandInOrder one pair = subst (StandInOrder one) (at d) (ordered k n d less below) in
          put_elsewhere (port_of Second pair) pair between after second_put (port_of side one) (apart one pair side Second order)
          ∙ (put_elsewhere (port_of First pair) pair before between first_put (port_of side one) (apart one pair side First order) ∙ index.all k d less side)

      all : (k : ℕ) (d : Pair) → k < n + 1 → (side : Side) → found_at after (port_of side (slice_index_or pairs k d)) ≡ Some (slice_index_or pairs k d)
      all k d less side =
          elim (cases_lt k n) [
            | inl early ↦ old k d early side
            | inr late ↦
                let here : slice_index_or pairs k d ≡ pair = ap (λ j. slice_index_or pairs j d) (omega (arith, less, late)) ∙ at d in
                subst (λ p. found_at after (port_of side p) ≡ Some p) (sym here) (new side)
          ]

-- the same, by the ports as they were made
pub index_put : (pairs : List Pair) (n : ℕ) (pair : Pair) (before between after : List (Port × Pair)) (first second : Port) → ((other : Port) → found_at between other ≡ cond (port_eq.it first other) (Some pair) (found_at before other)) → ((other : Port) → found_at after other ≡ cond (port_eq.it second other) (Some pair) (found_at between other)) → first ≡ port_of First pair → second ≡ port_of Second pair → n < length pairs → ((d : Pair) → slice_index_or pairs n d ≡ pair) → AreOrdered pairs → IsIndexOfFirst pairs n before → IsIndexOfFirst pairs (n + 1) after
index_put pairs n pair before between after first second first_put second_put first_is second_is =
    index_more pairs n pair before between after (λ other. subst (λ (port : Port). found_at between other ≡ cond (port_eq.it port other) (Some pair) (found_at before other)) first_is (first_put other)) (λ other. subst (λ (port : Port). found_at after other ≡ cond (port_eq.it port other) (Some pair) (found_at between other)) second_is (second_put other))

-- what the look-ups come to
module _ (pairs : List Pair) (entries : List (Port × Pair)) (index : IsIndexOf pairs entries) where
  held_at : (held : Pair) (k : ℕ) → k < length pairs → slice_index_or pairs k held ≡ held → (side : Side) → found_at entries (port_of side held) ≡ Some held
  held_at held k below is side = subst (λ p. found_at entries (port_of side p) ≡ Some p) is (index.all k held below side)

  pub has_it : (pair : Pair) (has : Bool) → (IsTrue has ↔ (found_at entries (port_of First pair) ≡ Some pair)) → IsTrue has ↔ Any (λ held. held ≡ pair) pairs
  has_it pair has told = same_test has (found_at entries (port_of First pair) ≡ Some pair) (Any (λ held. held ≡ pair) pairs) to from told
    where
      to : found_at entries (port_of First pair) ≡ Some pair → Any (λ held. held ≡ pair) pairs
      to is = let there = (index.each (port_of First pair) pair is).0 in (there.0, pair, there.1, there.2, refl)

      from : Any (λ held. held ≡ pair) pairs → found_at entries (port_of First pair) ≡ Some pair
      from any = subst (λ p. found_at entries (port_of First p) ≡ Some p) any.4 (held_at any.1 any.0 any.2 any.3 First)

  clash_of : (pair : Pair) (side : Side) → IsAnothers entries side pair → IsImpossible pairs pair
  clash_of pair side (held, is, differ) =
      let told = index.each (port_of side pair) held is in
      (told.0.0, held, told.0.1, told.0.2, record { same_kind = ap (λ (p : Port). p.kind) told.1; differ = differ; share = shared side told.1 })
    where
      shared : (side : Side) → port_of side held ≡ port_of side pair → (held.from ≡ pair.from) ⊎ (held.to ≡ pair.to)
      shared First same = inl (ap (λ (p : Port). p.number) same)
      shared Second same = inr (ap (λ (p : Port). p.number) same)

  pub clash_told : (pair : Pair) (taken : Bool) → (IsTrue taken ↔ (IsAnothers entries First pair ⊎ IsAnothers entries Second pair)) → IsTrue taken ↔ IsImpossible pairs pair
  clash_told pair taken told = same_test taken (IsAnothers entries First pair ⊎ IsAnothers entries Second pair) (IsImpossible pairs pair) to from told
    where
      to : IsAnothers entries First pair ⊎ IsAnothers entries Second pair → IsImpossible pairs pair
      to (inl first) = clash_of pair First first
      to (inr second) = clash_of pair Second second

      another : (held : Pair) (k : ℕ) → k < length pairs → slice_index_or pairs k held ≡ held → Clash held pair → (side : Side) → port_on side held ≡ port_on side pair → IsAnothers entries side pair
      another held k below is clash side same =
          let ports : port_of side held ≡ port_of side pair = λ i. record { side = side; kind = clash.same_kind i; number = same i } in
          (held, subst (λ p. found_at entries p ≡ Some held) ports (held_at held k below is side), clash.differ)

      by_share : (held : Pair) (k : ℕ) → k < length pairs → slice_index_or pairs k held ≡ held → Clash held pair → (held.from ≡ pair.from) ⊎ (held.to ≡ pair.to) → IsAnothers entries First pair ⊎ IsAnothers entries Second pair
      by_share held k below is clash (inl from) = inl (another held k below is clash First from)
      by_share held k below is clash (inr to) = inr (another held k below is clash Second to)

      from : IsImpossible pairs pair → IsAnothers entries First pair ⊎ IsAnothers entries Second pair
      from any = by_share any.1 any.0 any.2 any.3 any.4 any.4.share
