-- How pairs stand in order.
use Rattle.std.proofs.Common.{◌≡◌, ◌≢◌, ◌⊎◌, ℕ, ◌+◌, ◌<◌, ◌≤◌, List, length, take, get_or, All, AllPairs, refl, sym, subst, ◌∙◌, inl, inr, arith}
use Rattle.std.specs.Prelude.{Contains}
use Rattle.std.specs.List.{insert}
use Rattle.std.proofs.lemmas.Bool.{cases_order}
use Rattle.std.proofs.lemmas.List.{get_or_default, get_or-take, length-take}
use Rattle.std.proofs.lemmas.List.Elements.{All-more}
use Rattle.circuits.specs.declared.port.Pair.{Pair}
use Rattle.circuits.specs.declared.port.PortKind.{PortKind}
use Rattle.circuits.specs.declared.port.PortKind.TheVariants.{Input, Output}
use Rattle.account_core.specs.Ports.{StandInOrder, AreOrdered}
use Rattle.account_core.specs.Assigned.{AreApart, ArePortsInTurn, StandsBefore}
use Rattle.ban_book.proofs.BlockListLemmas.{all_pairs_insert, apart_or_same}

turn_inputs : (k l : PortKind) (a b : ℕ) → ArePortsInTurn k l a b → k ≡ Output → l ≡ Output
turn_inputs Input Input a b t e = cc
turn_inputs Input Output a b t e = refl
turn_inputs Output Input a b t e = absurd t
turn_inputs Output Output a b t e = refl

turn_ascends : (k l : PortKind) (a b : ℕ) → ArePortsInTurn k l a b → k ≡ l → a < b
turn_ascends Input Input a b t e = t
turn_ascends Input Output a b t e = cc
turn_ascends Output Input a b t e = absurd t
turn_ascends Output Output a b t e = t

turned : (k l : PortKind) (a b : ℕ) → (ArePortsInTurn k l a b → ⊥) → (k ≡ l → a ≢ b) → ArePortsInTurn l k b a
turned Input Input a b no' apart =
    elim (cases_order a b) [ inl same ↦ absurd (apart refl same) | inr (inl less) ↦ absurd (no' less) | inr (inr more) ↦ more ]
turned Input Output a b no' apart = absurd (no' tt)
turned Output Input a b no' apart = tt
turned Output Output a b no' apart =
    elim (cases_order a b) [ inl same ↦ absurd (apart refl same) | inr (inl less) ↦ absurd (no' less) | inr (inr more) ↦ more ]

turn_of : (k l : PortKind) (a b : ℕ) → (k ≡ Output → l ≡ Output) → (k ≡ l → a < b) → ArePortsInTurn k l a b
turn_of Input Input a b first ascends = ascends refl
turn_of Input Output a b first ascends = tt
turn_of Output Input a b first ascends = let e : Input ≡ Output = first refl in cc
turn_of Output Output a b first ascends = ascends refl

in_turn : (k l m : PortKind) (a b c : ℕ) → ArePortsInTurn k l a b → ArePortsInTurn l m b c → ArePortsInTurn k m a c
in_turn Input Input Input a b c s t = omega (arith, s, t)
in_turn Input Input Output a b c s t = tt
in_turn Input Output Input a b c s t = absurd t
in_turn Input Output Output a b c s t = tt
in_turn Output Input m a b c s t = absurd s
in_turn Output Output Input a b c s t = absurd t
in_turn Output Output Output a b c s t = omega (arith, s, t)

no_turn : (k : PortKind) (a : ℕ) → ArePortsInTurn k k a a → ⊥
no_turn Input a t = omega (arith, t)
no_turn Output a t = omega (arith, t)

pub before_itself : (one other : Pair) → one ≡ other → StandsBefore one other → ⊥
before_itself one other same before = no_turn other.kind other.from (subst (λ p. StandsBefore p other) same before)

-- pairs that are apart stand in order where their ports do
pub stand : (one other : Pair) → StandsBefore one other → (one ≡ other) ⊎ AreApart one other → StandInOrder one other
stand one other before (inl same) = absurd (before_itself one other same before)
stand one other before (inr apart) = record {
  inputs_first = turn_inputs one.kind other.kind one.from other.from before;
  ascending = turn_ascends one.kind other.kind one.from other.from before;
  apart = apart.to;
}

pub before_of : (one other : Pair) → StandInOrder one other → StandsBefore one other
before_of one other stands = turn_of one.kind other.kind one.from other.from stands.inputs_first stands.ascending

pub turned_apart : (one other : Pair) → AreApart one other → AreApart other one
turned_apart one other apart = record { from = λ kind same. apart.from (sym kind) (sym same); to = λ kind same. apart.to (sym kind) (sym same) }

pub same_or_apart_turned : (one other : Pair) → (one ≡ other) ⊎ AreApart one other → (other ≡ one) ⊎ AreApart other one
same_or_apart_turned one other (inl same) = inl (sym same)
same_or_apart_turned one other (inr apart) = inr (turned_apart one other apart)

-- assigned pairs are one, or apart
pub assigned_apart : (assigned : List Pair) (one other : Pair) → AllPairs AreApart assigned → Contains assigned one → Contains assigned other → (one ≡ other) ⊎ AreApart one other
assigned_apart assigned one other apart first second =
    elim (apart_or_same AreApart assigned one other apart first second) [
      | inl same ↦ inl same
      | inr (inl is) ↦ inr is
      | inr (inr is) ↦ inr (turned_apart other one is)
    ]

-- one more pair, at its place
pub ordered_insert : (pairs : List Pair) (pair : Pair) (place : ℕ) → AreOrdered pairs → All (λ other. (other ≡ pair) ⊎ AreApart other pair) pairs → place ≤ length pairs → All (λ other. StandsBefore other pair) (take place pairs) → ((d : Pair) → place < length pairs → StandsBefore (get_or pairs place d) pair → ⊥) → (place < length pairs → get_or pairs place pair ≢ pair) → AreOrdered (insert pairs place pair)
ordered_insert pairs pair place ordered apart within before after other_there =
    all_pairs_insert StandInOrder pairs place pair within ordered first last
  where
    first : (k : ℕ) (d : Pair) → k < place → StandInOrder (get_or pairs k d) pair
    first k d less =
        let below : k < length (take place pairs) = omega (arith, length-take place pairs, within, less) in
        let is : StandsBefore (get_or pairs k d) pair = subst (λ p. StandsBefore p pair) (get_or-take place pairs k d less) (before k d below) in
        stand (get_or pairs k d) pair is (apart k d (omega (arith, less, within)))

    here : place < length pairs → StandsBefore pair (get_or pairs place pair)
    here there =
        turned (get_or pairs place pair).kind pair.kind (get_or pairs place pair).from pair.from (after pair there) (by_apart (apart place pair there))
      where
        by_apart : (get_or pairs place pair ≡ pair) ⊎ AreApart (get_or pairs place pair) pair → (get_or pairs place pair).kind ≡ pair.kind → (get_or pairs place pair).from ≢ pair.from
        by_apart (inl same) = absurd (other_there there same)
        by_apart (inr is) = is.from

    by_place : (k : ℕ) → place ≤ k → k < length pairs → place < length pairs → (place ≡ k) ⊎ ((place < k) ⊎ (k < place)) → StandsBefore pair (get_or pairs k pair)
    by_place k past below there (inl same) = subst (λ n. StandsBefore pair (get_or pairs n pair)) same (here there)
    by_place k past below there (inr (inl less)) =
        let next = before_of (get_or pairs place pair) (get_or pairs k pair) (ordered place k pair less below) in
        in_turn pair.kind (get_or pairs place pair).kind (get_or pairs k pair).kind pair.from (get_or pairs place pair).from (get_or pairs k pair).from (here there) next
    by_place k past below there (inr (inr more)) = absurd (omega (arith, past, more))

    last : (k : ℕ) (d : Pair) → place ≤ k → k < length pairs → StandInOrder pair (get_or pairs k d)
    last k d past below =
        let there : place < length pairs = omega (arith, past, below) in
        let e : get_or pairs k d ≡ get_or pairs k pair = get_or_default pairs k d pair below in
        subst (StandInOrder pair) (sym e) (stand pair (get_or pairs k pair) (by_place k past below there (cases_order place k)) (same_or_apart_turned (get_or pairs k pair) pair (apart k pair below)))

-- what held of the pairs before one holds of them and of it, where it stays for pairs that are apart from it
pub assigned_more : (assigned : List Pair) (i : ℕ) (d : Pair) (P Q : Pair → Type 0) → i < length assigned → AllPairs AreApart assigned → ((x : Pair) → AreApart x (get_or assigned i d) → P x → Q x) → All P (take i assigned) → Q (get_or assigned i d) → All Q (take (i + 1) assigned)
assigned_more assigned i d P Q below apart stays before here =
    All-more Q assigned i d below (λ k e less.
    let first : k < i = omega (arith, less, length-take i assigned, below) in
    let same : get_or (take i assigned) k e ≡ get_or assigned k d = get_or-take i assigned k e first ∙ get_or_default assigned k e d (omega arith) in
    stays (get_or (take i assigned) k e) (subst (λ p. AreApart p (get_or assigned i d)) (sym same) (apart k i d first below)) (before k e less)) here
