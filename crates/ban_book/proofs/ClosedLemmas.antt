-- Ways that are closed.
use Rattle.std.proofs.Common.{◌≡◌, ℕ, zero, suc, ◌+◌, ◌*◌, ◌/◌, ◌%◌, ◌<◌, eqb, Bool, true, false, List, [], ◌∷◌, length, get_or, All, Option, None, Some, refl, sym, ap, subst, ◌∙◌, arith}
use Rattle.std.specs.Prelude.{Contains}
use Rattle.std.specs.List.{flat_map, range_with_len}
use Rattle.std.proofs.lemmas.List.{get_or-map, append-nil}
use Rattle.std.proofs.lemmas.List.Elements.{All-cons, All-nil}
use Rattle.std.proofs.lemmas.Option.{same_Some}
use Rattle.circuits.specs.declared.port.Pair.{Pair}
use Rattle.circuits.specs.declared.port.PortKind.{PortKind}
use Rattle.net_core.specs.declared.graphs.Side.{Side}
use Rattle.net_core.specs.declared.graphs.Side.TheVariants.{First, Second}
use Rattle.account_core.specs.declared.step.Ban.{Ban}
use Rattle.account_core.specs.Given.{ban_at, given_of}
use Rattle.account_core.specs.Covers.{way, ways, IsImpossible}
use Rattle.account_core.specs.Tallies.{other_side, port_on}
use Rattle.ban_book.specs.Ways.{block_of, first_port, nth_way, ports_tried, second_port, ways_in, AreClosed, IsClosed}

-- a way that clashes with an assigned pair is closed
pub closed_by_clash : (bans : List Ban) (pairs : List Pair) (pair : Pair) → IsImpossible pairs pair → IsClosed bans pairs pair None
closed_by_clash bans pairs pair imp = record { refers = imp; kept = λ ban is. cc }

-- the pairs of a ban that is kept
pub ban_pairs : (bans : List Ban) (ban : ℕ) (d : Ban) → ban < length bans → ban_at (given_of [] bans) ban ≡ (get_or bans ban d).pairs
ban_pairs bans ban d below = get_or-map (λ (b : Ban). b.pairs) bans ban d [] below

-- a way that with pairs leads into a ban is closed by it
pub closed_by_ban : (bans : List Ban) (pairs : List Pair) (pair : Pair) (ban : ℕ) (d : Ban) → ban < length bans → (IsImpossible pairs pair → ⊥) → All (Contains (pair ∷ pairs)) (get_or bans ban d).pairs → IsClosed bans pairs pair (Some ban)
closed_by_ban bans pairs pair ban d below open' among = record {
  refers = (open', subst (All (Contains (pair ∷ pairs))) (sym (ban_pairs bans ban d below)) among);
  kept = λ other is. by_same other is;
}
  where
    by_same : (other : ℕ) → Some ban ≡ Some other → other < length bans
    by_same other is = subst (λ n. n < length bans) (same_Some ban other is) below

-- both ways with a port
abbrev both : (ℕ → Bool → Pair) → ℕ → List Pair
both ends other = ends other false ∷ ends other true ∷ []

-- what holds of both ways with each port holds of all
all_both : (ends : ℕ → Bool → Pair) (P : Pair → Type 0) (s c : ℕ) → ((t : ℕ) → t < c → P (ends (s + t) false) × P (ends (s + t) true)) → All P (flat_map (both ends) (range_with_len s c))
all_both ends P s zero each = All-nil P
all_both ends P s (suc c) each =
    let start : s + 0 ≡ s = omega arith in
    let first = each 0 (omega arith) in
    let rest = flat_map (both ends) (range_with_len (s + 1) c) in
    All-cons P (ends s false) (ends s true ∷ rest) (subst (λ n. P (ends n false)) start first.0) (All-cons P (ends s true) rest (subst (λ n. P (ends n true)) start first.1) (all_both ends P (s + 1) c later))
  where
    later : (t : ℕ) → t < c → P (ends (s + 1 + t) false) × P (ends (s + 1 + t) true)
    later t below =
        let next = each (suc t) (omega (arith, below)) in
        let n : s + suc t ≡ s + 1 + t = omega arith in
        (subst (λ m. P (ends m false)) n next.0, subst (λ m. P (ends m true)) n next.1)

-- the way with a port of the other circuit
abbrev way_with : Side → PortKind → ℕ → ℕ → Bool → Pair
way_with side kind port other flip = way kind (first_port side port other) (second_port side port other) flip

plain_way : (side : Side) (kind : PortKind) (port t : ℕ) → nth_way side kind port (2 * t) ≡ way_with side kind port t false
plain_way side kind port t =
    let half : 2 * t / 2 ≡ t = omega arith in
    let odd : 2 * t % 2 ≡ 0 = omega arith in
    ap (λ n. way_with side kind port n (eqb (2 * t % 2) 1)) half ∙ ap (λ n. way_with side kind port t (eqb n 1)) odd

negated_way : (side : Side) (kind : PortKind) (port t : ℕ) → nth_way side kind port (2 * t + 1) ≡ way_with side kind port t true
negated_way side kind port t =
    let half : (2 * t + 1) / 2 ≡ t = omega arith in
    let odd : (2 * t + 1) % 2 ≡ 1 = omega arith in
    ap (λ n. way_with side kind port n (eqb ((2 * t + 1) % 2) 1)) half ∙ ap (λ n. way_with side kind port t (eqb n 1)) odd

-- the ways of a port of either circuit, in the order of a cover
ways_are : (side : Side) (kind : PortKind) (port count : ℕ) → ways kind (ports_tried side port count) (ports_tried (other_side side) port count) ≡ flat_map (both (way_with side kind port)) (range_with_len 0 count)
ways_are First kind port count = append-nil (flat_map (both (way_with First kind port)) (range_with_len 0 count))
ways_are Second kind port count = refl

-- what holds of each way of a port by its number holds of all ways of its block
pub all_of_port : (side : Side) (kind : PortKind) (port count : ℕ) (P : Pair → Type 0) → ((number : ℕ) → number < 2 * count → P (nth_way side kind port number)) → All P (ways_in (block_of side kind port count))
all_of_port side kind port count P each =
    subst (All P) (sym (ways_are side kind port count)) (all_both (way_with side kind port) P 0 count (λ t below. (subst P (plain t) (each (2 * t) (omega (arith, below))), subst P (negated t) (each (2 * t + 1) (omega (arith, below))))))
  where
    plain : (t : ℕ) → nth_way side kind port (2 * t) ≡ way_with side kind port (0 + t) false
    plain t = let e : t ≡ 0 + t = omega arith in plain_way side kind port t ∙ ap (λ n. way_with side kind port n false) e

    negated : (t : ℕ) → nth_way side kind port (2 * t + 1) ≡ way_with side kind port (0 + t) true
    negated t = let e : t ≡ 0 + t = omega arith in negated_way side kind port t ∙ ap (λ n. way_with side kind port n true) e

-- the port of a way
pub port_of_way : (side : Side) (kind : PortKind) (port number : ℕ) → port_on side (nth_way side kind port number) ≡ port
port_of_way First kind port number = refl
port_of_way Second kind port number = refl

-- a ban that closes one of some ways is kept
pub kept_at : (bans : List Ban) (pairs ways : List Pair) (refs : List (Option ℕ)) (k ban : ℕ) → AreClosed bans pairs ways refs → k < length refs → get_or refs k (Some ban) ≡ Some ban → ban < length bans
kept_at bans pairs [] [] k ban are below is = absurd (omega (arith, below))
kept_at bans pairs [] (ref ∷ refs) k ban are below is = absurd are
kept_at bans pairs (way ∷ ways) [] k ban are below is = absurd (omega (arith, below))
kept_at bans pairs (way ∷ ways) (ref ∷ refs) zero ban are below is = are.0.kept ban is
kept_at bans pairs (way ∷ ways) (ref ∷ refs) (suc k) ban are below is = kept_at bans pairs ways refs k ban are.1 (omega (arith, below)) is
