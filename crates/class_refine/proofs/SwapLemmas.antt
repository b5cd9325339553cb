-- Bans by claims of two inputs.
use Rattle.std.proofs.Common.{◌≡◌, ◌≢◌, ◌⊎◌, ℕ, ◌<◌, Bool, true, false, cond, List, [], ◌∷◌, All, AllPairs, Option, None, Some, nat_lt, refl, sym, ap, subst, ◌∙◌, inl, inr, arith}
use Rattle.std.specs.Prelude.{Contains, option_and_then, option_map}
use Rattle.std.proofs.lemmas.Bool.{cases_Bool, cond-false, cond-true}
use Rattle.std.proofs.lemmas.List.Elements.{All-cons, All-contains, All-nil}
use Rattle.circuits.specs.declared.port.Pair.{Pair}
use Rattle.circuits.specs.declared.port.PortKind.{PortKind}
use Rattle.circuits.specs.declared.port.PortKind.TheVariants.{Input, Output}
use Rattle.net_core.specs.Sides.{Graphs, graph_of}
use Rattle.net_core.specs.declared.graphs.Side.TheVariants.{First, Second}
use Rattle.claim_core.specs.declared.claims.Claim.{Claim}
use Rattle.claim_core.specs.declared.claims.Shape.{Shape}
use Rattle.claim_core.specs.declared.claims.Shape.TheVariants.{Up, Down, Swap}
use Rattle.claim_core.specs.Claims.{IsClaim, IsPlaced}
use Rattle.claim_core.specs.Images.{claim_of_second, image_of, is_of, moved_one, moved_shape, moved_two, moved_value, pair_of, two_inputs}
use Rattle.account_core.specs.Given.{Decided, fact_at, given_of}
use Rattle.account_core.specs.Mismatches.{IsImage}
use Rattle.account_core.specs.Ports.{IsKnown}
use Rattle.account_core.proofs.Matched.{pair_of-held}
use Rattle.ban_book.specs.Vectors.{AreDecided}
use Rattle.ban_book.specs.Mismatched.{mismatch_of, unlike_of}
use Rattle.ban_book.specs.Shown.{IsShownBan}
use Rattle.ban_book.specs.DecidedClaims.{IsDecidedAs}
use Rattle.ban_book.proofs.MismatchLemmas.{inputs_image, some_pair, three_known, three_ordered}
use Rattle.ban_book.proofs.MismatchedLemmas.{mismatch_valid}
use Rattle.account_core.specs.Assigned.{AreApart}
use Rattle.ban_book.proofs.OrderLemmas.{assigned_apart}
use Rattle.class_refine.specs.declared.swaps.Exchange.{Exchange}
use Rattle.class_refine.specs.Stable.{HaveNoSwapMismatch}
use Rattle.class_refine.specs.Swaps.{IsExchange, carried_to}

-- two inputs of a shape that is placed differ
two_apart : (n i j : ℕ) (a b : Bool) → IsPlaced n (two_inputs i a j b) → i ≢ j
two_apart n i j a b placed same = by_order (nat_lt i j) placed
  where
    by_order : (t : Bool) → IsPlaced n (cond t (Swap i j a b) (Swap j i b a)) → ⊥
    by_order true is = omega (arith, is.0, same)
    by_order false is = omega (arith, is.0, same)

decided_placed : (graphs : Graphs) (facts : List Decided) (claim : Claim) (holds : Bool) (k : ℕ) → AreDecided graphs facts → IsDecidedAs facts claim holds k → IsClaim graphs claim
decided_placed graphs facts claim holds k are decided_one = subst (λ (f : Decided). IsClaim graphs f.claim) decided_one.says (are.placed k _ decided_one.within)

-- the ban of a claim that is decided otherwise than the one that pairs carry it to
pub exchange_shown : (graphs : Graphs) (facts : List Decided) (pairs : List Pair) (claim : Claim) (e : Exchange) (one_holds other_holds : Bool) (k l : ℕ) → AreDecided graphs facts → All (IsKnown graphs) pairs → IsExchange pairs claim e → IsDecidedAs facts claim one_holds k → IsDecidedAs facts (carried_to e) other_holds l → (other_holds ≡ one_holds → ⊥) → IsShownBan graphs facts pairs (mismatch_of (e.one ∷ e.other ∷ e.output ∷ []) (unlike_of one_holds k l))
exchange_shown graphs facts pairs claim e one_holds other_holds k l are known is decided_one decided_other differ =
    let output = pair_of-held pairs Output claim.output e.output is.of_output in
    let one = pair_of-held pairs Input is.i e.one is.of_one in
    let other = pair_of-held pairs Input is.j e.other is.of_other in
    let placed = (subst (IsClaim graphs) is.claim_is (decided_placed graphs facts claim one_holds k are decided_one)).placed in
    let placed_other = (decided_placed graphs facts (carried_to e) other_holds l are decided_other).placed in
    let less : e.one.from < e.other.from = omega (arith, placed.0, one.2, other.2) in
    let apart = two_apart (graph_of graphs Second).inputs e.one.to e.other.to (moved_value e.output.flip e.one e.a) (moved_value e.output.flip e.other e.b) placed_other in
    let few = e.one ∷ e.other ∷ e.output ∷ [] in
    let claim_is : claim ≡ record { side = First; output = e.output.from; shape = Swap e.one.from e.other.from e.a e.b } =
    is.claim_is
    ∙ (ap (λ (n : ℕ). record { side = First; output = n; shape = Swap is.i is.j e.a e.b }) (sym output.2)
    ∙ (ap (λ (n : ℕ). record { side = First; output = e.output.from; shape = Swap n is.j e.a e.b }) (sym one.2)
    ∙ ap (λ (n : ℕ). record { side = First; output = e.output.from; shape = Swap e.one.from n e.a e.b }) (sym other.2))) in
    let carried : IsImage few claim (carried_to e) = (ap (λ (c : Claim). c.side) is.claim_is, ap (image_of few) claim_is ∙ inputs_image e.one e.other e.output e.a e.b one.1 other.1 output.1 less) in
    let known_few = three_known graphs e.one e.other e.output (All-contains (IsKnown graphs) pairs e.one known one.0) (All-contains (IsKnown graphs) pairs e.other known other.0) (All-contains (IsKnown graphs) pairs e.output known output.0) in
    record {
      valid = (mismatch_valid graphs facts few claim (carried_to e) one_holds other_holds k l known_few (three_ordered e.one e.other e.output one.1 other.1 output.1 less apart) carried decided_one decided_other (λ same. differ (sym same))).valid;
      within = record { among = All-cons (Contains pairs) e.one (e.other ∷ e.output ∷ []) one.0 (All-cons (Contains pairs) e.other (e.output ∷ []) other.0 (All-cons (Contains pairs) e.output [] output.0 (All-nil (Contains pairs)))) };
      no_vector = λ v. v;
    }

-- an image under pairs is one under others by which each port has the same pair
shape_same : (few more : List Pair) → ((kind : PortKind) (port : ℕ) → pair_of few kind port ≡ pair_of more kind port) → (exchanged : Bool) (shape : Shape) → moved_shape few exchanged shape ≡ moved_shape more exchanged shape
shape_same few more same exchanged (Up i) = ap (option_map (moved_one exchanged false)) (same Input i)
shape_same few more same exchanged (Down i) = ap (option_map (moved_one exchanged true)) (same Input i)
shape_same few more same exchanged (Swap i j a b) =
    ap (λ found. option_and_then (λ (first : Pair). option_map (moved_two exchanged a b first) found) (pair_of few Input i)) (same Input j)
    ∙ ap (λ found. option_and_then (λ (first : Pair). option_map (moved_two exchanged a b first) (pair_of more Input j)) found) (same Input i)

image_same : (few more : List Pair) → ((kind : PortKind) (port : ℕ) → pair_of few kind port ≡ pair_of more kind port) → (claim : Claim) → image_of few claim ≡ image_of more claim
image_same few more same claim =
    by_output (pair_of few Output claim.output)
    ∙ ap (λ found. option_and_then (λ (o : Pair). option_map (claim_of_second o.to) (moved_shape more o.flip claim.shape)) found) (same Output claim.output)
  where
    by_output : (found : Option Pair) → option_and_then (λ (o : Pair). option_map (claim_of_second o.to) (moved_shape few o.flip claim.shape)) found ≡ option_and_then (λ (o : Pair). option_map (claim_of_second o.to) (moved_shape more o.flip claim.shape)) found
    by_output None = refl
    by_output (Some o) = ap (option_map (claim_of_second o.to)) (shape_same few more same o.flip claim.shape)

-- the pair of a port stays where a pair comes once more
pair_same : (assigned : List Pair) (pair : Pair) → AllPairs AreApart assigned → Contains assigned pair → (kind : PortKind) (port : ℕ) → pair_of (pair ∷ assigned) kind port ≡ pair_of assigned kind port
pair_same assigned pair apart there kind port =
    elim (cases_Bool (is_of kind port pair)) [
      | inr no' ↦ cond-false (is_of kind port pair) (Some pair) (pair_of assigned kind port) no'
      | inl yes' ↦
          let first = cond-true (is_of kind port pair) (Some pair) (pair_of assigned kind port) yes' in
          let found = some_pair assigned kind port pair there yes' in
          let here = pair_of-held assigned kind port found.0 found.1 in
          let own = pair_of-held (pair ∷ assigned) kind port pair first in
          first ∙ (ap (λ (p : Pair). Some p) (sym (one_pair found.0 (assigned_apart assigned found.0 pair apart here.0 there) (here.1 ∙ sym own.1) (here.2 ∙ sym own.2))) ∙ sym found.1)
    ]
  where
    one_pair : (other : Pair) → (other ≡ pair) ⊎ AreApart other pair → other.kind ≡ pair.kind → other.from ≡ pair.from → other ≡ pair
    one_pair other (inl same) kinds ports = same
    one_pair other (inr apart) kinds ports = absurd (apart.from kinds ports)

pub no_swap_beside : (graphs : Graphs) (facts : List Decided) (assigned : List Pair) (pair : Pair) → AllPairs AreApart assigned → Contains assigned pair → HaveNoSwapMismatch graphs facts assigned → HaveNoSwapMismatch graphs facts (pair ∷ assigned)
no_swap_beside graphs facts assigned pair apart there none fails holds two shown =
    none fails holds two (record {
      names = shown.names;
      rule = record {
        one_fails = shown.rule.one_fails;
        other_holds = shown.rule.other_holds;
        image = elim shown.rule.image [
          | inl image ↦ inl (image.0, sym (image_same (pair ∷ assigned) assigned same (fact_at (given_of facts []) fails).claim) ∙ image.1)
          | inr image ↦ inr (image.0, sym (image_same (pair ∷ assigned) assigned same (fact_at (given_of facts []) holds).claim) ∙ image.1)
        ];
      };
    })
  where
    same : (kind : PortKind) (port : ℕ) → pair_of (pair ∷ assigned) kind port ≡ pair_of assigned kind port
    same kind port = pair_same assigned pair apart there kind port
