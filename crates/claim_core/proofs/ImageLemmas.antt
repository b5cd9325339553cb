-- The pair of a port, and where there is none.
use Rattle.std.proofs.Common.{◌≡◌, ◌⊎◌, ◌↔◌, ℕ, zero, suc, ◌<◌, ◌==◌, Bool, true, false, List, [], ◌∷◌, length, All, Option, None, Some, IsNone, find, is_some, unwrap_or, option_and_then, option_map, slice_index_or, inl, inr, refl, sym, ap, subst, ◌∙◌, arith, eqb-true}
use Rattle.std.proofs.lemmas.Bool.{cases_Bool, cond-true, cond-false}
use Rattle.std.proofs.lemmas.Bool.{and_parts}
use Rattle.circuits.specs.declared.port.PortKind.{PortKind}
use Rattle.circuits.specs.declared.port.PortKind.TheVariants.{Input, Output}
use Rattle.circuits.specs.declared.port.Pair.{Pair}
use Rattle.circuits.specs.Bijections.{place_of, sign_of}
use Rattle.claim_core.specs.declared.claims.Shape.{Shape}
use Rattle.claim_core.specs.declared.claims.Shape.TheVariants.{Up, Down, Swap}
use Rattle.claim_core.specs.declared.claims.Claim.{Claim}
use Rattle.claim_core.specs.Images.{Extends, HasPair, Lacks, LacksInput, claim_of_second, entries_of, image_of, is_of, moved_one, moved_shape, moved_two, pair_of, same_kind}

-- where none passes, none is found
none-found : (p : Pair → Bool) (pairs : List Pair) → All (λ pair. p pair ≡ false) pairs → find p pairs ≡ None
none-found p [] all = refl
none-found p (pair ∷ pairs) all =
    cond-false (p pair) (Some pair) (find p pairs) (all 0 pair (omega arith)) ∙ none-found p pairs (λ k d within. all (suc k) d (omega (arith, within)))

none-passes : (p : Pair → Bool) (pairs : List Pair) → find p pairs ≡ None → All (λ pair. p pair ≡ false) pairs
none-passes p [] none k d within = absurd (omega (arith, within))
none-passes p (pair ∷ pairs) none k d within =
    elim (cases_Bool (p pair)) [
      | inl passes ↦ cc (sym (cond-true (p pair) (Some pair) (find p pairs) passes) ∙ none)
      | inr fails ↦ at k within fails (none-passes p pairs (sym (cond-false (p pair) (Some pair) (find p pairs) fails) ∙ none))
    ]
  where
    at : (k : ℕ) → k < length (pair ∷ pairs) → p pair ≡ false → All (λ pair. p pair ≡ false) pairs → p (slice_index_or (pair ∷ pairs) k d) ≡ false
    at zero within fails rest = fails
    at (suc k) within fails rest = rest k d (omega (arith, within))

-- what is found passes, and is one of them
pub found-is : (P : Pair → Type 0) (p : Pair → Bool) (pairs : List Pair) (pair : Pair) → All P pairs → find p pairs ≡ Some pair → P pair × (p pair ≡ true)
found-is P p [] pair all found = cc
found-is P p (one ∷ pairs) pair all found =
    elim (cases_Bool (p one)) [
      | inl passes ↦
          let same : one ≡ pair = ap (λ o. unwrap_or o pair) (sym (cond-true (p one) (Some one) (find p pairs) passes) ∙ found) in
          subst (λ x. P x × (p x ≡ true)) same (all 0 one (omega arith), passes)
      | inr fails ↦ found-is P p pairs pair (λ k d within. all (suc k) d (omega (arith, within))) (sym (cond-false (p one) (Some one) (find p pairs) fails) ∙ found)
    ]

-- what an option is by a function of what it holds
pub mapped : {X Y : Type 0} (f : X → Y) (o : Option X) (y : Y) → option_map f o ≡ Some y → (x : X) × (o ≡ Some x) × (f x ≡ y)
mapped f None y e = cc
mapped f (Some x) y e = (x, refl, ap (λ o. unwrap_or o y) e)

pub chained : {X Y : Type 0} (f : X → Option Y) (o : Option X) (y : Y) → option_and_then f o ≡ Some y → (x : X) × (o ≡ Some x) × (f x ≡ Some y)
chained f None y e = cc
chained f (Some x) y e = (x, refl, e)

-- there is no port's pair where no pair is of the port
no-pair : (pairs : List Pair) (kind : PortKind) (port : ℕ) → (pair_of pairs kind port ≡ None) ↔ Lacks pairs kind port
no-pair pairs kind port = (none-passes (is_of kind port) pairs, none-found (is_of kind port) pairs)

-- an option by a function of what it holds is empty where it is, and one of two options where either is
no-image : {X Y L : Type 0} (f : X → Y) (o : Option X) → (o ≡ None) ↔ L → (option_map f o ≡ None) ↔ L
no-image f None lacks = (λ e. lacks.0 refl, λ l. refl)
no-image f (Some x) lacks = (λ e. cc, λ l. ap (option_map f) (lacks.1 l))

no-images : {X Y Z K L : Type 0} (f : X → Y → Z) (o : Option X) (p : X → Option Y) → (o ≡ None) ↔ K → ((x : X) → (p x ≡ None) ↔ L) → (option_and_then (λ x. option_map (f x) (p x)) o ≡ None) ↔ (K ⊎ L)
no-images f None p first second = (λ e. inl (first.0 refl), λ lacks. refl)
no-images f (Some x) p first second = (
  λ e. inr ((no-image (f x) (p x) (second x)).0 e),
  λ lacks. elim lacks [ inl k ↦ cc (first.1 k) | inr l ↦ (no-image (f x) (p x) (second x)).1 l ],
)

-- a shape has no image exactly where an input has no pair, and a claim where its output or such an input has none
no-shape : (pairs : List Pair) (exchanged : Bool) (shape : Shape) → (moved_shape pairs exchanged shape ≡ None) ↔ LacksInput pairs shape
no-shape pairs exchanged (Up i) = no-image (moved_one exchanged false) (pair_of pairs Input i) (no-pair pairs Input i)
no-shape pairs exchanged (Down i) = no-image (moved_one exchanged true) (pair_of pairs Input i) (no-pair pairs Input i)
no-shape pairs exchanged (Swap i j a b) =
    no-images (moved_two exchanged a b) (pair_of pairs Input i) (λ first. pair_of pairs Input j) (no-pair pairs Input i) (λ first. no-pair pairs Input j)

pub none_lacks : (pairs : List Pair) (claim : Claim) (result : Option Claim) → result ≡ image_of pairs claim → IsNone result ↔ (Lacks pairs Output claim.output ⊎ LacksInput pairs claim.shape)
none_lacks pairs claim result is = (
  λ none. lacks.0 (sym is ∙ empty result none),
  λ lacking. ap (λ (o : Option Claim). is_some o) (is ∙ lacks.1 lacking),
)
  where
    lacks : (image_of pairs claim ≡ None) ↔ (Lacks pairs Output claim.output ⊎ LacksInput pairs claim.shape)
    lacks =
        no-images (λ (output : Pair). claim_of_second output.to) (pair_of pairs Output claim.output) (λ output. moved_shape pairs output.flip claim.shape) (no-pair pairs Output claim.output) (λ output. no-shape pairs output.flip claim.shape)

    empty : (o : Option Claim) → is_some o ≡ false → o ≡ None
    empty None e = refl
    empty (Some x) e = cc

pub kind_same : (kind other : PortKind) → kind ≡ other → same_kind kind other ≡ true
kind_same Input Input is = refl
kind_same Input Output is = cc
kind_same Output Input is = cc
kind_same Output Output is = refl

pub kind_is : (kind other : PortKind) → same_kind kind other ≡ true → kind ≡ other
kind_is Input Input e = refl
kind_is Input Output e = cc
kind_is Output Input e = cc
kind_is Output Output e = refl

-- a matching that has all pairs has the pair of a port
pub record IsEntry (entries : List (ℕ × Bool)) (port : ℕ) (pair : Pair) : Type 0 where
  pub there : port < length entries
  pub place : place_of entries port ≡ pair.to
  pub sign : sign_of entries port ≡ pair.flip

pub pair-goes : (pairs : List Pair) (p q : List (ℕ × Bool)) (kind : PortKind) (port : ℕ) (pair : Pair) → Extends pairs p q → pair_of pairs kind port ≡ Some pair → IsEntry (entries_of kind p q) port pair
pair-goes pairs p q kind port pair extends found =
    let is = found-is (HasPair p q) (is_of kind port) pairs pair extends found in
    let parts = and_parts (same_kind pair.kind kind) (pair.from == port) is.1 in
    let kinds = kind_is pair.kind kind parts.0 in
    let ports : pair.from ≡ port = eqb-true pair.from port parts.1 in
    let goes = ap (λ n. slice_index_or (entries_of kind p q) n (0, false)) (sym ports) ∙ (ap (λ k. slice_index_or (entries_of k p q) pair.from (0, false)) (sym kinds) ∙ is.0.goes) in
    record {
      there = subst (λ n. n < length (entries_of kind p q)) ports (subst (λ k. pair.from < length (entries_of k p q)) kinds is.0.there);
      place = ap (λ (entry : ℕ × Bool). entry.0) goes;
      sign = ap (λ (entry : ℕ × Bool). entry.1) goes;
    }
