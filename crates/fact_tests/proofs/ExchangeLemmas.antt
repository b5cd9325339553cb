-- What may be exchanged with one and the same input may be exchanged with each other.
use Rattle.std.proofs.Common.{◌≡◌, ◌≢◌, ◌⊎◌, ℕ, ◌<◌, Bool, true, false, not, List, length, Option, Some, set, refl, sym, subst, ap, ◌∙◌, inl, inr, arith}
use Rattle.std.proofs.lemmas.Bool.{false≢true}
use Rattle.std.proofs.lemmas.List.{length-set, set_comm}
use Rattle.std.specs.Bool.{Decides}
use Rattle.circuits.specs.Literals.{bit, differ}
use Rattle.claim_core.specs.Facts.{cofactor}
use Rattle.claim_core.proofs.ClaimLaws.{set-here}
use Rattle.fact_tests.specs.Exchanges.{IsExchange, IsNever, sym_by}
use Rattle.fact_tests.specs.Outputs.{IsAlike, IsSymmetry}
use Rattle.fact_tests.proofs.AlikeLemmas.{alike_at, alike_back}

-- a function of three bits of which the first two may be exchanged, and the last two
passed : (h : Bool → Bool → Bool → Bool) (one other b : Bool)
    → ((c : Bool) → h false (not one) c ≡ h true one c)
    → ((a : Bool) → h a false (not other) ≡ h a true other)
    → h false b (not (differ one other)) ≡ h true b (differ one other)
passed h false false false first second = second false ∙ first false
passed h false false true first second = first true ∙ second true
passed h false true false first second = second false ∙ first true
passed h false true true first second = first false ∙ second true
passed h true false false first second = first false ∙ sym (second true)
passed h true false true first second = sym (second false) ∙ first true
passed h true true false first second = first true ∙ sym (second true)
passed h true true true first second = sym (second false) ∙ first false

pub at_alike : (n : ℕ) (f : List Bool → Bool) (i j : ℕ) (inverted : Bool) → ((x : List Bool) → length x ≡ n → cofactor f i false j (not inverted) x ≡ cofactor f i true j inverted x) → IsAlike n f i j inverted
at_alike n f i j false at = at
at_alike n f i j true at = at

pub alike_over : (n : ℕ) (f : List Bool → Bool) (i j k : ℕ) (one other : Bool) → i ≢ j → k ≢ j → k ≢ i
    → IsAlike n f i j one
    → IsAlike n f j k other
    → IsAlike n f i k (differ one other)
alike_over n f i j k one other apart last ends first second =
    at_alike n f i k (differ one other) (λ x len.
    let h : Bool → Bool → Bool → Bool = λ a b c. f (set (set (set x j b) i a) k c) in
    let upper : (c : Bool) → h false (not one) c ≡ h true one c =
    λ c. sym (moved x false (not one) c) ∙ (alike_at n f i j one (set x k c) first (length-set x k c ∙ len) ∙ moved x true one c) in
    let lower : (a : Bool) → h a false (not other) ≡ h a true other =
    λ a. sym (placed x a false (not other)) ∙ (alike_at n f j k other (set x i a) second (length-set x i a ∙ len) ∙ placed x a true other) in
    subst (λ y. f (set (set y i false) k (not (differ one other))) ≡ f (set (set y i true) k (differ one other))) (set-here x j (bit x j) refl)
    (passed h one other (bit x j) upper lower))
  where
    moved : (x : List Bool) (a b c : Bool) → f (set (set (set x k c) i a) j b) ≡ f (set (set (set x j b) i a) k c)
    moved x a b c = ap f (set_comm (set x k c) i j a b apart ∙ (ap (λ y. set y i a) (set_comm x k j c b last) ∙ set_comm (set x j b) k i c a ends))

    placed : (x : List Bool) (a b c : Bool) → f (set (set (set x i a) j b) k c) ≡ f (set (set (set x j b) i a) k c)
    placed x a b c = ap (λ y. f (set y k c)) (set_comm x i j a b apart)

-- of two signs one changes
other_left : (one other : Bool) → differ (not one) other ≡ not (differ one other)
other_left false false = refl
other_left false true = refl
other_left true false = refl
other_left true true = refl

other_twice : (one other : Bool) → differ (not (differ one other)) other ≡ not one
other_twice false false = refl
other_twice false true = refl
other_twice true false = refl
other_twice true true = refl

either_first : (one other : Bool) → differ one other ≡ differ other one
either_first false false = refl
either_first false true = refl
either_first true false = refl
either_first true true = refl

-- whoever may be exchanged with the second input in one way may be exchanged with the first one in as many ways as the second one
pub exchange_over : (n : ℕ) (f : List Bool → Bool) (i j k : ℕ) (one both other : Bool) → i ≢ j → j ≢ k → i ≢ k
    → IsExchange n f i j one both
    → IsAlike n f j k other
    → IsExchange n f i k (differ one other) both
exchange_over n f i j k one both other first last ends exchange alike = record {
  alike = alike_over n f i j k one other first (λ e. last (sym e)) (λ e. ends (sym e)) exchange.alike alike;
  other = (
    λ is. subst (IsAlike n f i k) (other_left one other) (alike_over n f i j k (not one) other first (λ e. last (sym e)) (λ e. ends (sym e)) (exchange.other.0 is) alike),
    λ also. exchange.other.1 (subst (IsAlike n f i j) (other_twice one other) (alike_over n f i k j (not (differ one other)) other ends last (λ e. first (sym e)) also (alike_back n f j k other last alike))),
  );
}

exchange_back : (n : ℕ) (f : List Bool → Bool) (i j : ℕ) (inverted both : Bool) → i ≢ j → IsExchange n f i j inverted both → IsExchange n f j i inverted both
exchange_back n f i j inverted both apart exchange = record {
  alike = alike_back n f i j inverted apart exchange.alike;
  other = (
    λ is. alike_back n f i j (not inverted) apart (exchange.other.0 is),
    λ also. exchange.other.1 (alike_back n f j i (not inverted) (λ e. apart (sym e)) also),
  );
}

-- two inputs that may be exchanged with a third
pub exchange_between : (n : ℕ) (f : List Bool → Bool) (i j k : ℕ) (one other both : Bool) → i ≢ j → i ≢ k → j ≢ k
    → IsExchange n f i j one both
    → IsExchange n f i k other both
    → IsExchange n f j k (differ one other) both
exchange_between n f i j k one other both first last apart upper lower =
    subst (λ sign. IsExchange n f j k sign both) (either_first other one)
    (exchange_back n f k j (differ other one) both (λ e. apart (sym e))
    (exchange_over n f k i j other both one (λ e. last (sym e)) first (λ e. apart (sym e)) (exchange_back n f i k other both last lower) upper.alike))

-- an input that may be exchanged with neither of two that may be exchanged
pub never_over : (n : ℕ) (f : List Bool → Bool) (i j k : ℕ) (inverted : Bool) → i ≢ j → j ≢ k → i ≢ k
    → IsAlike n f i j inverted
    → IsNever n f j k
    → IsNever n f i k
never_over n f i j k inverted first last ends alike never =
    λ other also. never (differ inverted other)
    (alike_over n f j i k inverted other (λ e. first (sym e)) (λ e. ends (sym e)) (λ e. last (sym e)) (alike_back n f i j inverted first alike) also)

pub never_back : (n : ℕ) (f : List Bool → Bool) (i j : ℕ) → i ≢ j → IsNever n f i j → IsNever n f j i
never_back n f i j apart never = λ inverted alike. never inverted (alike_back n f j i inverted (λ e. apart (sym e)) alike)

-- what an exchange says of two inputs
pub exchange_is : (n : ℕ) (f : List Bool → Bool) (i j : ℕ) (both inverted : Bool) → IsExchange n f i j inverted both → IsSymmetry n f i j (Some (sym_by both inverted))
exchange_is n f i j true false exchange = (exchange.alike, exchange.other.0 refl)
exchange_is n f i j true true exchange = (exchange.other.0 refl, exchange.alike)
exchange_is n f i j false false exchange = (exchange.alike, λ also. false≢true (exchange.other.1 also))
exchange_is n f i j false true exchange = (λ also. false≢true (exchange.other.1 also), exchange.alike)
