-- Literals, their signs and variables; two of them in order; and what stands for one.
use Rattle.std.proofs.Common.{◌≡◌, ◌⊎◌, ℕ, ◌+◌, ◌-◌, ◌*◌, ◌/◌, ◌%◌, ◌<◌, ◌≤◌, cond, not, eqb, Bool, true, false, Option, None, Some, nat_lt, inl, inr, refl, sym, ◌∙◌, ap, subst, arith, lt-ltb, le-ltb}
use Rattle.std.proofs.lemmas.Bool.{both_ways, cases_order, and_parts, and_from}
use Rattle.std.proofs.lemmas.Bool.Decides.{eqb_tells}
use Rattle.cnf_core.specs.declared.literal.SatLit.{SatLit}
use Rattle.cnf_core.specs.Clauses.{is_negated, opposite, variable_of}
use Rattle.cnf_core.specs.Derivations.{is_same}
use Rattle.claim_core.specs.Formulas.{plain}
use Rattle.joint_hash.specs.declared.twins.Twin.{Twin}
use Rattle.cnf_core.proofs.LiteralLemmas.{negated-opposite, opposite_twice, same_itself, same_literal, same_number, variable_of-opposite}
use Rattle.joint_hash.specs.Classes.{in_order, representative, same_operands, twin_literal}

-- a literal is its variable, or the opposite of that
pub plain_is : (l : SatLit) → is_negated l ≡ false → plain (variable_of l) ≡ l
plain_is l free = ap (λ n. record { 0 = n }) (number l.0 free)
  where
    number : (n : ℕ) → eqb (n % 2) 1 ≡ false → 2 * (n / 2) ≡ n
    number n e = elim (eqb_tells (n % 2) 1) [ inl (odd, _) ↦ absurd (both_ways (eqb (n % 2) 1) e odd) | inr (even, ne) ↦ omega (arith, ne) ]

pub negated_is : (l : SatLit) → is_negated l ≡ true → opposite (plain (variable_of l)) ≡ l
negated_is l negated = ap (λ n. record { 0 = n }) (number l.0 negated)
  where
    number : (n : ℕ) → eqb (n % 2) 1 ≡ true → 2 * (2 * (n / 2) / 2) + (1 - 2 * (n / 2) % 2) ≡ n
    number n e = elim (eqb_tells (n % 2) 1) [ inl (odd, one) ↦ omega (arith, one) | inr (even, _) ↦ absurd (both_ways (eqb (n % 2) 1) even e) ]

pub variable_of-plain : (v : ℕ) → variable_of (plain v) ≡ v
variable_of-plain v = omega arith

pub negated-plain : (v : ℕ) → is_negated (plain v) ≡ false
negated-plain v = elim (eqb_tells (2 * v % 2) 1) [ inl (odd, e) ↦ absurd (omega (arith, e)) | inr (even, e) ↦ even ]

-- ---- what stands for a literal

pub representative_opposite : (twins : ℕ → Option Twin) (l : SatLit) → representative twins (opposite l) ≡ opposite (representative twins l)
representative_opposite twins l =
    ap (λ v. twin_literal (twins v) (opposite l)) (variable_of-opposite l) ∙ by_twin (twins (variable_of l))
  where
    by_sign : (twin : Twin) (b : Bool) → is_negated l ≡ b → twin_literal (Some twin) (opposite l) ≡ opposite (twin_literal (Some twin) l)
    by_sign twin true negated =
        ap (λ b. cond b (opposite twin.first) twin.first) (negated-opposite l ∙ ap not negated)
        ∙ (sym (opposite_twice twin.first) ∙ ap (λ b. opposite (cond b (opposite twin.first) twin.first)) (sym negated))
    by_sign twin false free =
        ap (λ b. cond b (opposite twin.first) twin.first) (negated-opposite l ∙ ap not free) ∙ ap (λ b. opposite (cond b (opposite twin.first) twin.first)) (sym free)

    by_twin : (twin : Option Twin) → twin_literal twin (opposite l) ≡ opposite (twin_literal twin l)
    by_twin None = refl
    by_twin (Some twin) = by_sign twin (is_negated l) refl

-- ---- two literals in order

-- the lesser one first
low_first : (a b : SatLit) → b.0 < a.0 → in_order a b ≡ (b, a)
low_first a b less = ap (λ t. cond t (b, a) (a, b)) (lt-ltb b.0 a.0 less)

as_given : (a b : SatLit) → a.0 ≤ b.0 → in_order a b ≡ (a, b)
as_given a b le = ap (λ t. cond t (b, a) (a, b)) (le-ltb b.0 a.0 le)

pub in_order_exchanged : (a b : SatLit) → in_order a b ≡ in_order b a
in_order_exchanged a b =
    elim (cases_order a.0 b.0) [
      | inl e ↦ ap (λ l. in_order l b) (same_number a b e) ∙ ap (λ l. in_order b l) (sym (same_number a b e))
      | inr (inl less) ↦ as_given a b (omega (arith, less)) ∙ sym (low_first b a less)
      | inr (inr less) ↦ low_first a b less ∙ sym (as_given b a (omega (arith, less)))
    ]

-- Two literals are two others, in either order.
abbrev pub AreTheSame : SatLit → SatLit → SatLit → SatLit → Type 0
AreTheSame a b c d = ((a ≡ c) × (b ≡ d)) ⊎ ((a ≡ d) × (b ≡ c))

abbrev either_way : SatLit → SatLit → Bool → SatLit × SatLit
either_way a b exchanged = cond exchanged (b, a) (a, b)

pub in_order_same : (a b c d : SatLit) → in_order a b ≡ in_order c d → AreTheSame a b c d
in_order_same a b c d e = by (nat_lt b.0 a.0) (nat_lt d.0 c.0) refl refl
  where
    by : (s t : Bool) → nat_lt b.0 a.0 ≡ s → nat_lt d.0 c.0 ≡ t → AreTheSame a b c d
    by s t p q = parts s t (sym (ap (either_way a b) p) ∙ (e ∙ ap (either_way c d) q))
      where
        parts : (s t : Bool) → either_way a b s ≡ either_way c d t → AreTheSame a b c d
        parts true true is = inl (ap (λ (x : SatLit × SatLit). x.1) is, ap (λ (x : SatLit × SatLit). x.0) is)
        parts true false is = inr (ap (λ (x : SatLit × SatLit). x.1) is, ap (λ (x : SatLit × SatLit). x.0) is)
        parts false true is = inr (ap (λ (x : SatLit × SatLit). x.0) is, ap (λ (x : SatLit × SatLit). x.1) is)
        parts false false is = inl (ap (λ (x : SatLit × SatLit). x.0) is, ap (λ (x : SatLit × SatLit). x.1) is)

pub operands_same : (p q : SatLit × SatLit) → same_operands p q ≡ true → p ≡ q
operands_same p q e =
    let parts = and_parts (is_same p.0 q.0) (is_same p.1 q.1) e in
    let one = same_literal p.0 q.0 parts.0 in
    let other = same_literal p.1 q.1 parts.1 in
    λ i. (one i, other i)

pub operands_from : (p q : SatLit × SatLit) → p ≡ q → same_operands p q ≡ true
operands_from p q e =
    subst (λ (x : SatLit × SatLit). same_operands p x ≡ true) e (and_from (is_same p.0 p.0) (is_same p.1 p.1) (same_itself p.0) (same_itself p.1))
