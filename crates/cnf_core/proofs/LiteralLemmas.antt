-- Literals, their variables and signs.
use Rattle.std.proofs.Common.{◌≡◌, ◌≢◌, ℕ, ◌+◌, ◌-◌, ◌*◌, ◌/◌, ◌%◌, cond, not, eqb, Bool, true, false, inl, inr, refl, sym, ◌∙◌, ap, subst, arith, eqb-true, eq-eqb}
use Rattle.std.proofs.lemmas.Bool.Decides.{eqb_tells}
use Rattle.cnf_core.specs.declared.literal.SatLit.{SatLit}
use Rattle.cnf_core.specs.Clauses.{is_negated, literal_of, opposite, variable_of}
use Rattle.cnf_core.specs.Derivations.{is_same}

-- stands where a list has no literal
abbrev pub no_literal : SatLit
no_literal = record { 0 = 0 }

-- literals of one number are one
pub same_number : (l m : SatLit) → l.0 ≡ m.0 → l ≡ m
same_number l m e = ap (λ n. record { 0 = n }) e

pub same_literal : (l m : SatLit) → is_same l m ≡ true → l ≡ m
same_literal l m e = same_number l m (eqb-true l.0 m.0 e)

pub same_itself : (l : SatLit) → is_same l l ≡ true
same_itself l = eq-eqb l.0 l.0 refl

pub same_from : (l m : SatLit) → l ≡ m → is_same l m ≡ true
same_from l m e = subst (λ (x : SatLit). is_same l x ≡ true) e (same_itself l)

-- literals of two variables are two
pub not_same : (l m : SatLit) → variable_of l ≢ variable_of m → is_same l m ≡ false
not_same l m differ =
    elim (eqb_tells l.0 m.0) [
      | inl (found, e) ↦ absurd (differ (ap (λ n. n / 2) e))
      | inr (found, e) ↦ found
    ]

-- a literal is that of its variable with its sign, and its opposite that with the other one
pub itself : (l : SatLit) → literal_of (variable_of l) (not (is_negated l)) ≡ l
itself l = ap (λ n. record { 0 = n }) (number l.0)
  where
    number : (n : ℕ) → cond (not (eqb (n % 2) 1)) (2 * (n / 2)) (2 * (n / 2) + 1) ≡ n
    number n =
        elim (eqb_tells (n % 2) 1) [
          | inl (odd, e) ↦ ap (λ b. cond (not b) (2 * (n / 2)) (2 * (n / 2) + 1)) odd ∙ omega (arith, e)
          | inr (even, e) ↦ ap (λ b. cond (not b) (2 * (n / 2)) (2 * (n / 2) + 1)) even ∙ omega (arith, e)
        ]

pub its_opposite : (l : SatLit) → literal_of (variable_of l) (is_negated l) ≡ opposite l
its_opposite l = ap (λ n. record { 0 = n }) (number l.0)
  where
    number : (n : ℕ) → cond (eqb (n % 2) 1) (2 * (n / 2)) (2 * (n / 2) + 1) ≡ 2 * (n / 2) + (1 - n % 2)
    number n =
        elim (eqb_tells (n % 2) 1) [
          | inl (odd, e) ↦ ap (λ b. cond b (2 * (n / 2)) (2 * (n / 2) + 1)) odd ∙ omega (arith, e)
          | inr (even, e) ↦ ap (λ b. cond b (2 * (n / 2)) (2 * (n / 2) + 1)) even ∙ omega (arith, e)
        ]

pub variable_of-literal : (v : ℕ) (b : Bool) → variable_of (literal_of v b) ≡ v
variable_of-literal v true = omega arith
variable_of-literal v false = omega arith

pub opposite-literal : (v : ℕ) (b : Bool) → opposite (literal_of v b) ≡ literal_of v (not b)
opposite-literal v true = ap (λ n. record { 0 = n }) (let e : 2 * (2 * v / 2) + (1 - 2 * v % 2) ≡ 2 * v + 1 = omega arith in e)
opposite-literal v false = ap (λ n. record { 0 = n }) (let e : 2 * ((2 * v + 1) / 2) + (1 - (2 * v + 1) % 2) ≡ 2 * v = omega arith in e)

pub variable_of-opposite : (l : SatLit) → variable_of (opposite l) ≡ variable_of l
variable_of-opposite l = omega arith

pub negated-opposite : (l : SatLit) → is_negated (opposite l) ≡ not (is_negated l)
negated-opposite l =
    elim (eqb_tells (l.0 % 2) 1) [
      | inl (odd, e) ↦
          elim (eqb_tells ((opposite l).0 % 2) 1) [ inl (o, f) ↦ absurd (omega (arith, e, f)) | inr (o, f) ↦ o ∙ sym (ap not odd) ]
      | inr (even, e) ↦
          elim (eqb_tells ((opposite l).0 % 2) 1) [ inl (o, f) ↦ o ∙ sym (ap not even) | inr (o, f) ↦ absurd (omega (arith, e, f)) ]
    ]

pub opposite_twice : (l : SatLit) → opposite (opposite l) ≡ l
opposite_twice l = ap (λ n. record { 0 = n }) (number l.0)
  where
    number : (n : ℕ) → 2 * ((2 * (n / 2) + (1 - n % 2)) / 2) + (1 - (2 * (n / 2) + (1 - n % 2)) % 2) ≡ n
    number n = omega arith

pub not_opposite : (l : SatLit) → is_same (opposite l) l ≡ false
not_opposite l =
    elim (eqb_tells (opposite l).0 l.0) [ inl (found, e) ↦ absurd (omega (arith, e)) | inr (found, e) ↦ found ]
