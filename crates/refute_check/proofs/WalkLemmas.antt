-- What a clause does, literal by literal, and what hints lead to.
use Rattle.std.proofs.Common.{◌≡◌, ℕ, suc, ◌<◌, ◌==◌, ◌||◌, Bool, true, false, List, [], ◌∷◌, ◌++◌, length, map, take, drop, Some, slice_index_or, inl, inr, refl, sym, ◌∙◌, ap, subst, arith}
use Rattle.std.specs.List.{list_any}
use Rattle.std.proofs.lemmas.Bool.{eq-eqb}
use Rattle.std.proofs.lemmas.List.Folds.{list_any-append, list_any_none}
use Rattle.std.proofs.lemmas.Bool.Decides.{eqb_tells}
use Rattle.std.proofs.lemmas.List.{map-append}
use Rattle.std.proofs.Math.Seq.{drop-cons, take-suc}
use Rattle.cnf_core.specs.declared.literal.SatLit.{SatLit}
use Rattle.cnf_core.specs.declared.effect.Effect.{Effect}
use Rattle.cnf_core.specs.declared.effect.Effect.TheVariants.{Makes}
use Rattle.cnf_core.specs.Clauses.{variable_of, opposite, AreKnown}
use Rattle.cnf_core.specs.Derivations.{is_same, is_true, is_false, effect_of, hint_fault, repeats_variable}
use Rattle.cnf_core.proofs.EffectLemmas.{known_at, makes_says}
use Rattle.cnf_core.proofs.LiteralLemmas.{not_same, variable_of-opposite}
use Rattle.refute_check.specs.Values.{CanBeMade, Made}

-- what a clause of known literals makes true can be made
pub can_be_made : (values : Made) (n : ℕ) (clause : List SatLit) (effect : Effect) (l : SatLit)
    → values.variables ≡ n
    → AreKnown n clause
    → effect ≡ effect_of values.made clause
    → Some effect ≡ Some (Makes l)
    → CanBeMade values l
can_be_made values n clause effect l same known_by is makes =
    let maker = makes_says values.made clause l (sym is ∙ (let e : effect ≡ Makes l = cc in e)) in
    let known = subst (λ m. AreKnown m clause) (sym same) known_by in
    record { known = known_at values.variables clause l known maker.there; not_true = maker.not_true; not_false = maker.not_false }

-- whether a literal has the variable of one of those before it, or of an earlier one of its own list
abbrev pub twice_after : List SatLit → List SatLit → Bool
twice_after earlier [] = false
twice_after earlier (l ∷ left) = list_any (λ m. variable_of m == variable_of l) earlier || twice_after (earlier ++ l ∷ []) left

-- The first literals of a clause were made false, and no two have one variable.
pub record IsNegated (old now : Made) (clause : List SatLit) (count : ℕ) : Type 0 where
  pub variables : now.variables ≡ old.variables
  pub made : now.made ≡ map opposite (take count clause)
  pub twice : twice_after (take count clause) (drop count clause) ≡ repeats_variable clause

-- what the hints that are left lead to is what all lead to
pub record IsWalked (clauses : List (List SatLit)) (old now : Made) (hints left : List ℕ) : Type 0 where
  pub variables : now.variables ≡ old.variables
  pub fault : hint_fault clauses now.made left ≡ hint_fault clauses old.made hints

-- a literal or its opposite is the opposite of another: they have one variable
same_variable : (l m : SatLit) → (is_same l (opposite m) || is_same (opposite l) (opposite m)) ≡ (variable_of m == variable_of l)
same_variable l m =
    elim (eqb_tells (variable_of m) (variable_of l)) [
      | inl (found, e) ↦ elim (eqb_tells l.0 (opposite m).0) [
        | inl (same, _) ↦ ap (λ t. t || is_same (opposite l) (opposite m)) same ∙ sym found
        | inr (other, differ) ↦
            let both : (opposite l).0 ≡ (opposite m).0 = omega (arith, e, differ) in
            ap (λ t. t || is_same (opposite l) (opposite m)) other ∙ (eq-eqb (opposite l).0 (opposite m).0 both ∙ sym found)
      ]
      | inr (found, differ) ↦
          let first = not_same l (opposite m) (λ e. differ (sym (e ∙ variable_of-opposite m))) in
          let second = not_same (opposite l) (opposite m) (λ e. differ (sym (sym (variable_of-opposite l) ∙ (e ∙ variable_of-opposite m)))) in
          ap (λ t. t || is_same (opposite l) (opposite m)) first ∙ (second ∙ sym found)
    ]

by_twos : (a b c d : Bool) → ((a || b) || (c || d)) ≡ ((a || c) || (b || d))
by_twos true b c d = refl
by_twos false true true d = refl
by_twos false true false d = refl
by_twos false false c d = refl

-- a literal or its opposite is among opposites: another of its variable is
pub met_before : (earlier : List SatLit) (l : SatLit) → (is_true (map opposite earlier) l || is_false (map opposite earlier) l) ≡ list_any (λ m. variable_of m == variable_of l) earlier
met_before [] l = refl
met_before (m ∷ earlier) l =
    by_twos (is_same l (opposite m)) (is_true (map opposite earlier) l) (is_same (opposite l) (opposite m)) (is_false (map opposite earlier) l)
    ∙ (ap (λ t. t || (is_true (map opposite earlier) l || is_false (map opposite earlier) l)) (same_variable l m) ∙ ap (λ t. (variable_of m == variable_of l) || t) (met_before earlier l))

symmetric : (a b : ℕ) → (a == b) ≡ (b == a)
symmetric a b =
    elim (eqb_tells a b) [
      | inl (found, e) ↦ found ∙ sym (eq-eqb b a (sym e))
      | inr (found, differ) ↦ elim (eqb_tells b a) [ inl (other, e) ↦ absurd (differ (sym e)) | inr (other, e) ↦ found ∙ sym other ]
    ]

-- one literal more that others may meet
one_earlier : (a s r t : Bool) → ((a || (s || false)) || (r || t)) ≡ ((a || r) || (s || t))
one_earlier true s r t = refl
one_earlier false true true t = refl
one_earlier false true false t = refl
one_earlier false false r t = refl

any_earlier : (earlier : List SatLit) (l : SatLit) (left : List SatLit) → list_any (λ x. list_any (λ m. variable_of m == variable_of x) (earlier ++ l ∷ [])) left ≡ (list_any (λ x. list_any (λ m. variable_of m == variable_of x) earlier) left || list_any (λ x. variable_of x == variable_of l) left)
any_earlier earlier l [] = refl
any_earlier earlier l (x ∷ left) =
    let before = list_any (λ m. variable_of m == variable_of x) earlier in
    let rest = list_any (λ x. list_any (λ m. variable_of m == variable_of x) earlier) left in
    let later = list_any (λ x. variable_of x == variable_of l) left in
    ap (λ t. t || list_any (λ x. list_any (λ m. variable_of m == variable_of x) (earlier ++ l ∷ [])) left) (list_any-append (λ m. variable_of m == variable_of x) earlier (l ∷ []))
    ∙ (ap (λ t. (before || ((variable_of l == variable_of x) || false)) || t) (any_earlier earlier l left)
    ∙ (one_earlier before (variable_of l == variable_of x) rest later ∙ ap (λ t. (before || rest) || (t || later)) (symmetric (variable_of l) (variable_of x))))

in_order : (a b c d : Bool) → (a || ((b || c) || d)) ≡ ((a || b) || (c || d))
in_order true b c d = refl
in_order false true c d = refl
in_order false false c d = refl

-- the two ways to look for a variable that stands twice
twice_either : (earlier left : List SatLit) → twice_after earlier left ≡ (list_any (λ l. list_any (λ m. variable_of m == variable_of l) earlier) left || repeats_variable left)
twice_either earlier [] = refl
twice_either earlier (l ∷ left) =
    let before = list_any (λ m. variable_of m == variable_of l) earlier in
    let rest = list_any (λ x. list_any (λ m. variable_of m == variable_of x) earlier) left in
    let later = list_any (λ x. variable_of x == variable_of l) left in
    ap (λ t. before || t) (twice_either (earlier ++ l ∷ []) left ∙ ap (λ t. t || repeats_variable left) (any_earlier earlier l left)) ∙ in_order before rest later (repeats_variable left)

pub twice_in_all : (clause : List SatLit) → twice_after [] clause ≡ repeats_variable clause
twice_in_all clause = twice_either [] clause ∙ ap (λ t. t || repeats_variable clause) (list_any_none (λ (l : SatLit). false) clause (λ _ _ _. refl))

-- a literal whose variable has a bit already
pub found_twice : (old now : Made) (clause : List SatLit) (k : ℕ) (d : SatLit) → IsNegated old now clause k → k < length clause → (is_true now.made (slice_index_or clause k d) || is_false now.made (slice_index_or clause k d)) ≡ true → repeats_variable clause ≡ true
found_twice old now clause k d is within met =
    let l = slice_index_or clause k d in
    let before : list_any (λ m. variable_of m == variable_of l) (take k clause) ≡ true = sym (met_before (take k clause) l) ∙ (ap (λ ms. is_true ms l || is_false ms l) (sym is.made) ∙ met) in
    sym is.twice ∙ (ap (twice_after (take k clause)) (drop-cons clause k d within) ∙ ap (λ t. t || twice_after (take k clause ++ l ∷ []) (drop (suc k) clause)) before)

-- one literal more was made false
pub one_more_negated : (old now new : Made) (clause : List SatLit) (k : ℕ) (d : SatLit) → IsNegated old now clause k → k < length clause → (is_true now.made (slice_index_or clause k d) || is_false now.made (slice_index_or clause k d)) ≡ false → new.variables ≡ now.variables → new.made ≡ now.made ++ opposite (slice_index_or clause k d) ∷ [] → IsNegated old new clause (suc k)
one_more_negated old now new clause k d is within free variables made =
    let l = slice_index_or clause k d in
    let first : take (suc k) clause ≡ take k clause ++ l ∷ [] = take-suc clause k d within in
    let before : list_any (λ m. variable_of m == variable_of l) (take k clause) ≡ false = sym (met_before (take k clause) l) ∙ (ap (λ ms. is_true ms l || is_false ms l) (sym is.made) ∙ free) in
    record {
      variables = variables ∙ is.variables;
      made = made ∙ (ap (λ ms. ms ++ opposite l ∷ []) is.made ∙ (sym (map-append opposite (take k clause) (l ∷ [])) ∙ ap (map opposite) (sym first)));
      twice =
          ap (λ xs. twice_after xs (drop (suc k) clause)) first
          ∙ (sym (ap (twice_after (take k clause)) (drop-cons clause k d within) ∙ ap (λ t. t || twice_after (take k clause ++ l ∷ []) (drop (suc k) clause)) before) ∙ is.twice);
    }
