-- How many lines can be learned over n variables: each is another clause without a repeated variable, and there are 3^n of these.
use Rattle.std.proofs.Common.{◌≡◌, ◌≢◌, ℕ, zero, suc, ◌+◌, ◌-◌, ◌*◌, ◌^◌, ◌<◌, ◌≤◌, ◌==◌, ◌⊎◌, eqb, cond, not, Bool, true, false, List, [], ◌∷◌, length, map, drop, take, All, AllPairs, slice_index_or, inl, inr, refl, sym, ◌∙◌, ap, subst, arith}
use native.Mathlib.Nat.{pow-suc}
use Rattle.std.specs.List.{IsDistinct, list_any, list_all}
use Rattle.std.proofs.lemmas.Bool.{cases_eq, cases_Bool, both_ways, eq-eqb, eqb-true, false≢true, false_from_ne_true, or_cases, or_left, or_parts, or_right}
use Rattle.std.proofs.lemmas.List.{get_or-append-add, get_or-drop, get_or-map, get_or-take, length-append, length-drop, length-map, length-take}
use Rattle.std.proofs.lemmas.List.Folds.{list_any_at}
use Rattle.std.proofs.lemmas.List.Recursion.{and_from_places}
use Rattle.std.proofs.lemmas.List.Elements.{All-contains}
use Rattle.std.proofs.lemmas.Map.Views.{Contains-from_any}
use Rattle.std.proofs.lemmas.Map.Made.{IsDistinct-from_AllPairs}
use Rattle.std.proofs.lemmas.Map.Steps.{length-le_from_distinct_below}
use Rattle.cnf_core.specs.declared.literal.SatLit.{SatLit}
use Rattle.cnf_core.specs.declared.log.LogLine.{LogLine}
use Rattle.cnf_core.specs.declared.stop.Stop.{Stop}
use Rattle.cnf_core.specs.declared.stop.Stop.TheVariants.{Spent, Memory}
use Rattle.cnf_core.specs.Charges.{Charging}
use Rattle.cnf_core.specs.Clauses.{is_negated, literal_of, variable_of, AreKnown}
use Rattle.cnf_core.specs.Derivations.{clauses_of, is_same, is_true, repeats_variable, has_all, no_line}
use Rattle.cnf_core.proofs.LiteralLemmas.{itself, same_itself, same_literal, no_literal}
use Rattle.learn_solver.specs.Solvers.{IsBoundedStop, IsExtended, IsStopped, Solving, wanted}
use Rattle.learn_solver.proofs.SolverLemmas.{line_known, line_says}

-- a variable's digit in base 3: 1 where the clause has it, 2 where it has its opposite, else 0
abbrev digit_by : Bool → Bool → ℕ
digit_by plain negated = cond plain 1 (cond negated 2 0)

abbrev digit : List SatLit → ℕ → ℕ
digit clause v = digit_by (is_true clause (literal_of v true)) (is_true clause (literal_of v false))

digit_small : (plain negated : Bool) → digit_by plain negated < 3
digit_small true negated = omega arith
digit_small false true = omega arith
digit_small false false = omega arith

-- the number of a clause over n variables
abbrev number_of : ℕ → List SatLit → ℕ
number_of zero clause = 0
number_of (suc n) clause = 3 * number_of n clause + digit clause n

number_below : (n : ℕ) (clause : List SatLit) → number_of n clause < 3 ^ n
number_below zero clause = omega arith
number_below (suc n) clause = omega (arith, number_below n clause, pow-suc 3 n, digit_small (is_true clause (literal_of n true)) (is_true clause (literal_of n false)))

same_digits : (n : ℕ) (c d : List SatLit) → number_of n c ≡ number_of n d → (v : ℕ) → v < n → digit c v ≡ digit d v
same_digits zero c d same v low = absurd (omega (arith, low))
same_digits (suc n) c d same v low =
    let equal : 3 * number_of n c + digit c n ≡ 3 * number_of n d + digit d n = same in
    let small = digit_small (is_true c (literal_of n true)) (is_true c (literal_of n false)) in
    let small_too = digit_small (is_true d (literal_of n true)) (is_true d (literal_of n false)) in
    elim (cases_eq v n) [
      | inl last ↦ subst (λ w. digit c w ≡ digit d w) (sym last) (omega (arith, equal, small, small_too))
      | inr other ↦ same_digits n c d (omega (arith, equal, small, small_too)) v (omega (arith, low, other))
    ]

-- a literal is its variable's, plain or negated
plain_or_negated : (l : SatLit) → (l ≡ literal_of (variable_of l) true) ⊎ (l ≡ literal_of (variable_of l) false)
plain_or_negated l = elim (cases_Bool (is_negated l)) [
  | inl negated ↦ inr (sym (ap (λ (b : Bool). literal_of (variable_of l) (not b)) (sym negated) ∙ itself l))
  | inr plain ↦ inl (sym (ap (λ (b : Bool). literal_of (variable_of l) (not b)) (sym plain) ∙ itself l))
]

-- a clause without a repeated variable doesn't have two literals of one
has_variable : (clause : List SatLit) (l : SatLit) (v : ℕ) → variable_of l ≡ v → is_true clause l ≡ true → list_any (λ other. variable_of other == v) clause ≡ true
has_variable [] l v is found = found
has_variable (m ∷ clause) l v is found = elim (or_cases (is_same l m) (is_true clause l) found) [
  | inl here ↦ or_left (variable_of m == v) (list_any (λ other. variable_of other == v) clause) (eq-eqb (variable_of m) v (ap variable_of (sym (same_literal l m here)) ∙ is))
  | inr following ↦ or_right (variable_of m == v) (list_any (λ other. variable_of other == v) clause) (has_variable clause l v is following)
]

one_of_each : (clause : List SatLit) (a b : SatLit) → repeats_variable clause ≡ false → variable_of a ≡ variable_of b → is_true clause a ≡ true → is_true clause b ≡ true → a ≡ b
one_of_each [] a b once same found found_too = absurd (false≢true found)
one_of_each (m ∷ clause) a b once same found found_too =
    let parts = or_parts (list_any (λ other. variable_of other == variable_of m) clause) (repeats_variable clause) once in
    let again : (l : SatLit) → variable_of l ≡ variable_of m → is_true clause l ≡ true → ⊥ = λ l is there. both_ways (list_any (λ other. variable_of other == variable_of m) clause) parts.0 (has_variable clause l (variable_of m) is there) in
    elim (or_cases (is_same a m) (is_true clause a) found) [
      | inl here ↦ elim (or_cases (is_same b m) (is_true clause b) found_too) [
        | inl here_too ↦ same_literal a m here ∙ sym (same_literal b m here_too)
        | inr following ↦ absurd (again b (sym same ∙ ap variable_of (same_literal a m here)) following)
      ]
      | inr following ↦ elim (or_cases (is_same b m) (is_true clause b) found_too) [
        | inl here ↦ absurd (again a (same ∙ ap variable_of (same_literal b m here)) following)
        | inr after_too ↦ one_of_each clause a b parts.1 same following after_too
      ]
    ]

-- what a digit says of a clause
digit_one : (plain negated : Bool) → digit_by plain negated ≡ 1 → plain ≡ true
digit_one true negated e = refl
digit_one false true e = absurd (omega (arith, e))
digit_one false false e = absurd (omega (arith, e))

digit_two : (plain negated : Bool) → digit_by plain negated ≡ 2 → negated ≡ true
digit_two true negated e = absurd (omega (arith, e))
digit_two false true e = refl
digit_two false false e = absurd (omega (arith, e))

-- clauses of one number have the same literals
has_same : (n : ℕ) (c d : List SatLit) → number_of n c ≡ number_of n d → AreKnown n d → repeats_variable d ≡ false → has_all c d ≡ true
has_same n c d same known once = and_from_places (list_all (is_true c)) (is_true c) refl (λ _ _. refl) d no_literal each
  where
    by_sign : (l : SatLit) → variable_of l < n → is_true d l ≡ true → (l ≡ literal_of (variable_of l) true) ⊎ (l ≡ literal_of (variable_of l) false) → is_true c l ≡ true
    by_sign l low there (inl plain) =
        let v = variable_of l in
        let here : is_true d (literal_of v true) ≡ true = ap (is_true d) (sym plain) ∙ there in
        let one : digit d v ≡ 1 = ap (λ b. digit_by b (is_true d (literal_of v false))) here in
        ap (is_true c) plain ∙ digit_one (is_true c (literal_of v true)) (is_true c (literal_of v false)) (same_digits n c d same v low ∙ one)
    by_sign l low there (inr negated) =
        let v = variable_of l in
        let here : is_true d (literal_of v false) ≡ true = ap (is_true d) (sym negated) ∙ there in
        let none : is_true d (literal_of v true) ≡ false = false_from_ne_true (is_true d (literal_of v true)) (λ too.
        let one_variable : variable_of (literal_of v true) ≡ variable_of (literal_of v false) = omega arith in
        let numbers : 2 * v ≡ 2 * v + 1 = ap (λ (m : SatLit). m.0) (one_of_each d (literal_of v true) (literal_of v false) once one_variable too here) in
        omega (arith, numbers)) in
        let two : digit d v ≡ 2 = ap (λ b. digit_by b (is_true d (literal_of v false))) none ∙ ap (λ b. digit_by false b) here in
        ap (is_true c) negated ∙ digit_two (is_true c (literal_of v true)) (is_true c (literal_of v false)) (same_digits n c d same v low ∙ two)

    each : (k : ℕ) → k < length d → is_true c (slice_index_or d k no_literal) ≡ true
    each k within =
        let l = slice_index_or d k no_literal in
        by_sign l (known k no_literal within) (list_any_at (is_same l) d k no_literal within (same_itself l)) (plain_or_negated l)

abbrev pub line_at : List LogLine → ℕ → LogLine
line_at lines k = slice_index_or lines k no_line

-- Lines from one on that are clauses over n variables, each unlike those before.
pub record AreUnlike (n first : ℕ) (lines : List LogLine) : Type 0 where
  pub known : (k : ℕ) → first ≤ k → k < length lines → AreKnown n (line_at lines k).clause
  pub once : (k : ℕ) → first ≤ k → k < length lines → repeats_variable (line_at lines k).clause ≡ false
  pub unlike : (j k : ℕ)
      → first ≤ j
      → j < k
      → k < length lines
      → has_all (line_at lines k).clause (line_at lines j).clause ≡ false

abbrev line_number : ℕ → LogLine → ℕ
line_number n line = number_of n line.clause

abbrev numbers_from : ℕ → ℕ → List LogLine → List ℕ
numbers_from n first lines = map (line_number n) (drop first lines)

length-numbers_from : (n first : ℕ) (lines : List LogLine) → length (numbers_from n first lines) ≡ length lines - first
length-numbers_from n first lines = length-map (drop first lines) (line_number n) ∙ length-drop first lines

number_at : (n first : ℕ) (lines : List LogLine) (k d : ℕ) → k < length (numbers_from n first lines) → slice_index_or (numbers_from n first lines) k d ≡ number_of n (line_at lines (first + k)).clause
number_at n first lines k d within =
    get_or-map (line_number n) (drop first lines) k no_line d (omega (arith, within, length-map (drop first lines) (line_number n)))
    ∙ ap (line_number n) (get_or-drop first lines k no_line)

numbers_below : (n first : ℕ) (lines : List LogLine) → All (λ x. x < 3 ^ n) (numbers_from n first lines)
numbers_below n first lines k d within = subst (λ x. x < 3 ^ n) (sym (number_at n first lines k d within)) (number_below n (line_at lines (first + k)).clause)

numbers_apart : (n first : ℕ) (lines : List LogLine) → AreUnlike n first lines → AllPairs (λ x y. x ≢ y) (numbers_from n first lines)
numbers_apart n first lines are i j d order within same =
    let size = length-numbers_from n first lines in
    let j_there : first + j < length lines = omega (arith, within, size) in
    let i_there : first + i < length lines = omega (arith, order, j_there) in
    let equal : number_of n (line_at lines (first + j)).clause ≡ number_of n (line_at lines (first + i)).clause = sym (number_at n first lines j d within) ∙ (sym same ∙ number_at n first lines i d (omega (arith, order, within))) in
    let all = has_same n (line_at lines (first + j)).clause (line_at lines (first + i)).clause equal (are.known (first + i) (omega arith) i_there) (are.once (first + i) (omega arith) i_there) in
    both_ways (has_all (line_at lines (first + j)).clause (line_at lines (first + i)).clause) (are.unlike (first + i) (first + j) (omega arith) (omega (arith, order)) j_there) all

-- there are at most 3^n of them
pub few_lines : (n first : ℕ) (lines : List LogLine) → AreUnlike n first lines → length lines ≤ first + 3 ^ n
few_lines n first lines are =
    let xs = numbers_from n first lines in
    let distinct : IsDistinct eqb xs = IsDistinct-from_AllPairs (λ a b. (eqb-true a b, eq-eqb a b)) xs (numbers_apart n first lines are) in
    let few = length-le_from_distinct_below xs (3 ^ n) distinct (λ q found. All-contains (λ x. x < 3 ^ n) xs q (numbers_below n first lines) (Contains-from_any (λ x y same. eqb-true x y same) q xs found)) in
    omega (arith, few, length-numbers_from n first lines)

-- a line that has all the literals of none of the earlier lines, at one of these
pub unlike_at : (lines : List LogLine) (clause : List SatLit) (k j : ℕ) → j < k → k < length lines → All (λ other. has_all clause other ≡ false) (clauses_of (take k lines)) → has_all clause (line_at lines j).clause ≡ false
unlike_at lines clause k j order within all =
    let g : LogLine → List SatLit = λ line. line.clause in
    let there : j < length (take k lines) = omega (arith, length-take k lines, order, within) in
    let inside : j < length (clauses_of (take k lines)) = omega (arith, there, length-map (take k lines) g) in
    let at = get_or-map g (take k lines) j no_line [] there ∙ ap g (get_or-take k lines j no_line order) in
    ap (has_all clause) (sym at) ∙ all j [] inside

-- each line that a solver added is unlike those before
added_unlike : {O : Type 0} (old new : Solving) (before after : Charging O) → IsExtended old new before after → AreUnlike old.formula.variables (length old.lines) new.lines
added_unlike {O} old new before after extended = record {
  known = λ k late within. line_known old.formula (clauses_of (take k new.lines)) (line_at new.lines k) (extended.added k no_line late within).derived;
  once = λ k late within. (line_says old.formula (clauses_of (take k new.lines)) (line_at new.lines k) (extended.added k no_line late within).derived).once;
  unlike = λ j k early order within.
      let xs = wanted old.formula old.ids in
      let ys = clauses_of (take k new.lines) in
      let clause = (line_at new.lines k).clause in
      let P : List SatLit → Type 0 = λ other. has_all clause other ≡ false in
      let fresh = (extended.added k no_line (omega (arith, early, order)) within).fresh in
      unlike_at new.lines clause k j order within (λ i d inside. subst P (get_or-append-add xs ys i d) (fresh (length xs + i) d (omega (arith, inside, length-append xs ys))));
}

pub bounded_by : {O : Type 0} (old new : Solving) (before after : Charging O) → IsExtended old new before after → after.made ≤ before.made + 3 ^ old.formula.variables
bounded_by {O} old new before after extended = omega (arith, few_lines old.formula.variables (length old.lines) new.lines (added_unlike old new before after extended), extended.counted, extended.longer)

-- so it is where the budget is spent
pub bounded_stop : {O : Type 0} (old new : Solving) (before after : Charging O) (stop : Stop) → IsStopped old new before after stop → IsBoundedStop old.formula.variables before after stop
bounded_stop {O} old new before after Memory stopped = tt
bounded_stop {O} old new before after (Spent learned) stopped = bounded_by old new before after stopped.extended
