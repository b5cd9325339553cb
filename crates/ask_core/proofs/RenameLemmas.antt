-- A derivation whose variables are renamed apart is a derivation.
use Rattle.std.proofs.Common.{◌≡◌, ℕ, ◌<◌, ◌==◌, ◌&&◌, ◌||◌, not, cond, Bool, true, false, List, [], ◌∷◌, ◌++◌, length, map, All, None, Some, slice_index_or, inl, inr, refl, sym, ◌∙◌, ap, subst, arith}
use Rattle.std.specs.List.{list_any, list_all}
use Rattle.std.proofs.lemmas.Bool.{cases_lt, le-ltb, lt-ltb}
use Rattle.std.proofs.lemmas.List.{map-append}
use Rattle.std.proofs.lemmas.List.Elements.{All-filter, All-head, All-map, All-push, All-tail}
use Rattle.cnf_core.specs.declared.literal.SatLit.{SatLit}
use Rattle.cnf_core.specs.declared.effect.Effect.{Effect}
use Rattle.cnf_core.specs.declared.effect.Effect.TheVariants.{Conflict, Makes, Neither}
use Rattle.cnf_core.specs.declared.fault.LineFault.TheVariants as fault
use Rattle.cnf_core.specs.Clauses.{clause_at, is_met, literal_bit, opposite, variable_of, AreKnown}
use Rattle.cnf_core.specs.Derivations.{effect_by, effect_of, fault_after, hint_fault, is_false, is_same, is_true, repeats_variable, has_all}
use Rattle.learn_solver.proofs.PlaceLemmas.{variable_of-opposite}
use Rattle.cnf_core.proofs.EffectLemmas.{open_ones}

-- Literals over the first n variables are renamed apart, each with its sign.
pub record Renames (n : ℕ) (r : SatLit → SatLit) : Type 0 where
  pub turned : (l : SatLit) → opposite (r l) ≡ r (opposite l)
  pub same : (l m : SatLit) → variable_of l < n → variable_of m < n → is_same (r l) (r m) ≡ is_same l m
  pub apart : (l m : SatLit) → variable_of l < n → variable_of m < n → (variable_of (r l) == variable_of (r m)) ≡ (variable_of l == variable_of m)

known-opposite : (n : ℕ) (l : SatLit) → variable_of l < n → variable_of (opposite l) < n
known-opposite n l below = omega (arith, below, variable_of-opposite l)

true_renamed : (n : ℕ) (r : SatLit → SatLit) → Renames n r → (made : List SatLit) (l : SatLit) → AreKnown n made → variable_of l < n → is_true (map r made) (r l) ≡ is_true made l
true_renamed n r is [] l known below = refl
true_renamed n r is (m ∷ made) l known below =
    ap (λ b. b || list_any (is_same (r l)) (map r made)) (is.same l m below (All-head (λ (x : SatLit). variable_of x < n) m made known))
    ∙ ap (λ b. is_same l m || b) (true_renamed n r is made l (All-tail (λ (x : SatLit). variable_of x < n) m made known) below)

false_renamed : (n : ℕ) (r : SatLit → SatLit) → Renames n r → (made : List SatLit) (l : SatLit) → AreKnown n made → variable_of l < n → is_false (map r made) (r l) ≡ is_false made l
false_renamed n r is made l known below =
    ap (is_true (map r made)) (is.turned l) ∙ true_renamed n r is made (opposite l) known (known-opposite n l below)

open_renamed : (n : ℕ) (r : SatLit → SatLit) → Renames n r → (made clause : List SatLit) → AreKnown n made → AreKnown n clause → open_ones (map r made) (map r clause) ≡ map r (open_ones made clause)
open_renamed n r is made [] known below = refl
open_renamed n r is made (l ∷ clause) known below =
    let here = false_renamed n r is made l known (All-head (λ (x : SatLit). variable_of x < n) l clause below) in
    let rest = open_renamed n r is made clause known (All-tail (λ (x : SatLit). variable_of x < n) l clause below) in
    ap (λ b. cond (not b) (r l ∷ open_ones (map r made) (map r clause)) (open_ones (map r made) (map r clause))) here
    ∙ (ap (λ ls. cond (not (is_false made l)) (r l ∷ ls) ls) rest ∙ by_test (not (is_false made l)))
  where
    by_test : (b : Bool) → cond b (r l ∷ map r (open_ones made clause)) (map r (open_ones made clause)) ≡ map r (cond b (l ∷ open_ones made clause) (open_ones made clause))
    by_test true = refl
    by_test false = refl

abbrev moved : (SatLit → SatLit) → Effect → Effect
moved r Conflict = Conflict
moved r (Makes l) = Makes (r l)
moved r Neither = Neither

alone_renamed : (n : ℕ) (r : SatLit → SatLit) → Renames n r → (l : SatLit) (others : List SatLit) → variable_of l < n → AreKnown n others → list_all (is_same (r l)) (map r others) ≡ list_all (is_same l) others
alone_renamed n r is l [] below known = refl
alone_renamed n r is l (m ∷ others) below known =
    ap (λ b. b && list_all (is_same (r l)) (map r others)) (is.same l m below (All-head (λ (x : SatLit). variable_of x < n) m others known))
    ∙ ap (λ b. is_same l m && b) (alone_renamed n r is l others below (All-tail (λ (x : SatLit). variable_of x < n) m others known))

by_renamed : (n : ℕ) (r : SatLit → SatLit) → Renames n r → (made ones : List SatLit) → AreKnown n made → AreKnown n ones → effect_by (map r made) (map r ones) ≡ moved r (effect_by made ones)
by_renamed n r is made [] known below = refl
by_renamed n r is made (l ∷ others) known below =
    let own = All-head (λ (x : SatLit). variable_of x < n) l others below in
    let alone = alone_renamed n r is l others own (All-tail (λ (x : SatLit). variable_of x < n) l others below) in
    ap (λ b. cond (b && not (is_true (map r made) (r l))) (Makes (r l)) Neither) alone
    ∙ (ap (λ b. cond (list_all (is_same l) others && not b) (Makes (r l)) Neither) (true_renamed n r is made l known own) ∙ by_test (list_all (is_same l) others && not (is_true made l)))
  where
    by_test : (b : Bool) → cond b (Makes (r l)) Neither ≡ moved r (cond b (Makes l) Neither)
    by_test true = refl
    by_test false = refl

-- what is left of known literals is known
open_known : (n : ℕ) (made clause : List SatLit) → AreKnown n clause → AreKnown n (open_ones made clause)
open_known n made clause known = All-filter (λ l. not (is_false made l)) (λ (x : SatLit). variable_of x < n) clause known

effect_renamed : (n : ℕ) (r : SatLit → SatLit) → Renames n r → (made clause : List SatLit) → AreKnown n made → AreKnown n clause → effect_of (map r made) (map r clause) ≡ moved r (effect_of made clause)
effect_renamed n r is made clause known below =
    ap (effect_by (map r made)) (open_renamed n r is made clause known below) ∙ by_renamed n r is made (open_ones made clause) known (open_known n made clause below)

-- a literal that is made is one of the clause
makes_known : (n : ℕ) (made ones : List SatLit) (l : SatLit) → AreKnown n ones → effect_by made ones ≡ Makes l → variable_of l < n
makes_known n made [] l known e = absurd (let x : Conflict ≡ Makes l = e in cc)
makes_known n made (m ∷ others) l known e = by_test (list_all (is_same m) others && not (is_true made m)) e
  where
    by_test : (b : Bool) → cond b (Makes m) Neither ≡ Makes l → variable_of l < n
    by_test true goes = let same : m ≡ l = cc in subst (λ (x : SatLit). variable_of x < n) same (All-head (λ (x : SatLit). variable_of x < n) m others known)
    by_test false goes = absurd (let x : Neither ≡ Makes l = goes in cc)

-- hints go through where their clauses are renamed
pub hints_renamed : (n : ℕ) (r : SatLit → SatLit) → Renames n r → (clauses all : List (List SatLit)) (number : ℕ → ℕ) → All (AreKnown n) clauses → ((k : ℕ) → k < length clauses → (number k < length all) × (clause_at all (number k) ≡ map r (clause_at clauses k))) → (made : List SatLit) (steps : List ℕ) → AreKnown n made → hint_fault clauses made steps ≡ None → hint_fault all (map r made) (map number steps) ≡ None
hints_renamed n r is clauses all number within each made [] known e = e
hints_renamed n r is clauses all number within each made (s ∷ steps) known e =
    elim (cases_lt s (length clauses)) [
      | inr late ↦ let found = le-ltb s (length clauses) late in absurd (let x : Some fault.UnknownHint ≡ None = sym (ap (λ b. cond b (fault_after (effect_of made (clause_at clauses s)) steps (λ m. hint_fault clauses (made ++ m ∷ []) steps)) (Some fault.UnknownHint)) found) ∙ e in cc)
      | inl low ↦
          let found = lt-ltb s (length clauses) low in
          let there = each s low in
          let here : AreKnown n (clause_at clauses s) = within s [] low in
          let after = sym (ap (λ b. cond b (fault_after (effect_of made (clause_at clauses s)) steps (λ m. hint_fault clauses (made ++ m ∷ []) steps)) (Some fault.UnknownHint)) found) ∙ e in
          ap (λ b. cond b (fault_after (effect_of (map r made) (clause_at all (number s))) (map number steps) (λ m. hint_fault all (map r made ++ m ∷ []) (map number steps))) (Some fault.UnknownHint)) (lt-ltb (number s) (length all) there.0)
          ∙ (ap (λ c. fault_after (effect_of (map r made) c) (map number steps) (λ m. hint_fault all (map r made ++ m ∷ []) (map number steps))) there.1
          ∙ (ap (λ f. fault_after f (map number steps) (λ m. hint_fault all (map r made ++ m ∷ []) (map number steps))) (effect_renamed n r is made (clause_at clauses s) known here)
          ∙ by_effect (effect_of made (clause_at clauses s)) steps (λ m made_is left. ap (λ ls. hint_fault all ls (map number steps)) (sym (map-append r made (m ∷ []))) ∙ hints_renamed n r is clauses all number within each (made ++ m ∷ []) steps (All-push (λ (x : SatLit). variable_of x < n) made m known (makes_known n made (open_ones made (clause_at clauses s)) m (open_known n made (clause_at clauses s) here) made_is)) left) after))
    ]
  where
    by_effect : (effect : Effect) (left : List ℕ) → ((m : SatLit) → effect ≡ Makes m → hint_fault clauses (made ++ m ∷ []) steps ≡ None → hint_fault all (map r made ++ r m ∷ []) (map number steps) ≡ None) → fault_after effect left (λ m. hint_fault clauses (made ++ m ∷ []) steps) ≡ None → fault_after (moved r effect) (map number left) (λ m. hint_fault all (map r made ++ m ∷ []) (map number steps)) ≡ None
    by_effect Conflict [] rest goes = refl
    by_effect Conflict (x ∷ left) rest goes = absurd (let y : Some fault.AfterConflict ≡ None = goes in cc)
    by_effect (Makes m) left rest goes = rest m refl goes
    by_effect Neither left rest goes = absurd (let y : Some fault.NotUnit ≡ None = goes in cc)

-- the opposites of a renamed clause
pub opposites_renamed : (n : ℕ) (r : SatLit → SatLit) → Renames n r → (clause : List SatLit) → map opposite (map r clause) ≡ map r (map opposite clause)
opposites_renamed n r is [] = refl
opposites_renamed n r is (l ∷ clause) = ap (λ m. m ∷ map opposite (map r clause)) (is.turned l) ∙ ap (λ ls. r (opposite l) ∷ ls) (opposites_renamed n r is clause)

pub opposites_known : (n : ℕ) (clause : List SatLit) → AreKnown n clause → AreKnown n (map opposite clause)
opposites_known n clause known = All-map (λ (x : SatLit). variable_of x < n) opposite clause (λ k d below. known-opposite n (slice_index_or clause k d) (known k d below))

-- no variable is repeated where none was
one_renamed : (n : ℕ) (r : SatLit → SatLit) → Renames n r → (l : SatLit) (others : List SatLit) → variable_of l < n → AreKnown n others → list_any (λ m. variable_of m == variable_of (r l)) (map r others) ≡ list_any (λ m. variable_of m == variable_of l) others
one_renamed n r is l [] below known = refl
one_renamed n r is l (m ∷ others) below known =
    ap (λ b. b || list_any (λ x. variable_of x == variable_of (r l)) (map r others)) (is.apart m l (All-head (λ (x : SatLit). variable_of x < n) m others known) below)
    ∙ ap (λ b. (variable_of m == variable_of l) || b) (one_renamed n r is l others below (All-tail (λ (x : SatLit). variable_of x < n) m others known))

pub once_renamed : (n : ℕ) (r : SatLit → SatLit) → Renames n r → (clause : List SatLit) → AreKnown n clause → repeats_variable (map r clause) ≡ repeats_variable clause
once_renamed n r is [] known = refl
once_renamed n r is (l ∷ others) known =
    let rest = All-tail (λ (x : SatLit). variable_of x < n) l others known in
    ap (λ b. b || repeats_variable (map r others)) (one_renamed n r is l others (All-head (λ (x : SatLit). variable_of x < n) l others known) rest)
    ∙ ap (λ b. list_any (λ m. variable_of m == variable_of l) others || b) (once_renamed n r is others rest)

-- a clause has all literals of another exactly where it has them renamed
pub has_all_renamed : (n : ℕ) (r : SatLit → SatLit) → Renames n r → (clause other : List SatLit) → AreKnown n clause → AreKnown n other → has_all (map r clause) (map r other) ≡ has_all clause other
has_all_renamed n r is clause [] known below = refl
has_all_renamed n r is clause (l ∷ other) known below =
    ap (λ b. b && list_all (is_true (map r clause)) (map r other)) (true_renamed n r is clause l known (All-head (λ (x : SatLit). variable_of x < n) l other below))
    ∙ ap (λ b. is_true clause l && b) (has_all_renamed n r is clause other known (All-tail (λ (x : SatLit). variable_of x < n) l other below))

-- a clause is met exactly where it is met renamed, where each variable has the bit of the one that it stands for
pub met_renamed : (n : ℕ) (r : SatLit → SatLit) (values full : List Bool) → ((l : SatLit) → variable_of l < n → literal_bit full (r l) ≡ literal_bit values l) → (clause : List SatLit) → AreKnown n clause → is_met full (map r clause) ≡ is_met values clause
met_renamed n r values full same [] known = refl
met_renamed n r values full same (l ∷ clause) known =
    ap (λ b. b || list_any (literal_bit full) (map r clause)) (same l (All-head (λ (x : SatLit). variable_of x < n) l clause known))
    ∙ ap (λ b. literal_bit values l || b) (met_renamed n r values full same clause (All-tail (λ (x : SatLit). variable_of x < n) l clause known))
