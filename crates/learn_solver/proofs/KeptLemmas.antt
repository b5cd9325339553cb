-- The marked literals before a place, and the clause of their opposites.
use Rattle.std.proofs.Common.{◌≡◌, ℕ, ◌+◌, ◌<◌, ◌&&◌, cond, Bool, true, false, List, [], ◌∷◌, ◌++◌, length, map, slice_index_or, inl, inr, sym, ◌∙◌, ap, arith}
use Rattle.std.proofs.lemmas.Bool.{and_from, and_parts, or_cases, or_left, or_right}
use Rattle.std.proofs.lemmas.List.{append-nil, get_or-map, length-map, map-append}
use Rattle.std.proofs.lemmas.List.Elements.{filter_more}
use Rattle.std.proofs.lemmas.List.Folds.{map_fixed}
use Rattle.std.proofs.lemmas.Map.Views.{any-filter_same}
use Rattle.std.proofs.lemmas.Simd.{map-map}
use Rattle.circuits.specs.Literals.{bit}
use Rattle.cnf_core.specs.declared.literal.SatLit.{SatLit}
use Rattle.cnf_core.specs.Clauses.{opposite, variable_of}
use Rattle.cnf_core.specs.Derivations.{is_same, is_true}
use Rattle.trail_core.specs.declared.assigned.Assigned.{Assigned}
use Rattle.trail_core.specs.Trails.{entry_at, literals, nothing}
use Rattle.watch_lists.specs.Propagations.{before}
use Rattle.learn_solver.specs.Analyses.{is_marked, kept_literals}
use Rattle.watch_lists.proofs.EffectLemmas.{same_itself, same_literal}
use Rattle.learn_solver.proofs.PlaceLemmas.{opposite_twice, stands, true_before}
use Rattle.cnf_core.proofs.LiteralLemmas.{no_literal}

-- one literal further
kept_more : (es : List Assigned) (marked : List Bool) (p : ℕ) → p < length es → kept_literals es marked (p + 1) ≡ kept_literals es marked p ++ cond (is_marked marked (entry_at es p)) ((entry_at es p).literal ∷ []) []
kept_more es marked p within =
    let test : SatLit → Bool = λ l. bit marked (variable_of l) in
    let inside : p < length (literals es) = omega (arith, within, length-map es (λ (x : Assigned). x.literal)) in
    let there = get_or-map (λ (x : Assigned). x.literal) es p nothing no_literal within in
    filter_more test (literals es) p no_literal inside ∙ ap (λ l. kept_literals es marked p ++ cond (test l) (l ∷ []) []) there

pub negated_yes : (es : List Assigned) (marked : List Bool) (p : ℕ) (clause : List SatLit) → p < length es → is_marked marked (entry_at es p) ≡ true → clause ≡ map opposite (kept_literals es marked p) → clause ++ opposite (entry_at es p).literal ∷ [] ≡ map opposite (kept_literals es marked (p + 1))
negated_yes es marked p clause within passes is =
    ap (λ (c : List SatLit). c ++ opposite (entry_at es p).literal ∷ []) is
    ∙ sym (ap (map opposite) (kept_more es marked p within ∙ ap (λ b. kept_literals es marked p ++ cond b ((entry_at es p).literal ∷ []) []) passes) ∙ map-append opposite (kept_literals es marked p) ((entry_at es p).literal ∷ []))

pub negated_no : (es : List Assigned) (marked : List Bool) (p : ℕ) (clause : List SatLit) → p < length es → is_marked marked (entry_at es p) ≡ false → clause ≡ map opposite (kept_literals es marked p) → clause ≡ map opposite (kept_literals es marked (p + 1))
negated_no es marked p clause within fails is =
    is ∙ sym (ap (map opposite) (kept_more es marked p within ∙ (ap (λ b. kept_literals es marked p ++ cond b ((entry_at es p).literal ∷ []) []) fails ∙ append-nil (kept_literals es marked p))))

-- A literal is the marked one at some place before another.
pub record IsKeptAt (es : List Assigned) (marked : List Bool) (p : ℕ) (l : SatLit) : Type 0 where
  pub at : ℕ
  pub early : at < p
  pub within : at < length es
  pub marked_there : is_marked marked (entry_at es at) ≡ true
  pub is : (entry_at es at).literal ≡ l

-- the marked ones are those that stand there and are marked
kept_true : (es : List Assigned) (marked : List Bool) (p : ℕ) (l : SatLit) → is_true (kept_literals es marked p) l ≡ (bit marked (variable_of l) && is_true (before es p) l)
kept_true es marked p l =
    any-filter_same (is_same l) (λ m. bit marked (variable_of m)) (bit marked (variable_of l)) (λ m same. ap (λ (x : SatLit). bit marked (variable_of x)) (sym (same_literal l m same))) (before es p)

pub kept_at : (es : List Assigned) (marked : List Bool) (p : ℕ) (l : SatLit) → is_true (kept_literals es marked p) l ≡ true → IsKeptAt es marked p l
kept_at es marked p l e =
    let parts = and_parts (bit marked (variable_of l)) (is_true (before es p) l) (sym (kept_true es marked p l) ∙ e) in
    let s = stands es p l parts.1 in
    record { at = s.at; early = s.early; within = s.within; marked_there = ap (λ (x : SatLit). bit marked (variable_of x)) s.is ∙ parts.0; is = s.is }

pub kept_there : (es : List Assigned) (marked : List Bool) (p j : ℕ) → j < p → j < length es → is_marked marked (entry_at es j) ≡ true → is_true (kept_literals es marked p) (entry_at es j).literal ≡ true
kept_there es marked p j early within m =
    kept_true es marked p (entry_at es j).literal ∙ and_from (is_marked marked (entry_at es j)) (is_true (before es p) (entry_at es j).literal) m (true_before es p j early within)

-- the opposites of literals
pub opposite_there : (ls : List SatLit) (l : SatLit) → is_true ls l ≡ true → is_true (map opposite ls) (opposite l) ≡ true
opposite_there [] l e = e
opposite_there (m ∷ ls) l e =
    elim (or_cases (is_same l m) (is_true ls l) e) [
      | inl here ↦ or_left (is_same (opposite l) (opposite m)) (is_true (map opposite ls) (opposite l)) (ap (λ n. is_same (opposite l) (opposite n)) (sym (same_literal l m here)) ∙ same_itself (opposite l))
      | inr after ↦ or_right (is_same (opposite l) (opposite m)) (is_true (map opposite ls) (opposite l)) (opposite_there ls l after)
    ]

pub opposites_twice : (ls : List SatLit) → map opposite (map opposite ls) ≡ ls
opposites_twice ls = map-map opposite opposite ls ∙ map_fixed (λ l. opposite (opposite l)) ls (λ k d _. opposite_twice (slice_index_or ls k d))

-- a literal of the learned clause is the opposite of a marked one
pub learned_at : (es : List Assigned) (marked : List Bool) (p : ℕ) (l : SatLit) → is_true (map opposite (kept_literals es marked p)) l ≡ true → IsKeptAt es marked p (opposite l)
learned_at es marked p l e =
    let there = opposite_there (map opposite (kept_literals es marked p)) l e in
    kept_at es marked p (opposite l) (ap (λ ls. is_true ls (opposite l)) (sym (opposites_twice (kept_literals es marked p))) ∙ there)
