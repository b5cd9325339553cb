-- Where literals stand on a trail, and at which levels.
use Rattle.std.proofs.Common.{◌≡◌, ℕ, zero, suc, ◌+◌, ◌<◌, ◌≤◌, ◌==◌, ◌&&◌, cond, Bool, true, List, [], ◌∷◌, length, take, Option, None, Some, is_none, slice_index_or, inl, inr, refl, sym, ◌∙◌, ap, arith}
use Rattle.std.specs.List.{list_all}
use Rattle.std.proofs.lemmas.Bool.{cases_eq, eq-eqb, eqb-true, or_left, or_right, and_parts, and_from}
use Rattle.std.proofs.lemmas.Bool.Decides.{leb_tells}
use Rattle.std.proofs.lemmas.Map.Views.{Contains-from_any}
use Rattle.std.proofs.lemmas.List.{get_or-map, get_or-take, length-take, take-take, take_all, length-map}
use Rattle.std.proofs.lemmas.List.Sums.{sum_by-take-le}
use Rattle.std.proofs.lemmas.List.Recursion.{and_at}
use Rattle.cnf_core.specs.declared.literal.SatLit.{SatLit}
use Rattle.cnf_core.specs.declared.effect.Effect.TheVariants.{Conflict}
use Rattle.cnf_core.specs.Clauses.{opposite, variable_of}
use Rattle.cnf_core.specs.Derivations.{effect_of, is_false, is_same, is_true}
use Rattle.trail_core.specs.declared.assigned.Assigned.{Assigned}
use Rattle.trail_core.specs.Trails.{IsTrail, Trailing, decisions, entry_at, literals, nothing}
use Rattle.watch_lists.specs.Propagations.{before}
use Rattle.learn_solver.specs.Analyses.{AreBefore, HasPlace, here_in, is_marked}
use Rattle.learn_solver.proofs.MarkLemmas.{counts_one, counts_two, passes_somewhere}
use Rattle.watch_lists.proofs.EffectLemmas.{conflict_says, same_itself, same_literal}
pub use Rattle.cnf_core.proofs.LiteralLemmas.{opposite_twice, variable_of-opposite}
pub use Rattle.trail_core.proofs.CutLemmas.{ascend}
use Rattle.trail_core.proofs.TrailLemmas.{decisions_more}
pub use Rattle.trail_core.proofs.TrailLemmas.{same_place}

-- A literal stands before a place.
pub record Stands (entries : List Assigned) (place : ℕ) (literal : SatLit) : Type 0 where
  pub at : ℕ
  pub early : at < place
  pub within : at < length entries
  pub is : (entry_at entries at).literal ≡ literal

-- a literal that is true before a place stands there, and the other way round
pub stands : (es : List Assigned) (p : ℕ) (l : SatLit) → is_true (before es p) l ≡ true → Stands es p l
stands es p l e =
    let found = Contains-from_any same_literal l (before es p) e in
    let within : found.0 < length es = omega (arith, found.1, length-take p (literals es), length-map es (λ (x : Assigned). x.literal)) in
    let early : found.0 < p = omega (arith, found.1, length-take p (literals es)) in
    record { at = found.0; early = early; within = within; is = sym (get_or-map (λ (x : Assigned). x.literal) es found.0 nothing l within) ∙ (sym (get_or-take p (literals es) found.0 l early) ∙ found.2) }

pub true_before : (es : List Assigned) (p j : ℕ) → j < p → j < length es → is_true (before es p) (entry_at es j).literal ≡ true
true_before [] p j early within = absurd (omega (arith, within))
true_before (x ∷ es) zero j early within = absurd (omega (arith, early))
true_before (x ∷ es) (suc p) zero early within = or_left (is_same x.literal x.literal) (is_true (before es p) x.literal) (same_itself x.literal)
true_before (x ∷ es) (suc p) (suc j) early within = or_right (is_same (entry_at es j).literal x.literal) (is_true (before es p) (entry_at es j).literal) (true_before es p j (omega (arith, early)) (omega (arith, within)))

pub before_whole : (es : List Assigned) → before es (length es) ≡ literals es
before_whole es = take_all (length es) (literals es) (omega (arith, length-map es (λ (x : Assigned). x.literal)))

-- a true literal stays true further on
pub true_further : (es : List Assigned) (p q : ℕ) (l : SatLit) → p ≤ q → is_true (before es p) l ≡ true → is_true (before es q) l ≡ true
true_further es p q l order e =
    let s = stands es p l e in
    ap (is_true (before es q)) (sym s.is) ∙ true_before es q s.at (omega (arith, s.early, order)) s.within

-- a literal whose opposite stands before a place is false there
pub place_of_false : (es : List Assigned) (p : ℕ) (l : SatLit) → is_false (before es p) l ≡ true → HasPlace es p (variable_of l)
place_of_false es p l e =
    let s = stands es p (opposite l) e in
    record { at = s.at; early = s.early; within = s.within; there = ap variable_of s.is ∙ variable_of-opposite l }

-- the variables of a conflict's literals stand on the trail
pub conflict_places : (es : List Assigned) (clause : List SatLit) → effect_of (literals es) clause ≡ Conflict → AreBefore es (length es) clause
conflict_places es clause e k d within =
    let all = conflict_says (literals es) clause e in
    let here = and_at (list_all (is_false (literals es))) (is_false (literals es)) refl (λ _ _. refl) clause k d within all in
    place_of_false es (length es) (slice_index_or clause k d) (ap (λ made. is_false made (slice_index_or clause k d)) (before_whole es) ∙ here)

pub decision_counts : (es : List Assigned) (q : ℕ) → q < length es → (entry_at es q).reason ≡ None → decisions (take (q + 1) es) ≡ decisions (take q es) + 1
decision_counts es q within none =
    let more = decisions_more es q within in
    let counted : cond (is_none (entry_at es q).reason) 1 0 ≡ 1 = ap (λ (r : Option ℕ). cond {A = ℕ} (is_none r) 1 0) none in
    omega (arith, more, counted)

-- a decision raises the level
pub decision_raises : (t : Trailing) → IsTrail t → (j q : ℕ) → j < q → q < length t.entries → (entry_at t.entries q).reason ≡ None → (entry_at t.entries j).level < (entry_at t.entries q).level
decision_raises t is j q order within none =
    let es = t.entries in
    let fewer = sum_by-take-le (λ (x : Assigned). cond (is_none x.reason) 1 0) (take q es) (j + 1) in
    let front : take (j + 1) (take q es) ≡ take (j + 1) es = take-take (j + 1) q es (omega (arith, order)) in
    omega (arith, is.levels j (omega (arith, order, within)), is.levels q within, decision_counts es q within none, fewer, ap decisions front)

pub decision_level : (t : Trailing) → IsTrail t → (q : ℕ) → q < length t.entries → (entry_at t.entries q).reason ≡ None → 0 < (entry_at t.entries q).level
decision_level t is q within none = omega (arith, is.levels q within, decision_counts t.entries q within none)

-- The last decision: it begins the present level.
pub record IsLast (t : Trailing) : Type 0 where
  pub at : ℕ
  pub within : at < length t.entries
  pub decision : (entry_at t.entries at).reason ≡ None
  pub level_there : (entry_at t.entries at).level ≡ t.level

pub last_decision : (t : Trailing) → IsTrail t → 0 < t.level → IsLast t
last_decision t is some = search_down (length t.entries) (omega arith) (omega (arith, some, is.level, ap decisions (take_all (length t.entries) t.entries (omega arith)))) (ap decisions (take_all (length t.entries) t.entries (omega arith)) ∙ sym is.level)
  where
    by_reason : (n : ℕ) → n < length t.entries → (r : Option ℕ) → (entry_at t.entries n).reason ≡ r → decisions (take (n + 1) t.entries) ≡ t.level → (decisions (take n t.entries) ≡ t.level → IsLast t) → IsLast t
    by_reason n within None e same below = record { at = n; within = within; decision = e; level_there = is.levels n within ∙ same }
    by_reason n within (Some r) e same below =
        let more = decisions_more t.entries n within in
        let counted : cond (is_none (entry_at t.entries n).reason) 1 0 ≡ 0 = ap (λ (x : Option ℕ). cond {A = ℕ} (is_none x) 1 0) e in
        below (omega (arith, more, counted, same))

    search_down : (n : ℕ) → n ≤ length t.entries → 0 < decisions (take n t.entries) → decisions (take n t.entries) ≡ t.level → IsLast t
    search_down zero within some same = absurd (omega (arith, some))
    search_down (suc n) within some same =
        let next : suc n ≡ n + 1 = omega arith in
        let here : decisions (take (n + 1) t.entries) ≡ t.level = ap (λ k. decisions (take k t.entries)) (sym next) ∙ same in
        by_reason n (omega (arith, within)) (entry_at t.entries n).reason refl here (λ e. search_down n (omega (arith, within)) (omega (arith, some, same, e)) e)

-- whether an entry counts
abbrev pub is_counted : Trailing → List Bool → Assigned → Bool
is_counted t marked e = is_marked marked e && (e.level == t.level)

-- one that does
pub counted_here : (t : Trailing) (marked : List Bool) (p j : ℕ) → j < p → j < length t.entries → is_marked marked (entry_at t.entries j) ≡ true → (entry_at t.entries j).level ≡ t.level → 0 < here_in t marked p
counted_here t marked p j early within marked_there level =
    let f : Assigned → Bool = λ e. is_marked marked e && (e.level == t.level) in
    let inside : j < length (take p t.entries) = omega (arith, length-take p t.entries, early, within) in
    counts_one f (take p t.entries) j nothing inside (ap f (get_or-take p t.entries j nothing early) ∙ and_from (is_marked marked (entry_at t.entries j)) ((entry_at t.entries j).level == t.level) marked_there (eq-eqb (entry_at t.entries j).level t.level level))

-- A marked literal of the present level, before a place.
pub record IsHere (t : Trailing) (marked : List Bool) (p : ℕ) : Type 0 where
  pub at : ℕ
  pub early : at < p
  pub within : at < length t.entries
  pub marked_there : is_marked marked (entry_at t.entries at) ≡ true
  pub level_there : (entry_at t.entries at).level ≡ t.level

pub found_here : (t : Trailing) (marked : List Bool) (p : ℕ) → 0 < here_in t marked p → IsHere t marked p
found_here t marked p some =
    let f : Assigned → Bool = λ e. is_marked marked e && (e.level == t.level) in
    let found = passes_somewhere f (take p t.entries) nothing some in
    let early : found.0 < p = omega (arith, found.1, length-take p t.entries) in
    let parts = and_parts (is_marked marked (entry_at t.entries found.0)) ((entry_at t.entries found.0).level == t.level) (sym (ap f (get_or-take p t.entries found.0 nothing early)) ∙ found.2) in
    record {
      at = found.0;
      early = early;
      within = omega (arith, found.1, length-take p t.entries);
      marked_there = parts.0;
      level_there = eqb-true (entry_at t.entries found.0).level t.level parts.1;
    }

-- where at most one counts, two that count are one
pub only_here : (t : Trailing) (marked : List Bool) (p i j : ℕ) → here_in t marked p ≤ 1 → i < p → i < length t.entries → is_marked marked (entry_at t.entries i) ≡ true → (entry_at t.entries i).level ≡ t.level → j < p → j < length t.entries → is_marked marked (entry_at t.entries j) ≡ true → (entry_at t.entries j).level ≡ t.level → i ≡ j
only_here t marked p i j most ei wi mi li ej wj mj lj =
    elim (cases_eq i j) [
      | inl e ↦ e
      | inr ne ↦ elim (leb_tells i j) [
        | inl (found, low) ↦ absurd (omega (arith, most, counts_two (is_counted t marked) (take p t.entries) i j nothing (omega (arith, low, ne)) (omega (arith, length-take p t.entries, ej, wj)) (passes i ei mi li) (passes j ej mj lj)))
        | inr (found, high) ↦ absurd (omega (arith, most, counts_two (is_counted t marked) (take p t.entries) j i nothing high (omega (arith, length-take p t.entries, ei, wi)) (passes j ej mj lj) (passes i ei mi li)))
      ]
    ]
  where
    passes : (k : ℕ) → k < p → is_marked marked (entry_at t.entries k) ≡ true → (entry_at t.entries k).level ≡ t.level → is_counted t marked (slice_index_or (take p t.entries) k nothing) ≡ true
    passes k early m l = ap (is_counted t marked) (get_or-take p t.entries k nothing early) ∙ and_from (is_marked marked (entry_at t.entries k)) ((entry_at t.entries k).level == t.level) m (eq-eqb (entry_at t.entries k).level t.level l)
