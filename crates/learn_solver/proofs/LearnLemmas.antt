-- What is learned at the end of an analysis.
use Rattle.std.proofs.Common.{◌≡◌, ◌≢◌, ℕ, zero, suc, ◌/◌, ◌<◌, ◌≤◌, ◌==◌, ◌||◌, cond, Bool, true, false, List, [], ◌∷◌, length, map, reverse, All, None, slice_index_or, inl, inr, refl, sym, ◌∙◌, ap, subst, arith}
use Rattle.std.specs.List.{list_any, list_all}
use Rattle.std.proofs.lemmas.Bool.{cases_eq, cases_Bool, cases_lt, eq-eqb, eqb-true, false≢true, false_from_ne_true, or_cases, or_from, or_left, or_right}
use Rattle.std.proofs.lemmas.Bool.Decides.{leb_tells}
use Rattle.std.proofs.lemmas.List.Folds.{list_any_at}
use Rattle.std.proofs.lemmas.List.Recursion.{and_at, and_from_places}
use Rattle.cnf_core.specs.declared.literal.SatLit.{SatLit}
use Rattle.cnf_core.specs.declared.effect.Effect.TheVariants.{Neither}
use Rattle.cnf_core.specs.Clauses.{opposite, variable_of}
use Rattle.cnf_core.specs.Derivations.{effect_of, hint_fault, is_empty, is_false, is_same, is_true, repeats_variable, has_all}
use Rattle.trail_core.specs.declared.assigned.Assigned.{Assigned}
use Rattle.trail_core.specs.Trails.{IsTrail, Trailing, entry_at}
use Rattle.watch_lists.specs.Propagations.{IsJustified, IsSound, before}
use Rattle.learn_solver.specs.Analyses.{IsBackLevel, IsLearnedAs, IsLeft, IsReduced, here_in, is_marked, kept_here, kept_literals}
use Rattle.watch_lists.proofs.EffectLemmas.{neither_two, not_neither, same_itself}
use Rattle.learn_solver.proofs.KeptLemmas.{kept_at, kept_there, learned_at, opposite_there, opposites_twice}
use Rattle.watch_lists.proofs.GrowLemmas.{low_level}
use Rattle.learn_solver.proofs.PlaceLemmas.{IsHere, ascend, counted_here, decision_level, decision_raises, found_here, last_decision, only_here, opposite_twice, same_place, stands, true_before, variable_of-opposite}
use Rattle.cnf_core.proofs.LiteralLemmas.{no_literal}

-- all marked literals that are left, and no others, are true where the clause is negated
kept_left : (es : List Assigned) (marked : List Bool) (p : ℕ) → IsLeft es marked 0 p (kept_literals es marked p)
kept_left es marked p = record {
  needed = λ k early within was. kept_there es marked p k early within was;
  within = λ l e. inr e;
}

-- a literal of a list is found in it
found_at : (ls : List SatLit) (k : ℕ) (d : SatLit) → k < length ls → is_true ls (slice_index_or ls k d) ≡ true
found_at ls k d within = list_any_at (is_same (slice_index_or ls k d)) ls k d within (same_itself (slice_index_or ls k d))

-- a variable of a list is that of a literal found in it
variable_found : (ls : List SatLit) (v : ℕ) → list_any (λ other. variable_of other == v) ls ≡ true → (l : SatLit) × (is_true ls l ≡ true) × (variable_of l ≡ v)
variable_found [] v e = absurd (false≢true e)
variable_found (m ∷ ls) v e =
    elim (or_cases (variable_of m == v) (list_any (λ other. variable_of other == v) ls) e) [
      | inl here ↦ (m, or_left (is_same m m) (is_true ls m) (same_itself m), eqb-true (variable_of m) v here)
      | inr after ↦ let rest = variable_found ls v after in (rest.0, or_right (is_same rest.0 m) (is_true ls rest.0) rest.1, rest.2)
    ]

-- no variable is repeated
once : (es : List Assigned) → ((j k : ℕ) → j < k → k < length es → variable_of (entry_at es j).literal ≢ variable_of (entry_at es k).literal) → (marked : List Bool) (p : ℕ) → repeats_variable (map opposite (kept_literals es marked p)) ≡ false
once [] distinct marked zero = refl
once [] distinct marked (suc p) = refl
once (x ∷ es) distinct marked zero = refl
once (x ∷ es) distinct marked (suc p) =
    let rest = once es (λ j k order within. distinct (suc j) (suc k) (omega (arith, order)) (omega (arith, within))) marked p in
    elim (cases_Bool (is_marked marked x)) [
      | inl m ↦
          let tail = map opposite (kept_literals es marked p) in
          ap (λ b. repeats_variable (map opposite (cond b (x.literal ∷ kept_literals es marked p) (kept_literals es marked p)))) m
          ∙ or_from (list_any (λ other. variable_of other == variable_of (opposite x.literal)) tail) (repeats_variable tail) (false_from_ne_true (list_any (λ other. variable_of other == variable_of (opposite x.literal)) tail) not_again) rest
      | inr f ↦ ap (λ b. repeats_variable (map opposite (cond b (x.literal ∷ kept_literals es marked p) (kept_literals es marked p)))) f ∙ rest
    ]
  where
    not_again : list_any (λ other. variable_of other == variable_of (opposite x.literal)) (map opposite (kept_literals es marked p)) ≡ true → ⊥
    not_again found =
        let l = variable_found (map opposite (kept_literals es marked p)) (variable_of (opposite x.literal)) found in
        let at = learned_at es marked p l.0 l.1 in
        distinct 0 (suc at.at) (omega arith) (omega (arith, at.within)) (sym (variable_of-opposite x.literal) ∙ (sym l.2 ∙ (sym (variable_of-opposite l.0) ∙ ap variable_of (sym at.is))))

none_found : (ls : List SatLit) → ((l : SatLit) → is_true ls l ≡ true → ⊥) → ls ≡ []
none_found [] none = refl
none_found (l ∷ ls) none = absurd (none l (or_left (is_same l l) (is_true ls l) (same_itself l)))

-- the empty clause has all the literals of no clause that has some
empty_has_none : (clause : List SatLit) → is_empty clause ≡ false → has_all [] clause ≡ true → ⊥
empty_has_none [] some all = false≢true (sym some)
empty_has_none (l ∷ clause) some all = false≢true all

-- what is left at the end of an analysis
pub record IsDone (clauses : List (List SatLit)) (t : Trailing) (marked : List Bool) (p here : ℕ) (steps : List ℕ) : Type 0 where
  pub trail : IsTrail t
  pub sound : IsSound clauses t
  pub filled : All (λ clause. is_empty clause ≡ false) clauses
  pub reduced : IsReduced clauses t marked p here steps 0

few_here : (clauses : List (List SatLit)) (t : Trailing) (marked : List Bool) (p here : ℕ) (steps : List ℕ) → IsDone clauses t marked p here steps → here_in t marked p ≤ 1
few_here clauses t marked p here steps is = omega (arith, is.reduced.few, is.reduced.count, at_most (t.level == 0))
  where
    at_most : (b : Bool) → cond b 0 1 ≤ 1
    at_most true = omega arith
    at_most false = omega arith

-- at level 0 nothing is left
closing : (clauses : List (List SatLit)) (t : Trailing) (marked : List Bool) (p here : ℕ) (steps : List ℕ) → IsDone clauses t marked p here steps → t.level ≡ 0 → map opposite (kept_literals t.entries marked p) ≡ []
closing clauses t marked p here steps is lowest = ap (map opposite) (none_found (kept_literals t.entries marked p) (λ l e.
    let k = kept_at t.entries marked p l e in
    let level : (entry_at t.entries k.at).level ≡ t.level = omega (arith, low_level t is.trail k.at k.within, lowest) in
    let some = counted_here t marked p k.at k.early k.within k.marked_there level in
    let none : kept_here t.level ≡ 0 = ap (λ b. cond {A = ℕ} b 0 1) (eq-eqb t.level 0 lowest) in
    omega (arith, some, is.reduced.few, is.reduced.count, none)))

-- no clause has all its literals in what is learned
fresh_above : (clauses : List (List SatLit)) (t : Trailing) (marked : List Bool) (p here : ℕ) (steps : List ℕ) → IsDone clauses t marked p here steps → 0 < t.level → (id : ℕ) (d : List SatLit) → id < length clauses → has_all (map opposite (kept_literals t.entries marked p)) (slice_index_or clauses id d) ≡ true → ⊥
fresh_above clauses t marked p here steps is above id d there all =
    let es = t.entries in
    let s = last_decision t is.trail above in
    let u = found_here t marked p (omega (arith, is.reduced.count, is.reduced.present above)) in
    let quiet = subst (λ r. IsJustified clauses (before es s.at) (entry_at es s.at).literal r) s.decision (is.sound.justified s.at s.within) in
    let one = opposite (entry_at es u.at).literal in
    let late : s.at ≤ u.at = elim (leb_tells s.at u.at) [
      | inl (found, after) ↦ after
      | inr (found, ahead) ↦ absurd (omega (arith, decision_raises t is.trail u.at s.at ahead s.within s.decision, u.level_there, s.level_there))
    ] in
    let not_true : is_true (before es s.at) one ≡ false = false_from_ne_true (is_true (before es s.at) one) (λ holds.
    let j = stands es s.at one holds in
    let same = same_place t is.trail j.at u.at j.within u.within (ap variable_of j.is ∙ variable_of-opposite (entry_at es u.at).literal) in
    omega (arith, same, j.early, late)) in
    not_neither (before es s.at) (slice_index_or clauses id d) one (and_from_places (list_all (λ y. is_false (before es s.at) y || is_same one y)) (λ y. is_false (before es s.at) y || is_same one y) refl (λ _ _. refl) (slice_index_or clauses id d) no_literal (each s.at u s.level_there s.within)) not_true (quiet id d there)
  where
    each : (s : ℕ) (u : IsHere t marked p) → (entry_at t.entries s).level ≡ t.level → s < length t.entries → (k : ℕ) → k < length (slice_index_or clauses id d) → (is_false (before t.entries s) (slice_index_or (slice_index_or clauses id d) k no_literal) || is_same (opposite (entry_at t.entries u.at).literal) (slice_index_or (slice_index_or clauses id d) k no_literal)) ≡ true
    each s u level within k inside =
        let es = t.entries in
        let c = slice_index_or clauses id d in
        let y = slice_index_or c k no_literal in
        let one = opposite (entry_at es u.at).literal in
        let learned = map opposite (kept_literals es marked p) in
        let found = and_at (list_all (is_true learned)) (is_true learned) refl (λ _ _. refl) c k no_literal inside all in
        let at = learned_at es marked p y found in
        elim (cases_eq (entry_at es at.at).level t.level) [
          | inl same_level ↦
              let same = only_here t marked p at.at u.at (few_here clauses t marked p here steps is) at.early at.within at.marked_there same_level u.early u.within u.marked_there u.level_there in
              let literal : one ≡ y = ap (λ n. opposite (entry_at es n).literal) (sym same) ∙ (ap opposite at.is ∙ opposite_twice y) in
              or_right (is_false (before es s) y) (is_same one y) (ap (λ m. is_same m y) literal ∙ same_itself y)
          | inr lower ↦
              let early : at.at < s = elim (leb_tells s at.at) [
                | inl (f, after) ↦ absurd (omega (arith, lower, low_level t is.trail at.at at.within, ascend t is.trail s at.at after at.within, level))
                | inr (f, ahead) ↦ ahead
              ] in
              or_left (is_false (before es s) y) (is_same one y) (ap (is_true (before es s)) (sym at.is) ∙ true_before es s at.at early at.within)
        ]

-- at a decision up to the level to go back to, two literals of what is learned are unassigned
not_single : (clauses : List (List SatLit)) (t : Trailing) (marked : List Bool) (p here level : ℕ) (steps : List ℕ) → IsDone clauses t marked p here steps → IsBackLevel t marked p level → (k : ℕ) → k < length t.entries → (entry_at t.entries k).reason ≡ None → (entry_at t.entries k).level ≤ level → effect_of (before t.entries k) (map opposite (kept_literals t.entries marked p)) ≡ Neither
not_single clauses t marked p here level steps is back k within decision low =
    let es = t.entries in
    let w = back.reached (omega (arith, decision_level t is.trail k within decision, low)) in
    let inside : w.at < length es = omega (arith, w.early, is.reduced.within) in
    let u = found_here t marked p (omega (arith, is.reduced.count, is.reduced.present (omega (arith, w.below)))) in
    let a = (entry_at es u.at).literal in
    let b = (entry_at es w.at).literal in
    let differ : (opposite a).0 ≢ (opposite b).0 = λ same.
    let one = same_place t is.trail u.at w.at u.within inside (sym (variable_of-opposite a) ∙ (ap (λ n. n / 2) same ∙ variable_of-opposite b)) in
    omega (arith, ap (λ n. (entry_at es n).level) one, u.level_there, w.level_there, w.below) in
    let free_a = not_there u.at u.within (λ early. omega (arith, decision_raises t is.trail u.at k early within decision, u.level_there, w.below, low)) in
    let free_b = not_there w.at inside (λ early. omega (arith, decision_raises t is.trail w.at k early within decision, w.level_there, low)) in
    neither_two (before es k) (map opposite (kept_literals es marked p)) (opposite a) (opposite b) differ free_a free_b (opposite_there (kept_literals es marked p) a (kept_there es marked p u.at u.early u.within u.marked_there)) (opposite_there (kept_literals es marked p) b (kept_there es marked p w.at w.early inside w.marked_there))
  where
    not_there : (j : ℕ) → j < length t.entries → (j < k → ⊥) → is_false (before t.entries k) (opposite (entry_at t.entries j).literal) ≡ false
    not_there j inside late =
        let l = (entry_at t.entries j).literal in
        false_from_ne_true (is_false (before t.entries k) (opposite l)) (λ holds.
        let s = stands t.entries k (opposite (opposite l)) holds in
        let same = same_place t is.trail s.at j s.within inside (ap variable_of (s.is ∙ opposite_twice l)) in
        late (omega (arith, same, s.early)))

pub learned : (clauses : List (List SatLit)) (t : Trailing) (marked : List Bool) (p here level : ℕ) (steps : List ℕ) → IsDone clauses t marked p here steps → IsBackLevel t marked p level → IsLearnedAs clauses t (map opposite (kept_literals t.entries marked p)) (reverse steps) level
learned clauses t marked p here level steps is back =
    let es = t.entries in
    let kept = kept_literals es marked p in
    record {
      derived = ap (λ made. hint_fault clauses made (reverse steps)) (opposites_twice kept) ∙ is.reduced.derives kept (kept_left es marked p);
      once = once es is.trail.distinct marked p;
      known = λ k d within.
          let l = slice_index_or (map opposite kept) k d in
          let at = learned_at es marked p l (found_at (map opposite kept) k d within) in
          omega (arith, is.trail.known at.at at.within, ap variable_of at.is, variable_of-opposite l);
      fresh = λ id d there. false_from_ne_true (has_all (map opposite kept) (slice_index_or clauses id d)) (λ all. elim (cases_eq t.level 0) [
        | inl lowest ↦ empty_has_none (slice_index_or clauses id d) (is.filled id d there) (ap (λ c. has_all c (slice_index_or clauses id d)) (sym (closing clauses t marked p here steps is lowest)) ∙ all)
        | inr above ↦ fresh_above clauses t marked p here steps is (omega (arith, above)) id d there all
      ]);
      closing = closing clauses t marked p here steps is;
      low = elim (cases_lt t.level level) [ inl above ↦ omega (arith, (back.reached (omega (arith, above))).below) | inr low ↦ low ];
      not_single = not_single clauses t marked p here level steps is back;
      asserting = record {
        last = λ above.
            let u = found_here t marked p (omega (arith, is.reduced.count, is.reduced.present above)) in
            record { place = u.at; within = u.within; level_there = u.level_there; there = opposite_there kept (entry_at es u.at).literal (kept_there es marked p u.at u.early u.within u.marked_there) };
        lower = lower;
        reached = λ some.
            let w = back.reached some in
            let inside : w.at < length es = omega (arith, w.early, is.reduced.within) in
            record { place = w.at; within = inside; level_there = w.level_there; there = opposite_there kept (entry_at es w.at).literal (kept_there es marked p w.at w.early inside w.marked_there) };
      };
    }
  where
    lower : 0 < t.level → level < t.level
    lower above = elim (cases_eq level 0) [
      | inl none ↦ omega (arith, none, above)
      | inr some ↦ omega (arith, (back.reached (omega (arith, some))).below)
    ]
