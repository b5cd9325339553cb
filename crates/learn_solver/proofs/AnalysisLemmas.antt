-- Where an analysis begins, and how it goes on from place to place.
use Rattle.std.proofs.Common.{◌≡◌, ◌≢◌, ℕ, zero, suc, ◌+◌, ◌-◌, ◌<◌, ◌≤◌, ◌==◌, ◌&&◌, ◌||◌, cond, Bool, true, false, List, [], ◌∷◌, ◌++◌, length, take, reverse, replicate, None, slice_index_or, inl, inr, refl, sym, ◌∙◌, ap, subst, arith}
use Rattle.std.specs.List.{list_all}
use Rattle.std.proofs.lemmas.Bool.{cases_eq, and_from, and_left, eq-eqb, ne_eqb, or_cases}
use Rattle.std.proofs.lemmas.Bool.Decides.{eqb_tells, leb_tells}
use Rattle.std.proofs.lemmas.List.{length-take}
use Rattle.std.proofs.lemmas.List.Sums.{count_by-le-length, sum_by_more}
use Rattle.std.proofs.lemmas.List.Recursion.{and_at, and_from_places}
use Rattle.circuits.specs.Literals.{bit}
use Rattle.cnf_core.specs.declared.literal.SatLit.{SatLit}
use Rattle.cnf_core.specs.declared.effect.Effect.TheVariants.{Conflict, Neither}
use Rattle.cnf_core.specs.Clauses.{clause_at, opposite, variable_of}
use Rattle.cnf_core.specs.Derivations.{effect_of, is_false, is_true, is_same}
use Rattle.trail_core.specs.declared.assigned.Assigned.{Assigned}
use Rattle.trail_core.specs.Trails.{IsTrail, Trailing, entry_at, literals, nothing}
use Rattle.watch_lists.specs.Propagations.{IsJustified, IsReason, IsSound, before}
use Rattle.learn_solver.specs.Analyses.{AreBefore, AreMarked, IsAnalysed, StayMarked, here_in, is_marked, kept_here}
use Rattle.learn_solver.proofs.MarkLemmas.{none_pass, one_at_most}
use Rattle.watch_lists.proofs.EffectLemmas.{conflict_from, conflict_says, makes_says, same_literal}
use Rattle.learn_solver.proofs.DeriveLemmas.{IsAway, derive_away, derive_conflict, derive_unmarked}
use Rattle.watch_lists.proofs.GrowLemmas.{low_level}
use Rattle.learn_solver.proofs.PlaceLemmas.{ascend, before_whole, counted_here, decision_level, decision_raises, found_here, is_counted, last_decision, place_of_false, stands, true_before, variable_of-opposite}
use Rattle.cnf_core.proofs.LiteralLemmas.{no_literal}

-- where nothing is marked, nothing counts
pub unmarked_bit : (n v : ℕ) → bit (replicate n false) v ≡ false
unmarked_bit zero v = refl
unmarked_bit (suc n) zero = refl
unmarked_bit (suc n) (suc v) = unmarked_bit n v

pub none_marked : (t : Trailing) (n p : ℕ) → here_in t (replicate n false) p ≡ 0
none_marked t n p = none_pass (is_counted t (replicate n false)) (take p t.entries) nothing (λ k h.
    let e = slice_index_or (take p t.entries) k nothing in and_left (is_marked (replicate n false) e) (e.level == t.level) (unmarked_bit n (variable_of e.literal)))

pub here_within : (t : Trailing) (marked : List Bool) (p : ℕ) → here_in t marked p ≤ p
here_within t marked p = omega (arith, count_by-le-length (is_counted t marked) (take p t.entries), length-take p t.entries)

-- a conflict has a literal of the present level, since before the last decision there was none
pub conflict_here : (clauses : List (List SatLit)) (t : Trailing) → IsTrail t → IsSound clauses t → (marked : List Bool) (id : ℕ) → id < length clauses → effect_of (literals t.entries) (clause_at clauses id) ≡ Conflict → AreMarked marked (clause_at clauses id) → 0 < t.level → 0 < here_in t marked (length t.entries)
conflict_here clauses t trail sound marked id there conflict are_marked some =
    elim (cases_eq (here_in t marked (length t.entries)) 0) [
      | inr counted ↦ omega (arith, counted)
      | inl none ↦ absurd (early none)
    ]
  where
    early : here_in t marked (length t.entries) ≡ 0 → ⊥
    early none =
        let es = t.entries in
        let s = last_decision t trail some in
        let c = clause_at clauses id in
        let quiet = subst (λ r. IsJustified clauses (before es s.at) (entry_at es s.at).literal r) s.decision (sound.justified s.at s.within) in
        let all = conflict_says (literals es) c conflict in
        let each : (k : ℕ) → k < length c → is_false (before es s.at) (slice_index_or c k no_literal) ≡ true = λ k within.
        let l = slice_index_or c k no_literal in
        let falsity = ap (λ made. is_false made l) (before_whole es) ∙ and_at (list_all (is_false (literals es))) (is_false (literals es)) refl (λ _ _. refl) c k no_literal within all in
        let p = stands es (length es) (opposite l) falsity in
        let marked_there : is_marked marked (entry_at es p.at) ≡ true = ap (λ (m : SatLit). bit marked (variable_of m)) p.is ∙ (ap (bit marked) (variable_of-opposite l) ∙ are_marked k no_literal within) in
        let lower : (entry_at es p.at).level ≢ t.level = λ same. absurd (omega (arith, none, counted_here t marked (length es) p.at p.within p.within marked_there same)) in
        let first : p.at < s.at = elim (leb_tells s.at p.at) [
          | inl (found, after) ↦ absurd (omega (arith, lower, low_level t trail p.at p.within, ascend t trail s.at p.at after p.within, s.level_there))
          | inr (found, ahead) ↦ ahead
        ] in
        ap (is_true (before es s.at)) (sym p.is) ∙ true_before es s.at p.at first p.within in
        let again = conflict_from (before es s.at) c (and_from_places (list_all (is_false (before es s.at))) (is_false (before es s.at)) refl (λ _ _. refl) c no_literal each) in
        let clash : Conflict ≡ Neither = sym again ∙ quiet id [] there in
        cc

-- the last one that is left is of the present level
pub top_level : (t : Trailing) → IsTrail t → (marked : List Bool) (q : ℕ) → q < length t.entries → 0 < here_in t marked (q + 1) → (entry_at t.entries q).level ≡ t.level
top_level t trail marked q within some =
    let h = found_here t marked (q + 1) some in
    omega (arith, low_level t trail q within, ascend t trail h.at q (omega (arith, h.early)) within, h.level_there)

-- one place further down
pub here_down : (t : Trailing) (marked : List Bool) (q : ℕ) → q < length t.entries → here_in t marked (q + 1) ≡ here_in t marked q + cond (is_counted t marked (entry_at t.entries q)) 1 0
here_down t marked q within = sum_by_more (λ (x : Assigned). cond (is_counted t marked x) 1 0) t.entries q nothing within

-- a decision is the only one of its level that is left
pub decision_alone : (t : Trailing) → IsTrail t → (marked : List Bool) (q : ℕ) → q < length t.entries → (entry_at t.entries q).reason ≡ None → (entry_at t.entries q).level ≡ t.level → here_in t marked (q + 1) ≤ kept_here t.level
decision_alone t trail marked q within decision level =
    elim (eqb_tells t.level 0) [
      | inl (found, zero_level) ↦ absurd (omega (arith, decision_level t trail q within decision, level, zero_level))
      | inr (found, above) ↦
          let one : kept_here t.level ≡ 1 = ap (λ b. cond {A = ℕ} b 0 1) found in
          omega (arith, one, here_down t marked q within, one_at_most (is_counted t marked (entry_at t.entries q)), none)
    ]
  where
    none : here_in t marked q ≡ 0
    none =
        elim (cases_eq (here_in t marked q) 0) [
          | inl e ↦ e
          | inr ne ↦
              let h = found_here t marked q (omega (arith, ne)) in
              absurd (omega (arith, decision_raises t trail h.at q h.early within decision, h.level_there, level))
        ]

-- the literals of a reason stand up to the literal that it leaves
pub reason_places : (clauses : List (List SatLit)) (t : Trailing) (q id : ℕ) → q < length t.entries → IsReason clauses (before t.entries q) (entry_at t.entries q).literal id → AreBefore t.entries (q + 1) (clause_at clauses id)
reason_places clauses t q id within reason k d here =
    let es = t.entries in
    let c = clause_at clauses id in
    let one = (entry_at es q).literal in
    let says = makes_says (before es q) c one reason.makes in
    let either = and_at (list_all (λ x. is_false (before es q) x || is_same one x)) (λ x. is_false (before es q) x || is_same one x) refl (λ _ _. refl) c k d here says.others in
    elim (or_cases (is_false (before es q) (slice_index_or c k d)) (is_same one (slice_index_or c k d)) either) [
      | inl falsity ↦
          let p = place_of_false es q (slice_index_or c k d) falsity in
          record { at = p.at; early = omega (arith, p.early); within = p.within; there = p.there }
      | inr same ↦ record { at = q; early = omega arith; within = within; there = ap variable_of (same_literal one (slice_index_or c k d) same) }
    ]

pub places_further : (es : List Assigned) (p q : ℕ) (clause : List SatLit) → p ≤ q → AreBefore es p clause → AreBefore es q clause
places_further es p q clause order places k d within =
    let h = places k d within in
    record { at = h.at; early = omega (arith, h.early, order); within = h.within; there = h.there }

-- the first step of an analysis
pub analysed_start : (clauses : List (List SatLit)) (t : Trailing) → IsTrail t → IsSound clauses t → (marked : List Bool) (id here below : ℕ) (steps : List ℕ) → id < length clauses → effect_of (literals t.entries) (clause_at clauses id) ≡ Conflict → AreMarked marked (clause_at clauses id) → length marked ≡ t.variables → here ≡ here_in t marked (length t.entries) → below ≡ length t.entries → steps ≡ id ∷ [] → IsAnalysed clauses t marked below here steps
analysed_start clauses t trail sound marked id here below steps there conflict are_marked size count low steps_are =
    subst (λ b. IsAnalysed clauses t marked b here steps) (sym low) (subst (λ (ss : List ℕ). IsAnalysed clauses t marked (length t.entries) here ss) (sym steps_are) (record {
      size = size;
      within = omega arith;
      count = count;
      present = λ some. omega (arith, count, conflict_here clauses t trail sound marked id there conflict are_marked some);
      derives = derive_conflict clauses t.entries marked id there conflict are_marked;
    }))

-- a marked literal gave way to the others of its reason
pub analysed_reason : (clauses : List (List SatLit)) (t : Trailing) → IsTrail t → (old new : List Bool) (q here more id : ℕ) (steps : List ℕ) → IsAnalysed clauses t old (q + 1) here steps → kept_here t.level < here → is_marked old (entry_at t.entries q) ≡ true → IsReason clauses (before t.entries q) (entry_at t.entries q).literal id → length new ≡ length old → StayMarked old new → AreMarked new (clause_at clauses id) → here_in t new (q + 1) ≡ here_in t old (q + 1) + more → IsAnalysed clauses t new q (here + more - 1) (steps ++ id ∷ [])
analysed_reason clauses t trail old new q here more id steps is kept marked_there reason size stay are_marked counted =
    let within : q < length t.entries = omega (arith, is.within) in
    let level = top_level t trail old q within (omega (arith, is.count, kept)) in
    let still = stay (variable_of (entry_at t.entries q).literal) marked_there in
    let counts : is_counted t new (entry_at t.entries q) ≡ true = and_from (is_marked new (entry_at t.entries q)) ((entry_at t.entries q).level == t.level) still (eq-eqb (entry_at t.entries q).level t.level level) in
    let one : cond (is_counted t new (entry_at t.entries q)) 1 0 ≡ 1 = ap (λ b. cond {A = ℕ} b 1 0) counts in
    record {
      size = size ∙ is.size;
      within = omega (arith, is.within);
      count = omega (arith, is.count, counted, here_down t new q within, one);
      present = λ some. omega (arith, kept_one some, kept);
      derives = derive_away clauses t trail old new q (q + 1) q id steps within (omega arith) (omega arith) (λ k early other. omega (arith, early, other)) reason away is.derives;
    }
  where
    kept_one : 0 < t.level → kept_here t.level ≡ 1
    kept_one some = ap (λ b. cond {A = ℕ} b 0 1) (ne_eqb t.level 0 (λ e. omega (arith, some, e)))

    away : IsAway t old new q q (clause_at clauses id)
    away = record {
      size = size;
      gone = λ before. absurd (omega (arith, before));
      stay = λ k _ _ was. stay (variable_of (entry_at t.entries k).literal) was;
      later = λ k after before _. absurd (omega (arith, after, before));
      others = λ k inside _. are_marked k no_literal inside;
    }

-- a literal that isn't marked was passed
pub analysed_unmarked : (clauses : List (List SatLit)) (t : Trailing) → IsTrail t → (marked : List Bool) (q here : ℕ) (steps : List ℕ) → IsAnalysed clauses t marked (q + 1) here steps → is_marked marked (entry_at t.entries q) ≡ false → IsAnalysed clauses t marked q here steps
analysed_unmarked clauses t trail marked q here steps is free =
    let within : q < length t.entries = omega (arith, is.within) in
    let none : cond (is_counted t marked (entry_at t.entries q)) 1 0 ≡ 0 = ap (λ b. cond {A = ℕ} (b && ((entry_at t.entries q).level == t.level)) 1 0) free in
    record {
      size = is.size;
      within = omega (arith, is.within);
      count = omega (arith, is.count, here_down t marked q within, none);
      present = is.present;
      derives = derive_unmarked clauses t.entries marked q (reverse steps) free is.derives;
    }
