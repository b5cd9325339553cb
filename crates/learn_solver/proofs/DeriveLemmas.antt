-- Steps that lead to a conflict from where the marked literals that are left are true.
use Rattle.std.proofs.Common.{◌≡◌, ◌≢◌, ℕ, ◌+◌, ◌<◌, ◌≤◌, ◌||◌, ◌⊎◌, Bool, true, false, List, [], ◌∷◌, ◌++◌, length, reverse, None, slice_index_or, inl, inr, refl, sym, ◌∙◌, ap, arith}
use Rattle.std.specs.List.{list_all}
use Rattle.std.proofs.lemmas.Bool.{cases_eq, false≢true, false_from_ne_true, both_ways, or_cases, or_left, or_right}
use Rattle.std.proofs.lemmas.Bool.Decides.{leb_tells}
use Rattle.std.proofs.lemmas.List.{reverse-append}
use Rattle.std.proofs.lemmas.List.Recursion.{and_at, and_from_places}
use Rattle.circuits.specs.Literals.{bit}
use Rattle.cnf_core.specs.declared.literal.SatLit.{SatLit}
use Rattle.cnf_core.specs.declared.effect.Effect.TheVariants.{Conflict, Makes}
use Rattle.cnf_core.specs.Clauses.{clause_at, opposite, variable_of}
use Rattle.cnf_core.specs.Derivations.{effect_of, hint_fault, is_false, is_same, is_true}
use Rattle.trail_core.specs.declared.assigned.Assigned.{Assigned}
use Rattle.trail_core.specs.Trails.{IsTrail, Trailing, entry_at, literals}
use Rattle.watch_lists.specs.Propagations.{IsReason, before}
use Rattle.learn_solver.specs.Analyses.{AreMarked, IsLeft, is_marked, kept_literals}
use Rattle.watch_lists.proofs.EffectLemmas.{IsMaker, conflict_from, conflict_says, makes_from, makes_says, same_itself, same_literal}
use Rattle.learn_solver.proofs.KeptLemmas.{kept_at, kept_there}
use Rattle.learn_solver.proofs.PlaceLemmas.{before_whole, same_place, stands, true_before, true_further, variable_of-opposite}
use Rattle.cnf_core.proofs.EffectLemmas.{true_more}
use Rattle.cnf_core.proofs.LiteralLemmas.{no_literal}
use Rattle.cnf_core.proofs.HintLemmas.{step_conflict, step_makes}

-- a literal that is false before a place is false wherever the marked ones are true, if its variable is marked
false_left : (es : List Assigned) (marked : List Bool) (p q place : ℕ) (made : List SatLit) (l : SatLit) → p ≤ q → IsLeft es marked place q made → bit marked (variable_of l) ≡ true → is_false (before es p) l ≡ true → is_false made l ≡ true
false_left es marked p q place made l order left marked_there falsity =
    let s = stands es p (opposite l) falsity in
    let there : is_marked marked (entry_at es s.at) ≡ true = ap (λ (m : SatLit). bit marked (variable_of m)) s.is ∙ (ap (bit marked) (variable_of-opposite l) ∙ marked_there) in
    ap (is_true made) (sym s.is) ∙ left.needed s.at (omega (arith, s.early, order)) s.within there

-- the conflict itself
pub derive_conflict : (clauses : List (List SatLit)) (es : List Assigned) (marked : List Bool) (id : ℕ) → id < length clauses → effect_of (literals es) (clause_at clauses id) ≡ Conflict → AreMarked marked (clause_at clauses id) → (made : List SatLit) → IsLeft es marked (length es) (length es) made → hint_fault clauses made (reverse (id ∷ [])) ≡ None
derive_conflict clauses es marked id there conflict are_marked made left =
    step_conflict clauses made id there (conflict_from made (clause_at clauses id) (and_from_places (list_all (is_false made)) (is_false made) refl (λ _ _. refl) (clause_at clauses id) no_literal each))
  where
    each : (k : ℕ) → k < length (clause_at clauses id) → is_false made (slice_index_or (clause_at clauses id) k no_literal) ≡ true
    each k within =
        let c = clause_at clauses id in
        let all = conflict_says (literals es) c conflict in
        let falsity = and_at (list_all (is_false (literals es))) (is_false (literals es)) refl (λ _ _. refl) c k no_literal within all in
        false_left es marked (length es) (length es) (length es) made (slice_index_or c k no_literal) (omega arith) left (are_marked k no_literal within) (ap (λ m. is_false m (slice_index_or c k no_literal)) (before_whole es) ∙ falsity)

-- What changes in the marks where the literal at a place gives way to the others of its reason, of which those that stand
-- before `low` are left.
pub record IsAway (t : Trailing) (old new : List Bool) (q low : ℕ) (clause : List SatLit) : Type 0 where
  pub size : length new ≡ length old
  pub gone : q < low → is_marked new (entry_at t.entries q) ≡ false
  pub stay : (k : ℕ)
      → k ≢ q
      → k < length t.entries
      → is_marked old (entry_at t.entries k) ≡ true
      → is_marked new (entry_at t.entries k) ≡ true
  pub later : (k : ℕ)
      → q < k
      → k < low
      → k < length t.entries
      → is_marked new (entry_at t.entries k) ≡ is_marked old (entry_at t.entries k)
  pub others : (k : ℕ)
      → k < length clause
      → is_false (before t.entries q) (slice_index_or clause k no_literal) ≡ true
      → bit new (variable_of (slice_index_or clause k no_literal)) ≡ true

-- a literal that gives way needs its reason, before the steps
pub derive_away : (clauses : List (List SatLit)) (t : Trailing) → IsTrail t → (old new : List Bool) (q top low id : ℕ) (steps : List ℕ) → q < length t.entries → q ≤ low → low ≤ top → ((k : ℕ) → k < top → k ≢ q → k < low) → IsReason clauses (before t.entries q) (entry_at t.entries q).literal id → IsAway t old new q low (clause_at clauses id) → ((made : List SatLit) → IsLeft t.entries old (q + 1) top made → hint_fault clauses made (reverse steps) ≡ None) → (made : List SatLit) → IsLeft t.entries new q low made → hint_fault clauses made (reverse (steps ++ id ∷ [])) ≡ None
derive_away clauses t trail old new q top low id steps within first last lower reason away after made left =
    ap (hint_fault clauses made) (reverse-append steps (id ∷ [])) ∙ step_makes clauses made id (reverse steps) (entry_at t.entries q).literal reason.there makes (after (made ++ (entry_at t.entries q).literal ∷ []) wider)
  where
    says : IsMaker (before t.entries q) (clause_at clauses id) (entry_at t.entries q).literal
    says = makes_says (before t.entries q) (clause_at clauses id) (entry_at t.entries q).literal reason.makes

    not_there : (m : SatLit) → variable_of m ≡ variable_of (entry_at t.entries q).literal → is_true made m ≡ false
    not_there m same = false_from_ne_true (is_true made m) (λ holds. elim (left.within m holds) [
      | inl early ↦
          let s = stands t.entries q m early in
          omega (arith, s.early, same_place t trail s.at q s.within within (ap variable_of s.is ∙ same))
      | inr kept ↦
          let k = kept_at t.entries new low m kept in
          let here = same_place t trail k.at q k.within within (ap variable_of k.is ∙ same) in
          both_ways (is_marked new (entry_at t.entries q)) (away.gone (omega (arith, here, k.early))) (ap (λ n. is_marked new (entry_at t.entries n)) (sym here) ∙ k.marked_there)
    ])

    each : (k : ℕ) → k < length (clause_at clauses id) → (is_false made (slice_index_or (clause_at clauses id) k no_literal) || is_same (entry_at t.entries q).literal (slice_index_or (clause_at clauses id) k no_literal)) ≡ true
    each k here =
        let es = t.entries in
        let c = clause_at clauses id in
        let y = slice_index_or c k no_literal in
        let one = (entry_at es q).literal in
        let either = and_at (list_all (λ x. is_false (before es q) x || is_same one x)) (λ x. is_false (before es q) x || is_same one x) refl (λ _ _. refl) c k no_literal here says.others in
        elim (or_cases (is_false (before es q) y) (is_same one y) either) [
          | inl falsity ↦ or_left (is_false made y) (is_same one y) (false_left es new q low q made y first left (away.others k here falsity) falsity)
          | inr same ↦ or_right (is_false made y) (is_same one y) same
        ]

    makes : effect_of made (clause_at clauses id) ≡ Makes (entry_at t.entries q).literal
    makes = makes_from made (clause_at clauses id) (entry_at t.entries q).literal (record {
      others = and_from_places (list_all (λ x. is_false made x || is_same (entry_at t.entries q).literal x)) (λ x. is_false made x || is_same (entry_at t.entries q).literal x) refl (λ _ _. refl) (clause_at clauses id) no_literal each;
      not_true = not_there (entry_at t.entries q).literal refl;
      not_false = not_there (opposite (entry_at t.entries q).literal) (variable_of-opposite (entry_at t.entries q).literal);
      there = says.there;
    })

    still : (m : SatLit) → is_true (kept_literals t.entries new low) m ≡ true → (is_true (before t.entries (q + 1)) m ≡ true) ⊎ (is_true (kept_literals t.entries old top) m ≡ true)
    still m kept =
        let es = t.entries in
        let k = kept_at es new low m kept in
        elim (leb_tells (q + 1) k.at) [
          | inl (found, late) ↦ inr (ap (is_true (kept_literals es old top)) (sym k.is) ∙ kept_there es old top k.at (omega (arith, k.early, last)) k.within (sym (away.later k.at (omega (arith, late)) k.early k.within) ∙ k.marked_there))
          | inr (found, early) ↦ inl (ap (is_true (before es (q + 1))) (sym k.is) ∙ true_before es (q + 1) k.at early k.within)
        ]

    wider : IsLeft t.entries old (q + 1) top (made ++ (entry_at t.entries q).literal ∷ [])
    wider = record {
      needed = λ k early inside was. true_more made (entry_at t.entries q).literal (entry_at t.entries k).literal ∙ elim (cases_eq k q) [
        | inl same ↦ or_right (is_true made (entry_at t.entries k).literal) (is_same (entry_at t.entries k).literal (entry_at t.entries q).literal || false) (or_left (is_same (entry_at t.entries k).literal (entry_at t.entries q).literal) false (ap (λ n. is_same (entry_at t.entries n).literal (entry_at t.entries q).literal) same ∙ same_itself (entry_at t.entries q).literal))
        | inr other ↦ or_left (is_true made (entry_at t.entries k).literal) (is_same (entry_at t.entries k).literal (entry_at t.entries q).literal || false) (left.needed k (lower k early other) inside (away.stay k other inside was))
      ];
      within = λ m holds. elim (or_cases (is_true made m) (is_same m (entry_at t.entries q).literal || false) (sym (true_more made (entry_at t.entries q).literal m) ∙ holds)) [
        | inl in_made ↦ elim (left.within m in_made) [
          | inl early ↦ inl (true_further t.entries q (q + 1) m (omega arith) early)
          | inr kept ↦ still m kept
        ]
        | inr here ↦ elim (or_cases (is_same m (entry_at t.entries q).literal) false here) [
          | inl same ↦ inl (ap (is_true (before t.entries (q + 1))) (same_literal m (entry_at t.entries q).literal same) ∙ true_before t.entries (q + 1) q (omega arith) within)
          | inr never ↦ absurd (false≢true never)
        ]
      ];
    }

-- what is marked before a place is true before a later one
pub kept_before : (es : List Assigned) (marked : List Bool) (p q : ℕ) (l : SatLit) → p ≤ q → is_true (kept_literals es marked p) l ≡ true → is_true (before es q) l ≡ true
kept_before es marked p q l order kept =
    let k = kept_at es marked p l kept in
    ap (is_true (before es q)) (sym k.is) ∙ true_before es q k.at (omega (arith, k.early, order)) k.within

-- a literal that isn't marked needs nothing
pub derive_unmarked : (clauses : List (List SatLit)) (es : List Assigned) (marked : List Bool) (q : ℕ) (steps : List ℕ) → is_marked marked (entry_at es q) ≡ false → ((made : List SatLit) → IsLeft es marked (q + 1) (q + 1) made → hint_fault clauses made steps ≡ None) → (made : List SatLit) → IsLeft es marked q q made → hint_fault clauses made steps ≡ None
derive_unmarked clauses es marked q steps free after made left = after made (record {
  needed = λ k early within was. elim (cases_eq k q) [
    | inl same ↦ absurd (both_ways (is_marked marked (entry_at es q)) free (ap (λ n. is_marked marked (entry_at es n)) (sym same) ∙ was))
    | inr other ↦ left.needed k (omega (arith, early, other)) within was
  ];
  within = λ m holds. elim (left.within m holds) [
    | inl early ↦ inl (true_further es q (q + 1) m (omega arith) early)
    | inr kept ↦ inl (kept_before es marked q (q + 1) m (omega arith) kept)
  ];
})
