-- Trails that grow.
use Rattle.std.proofs.Common.{◌≡◌, ℕ, ◌+◌, ◌<◌, ◌≤◌, cond, List, Option, None, Some, [], ◌∷◌, ◌++◌, length, take, is_none, inl, inr, refl, sym, ◌∙◌, ap, subst, arith}
use Rattle.std.proofs.lemmas.List.{get_or_append_left, get_or_at, get_or-take, length-append, length-map, map-append, take-append-le, take-map, take-take, take_all}
use Rattle.std.proofs.lemmas.Bool.{cases_lt}
use Rattle.std.proofs.lemmas.List.Sums.{sum_by-take-le}
use Rattle.cnf_core.specs.declared.literal.SatLit.{SatLit}
use Rattle.trail_core.specs.declared.assigned.Assigned.{Assigned}
use Rattle.trail_core.specs.Trails.{IsTrail, Trailing, entry_at, literals, nothing, with_assigned}
use Rattle.trail_core.proofs.TrailLemmas.{before_or_last}
use Rattle.watch_lists.specs.Propagations.{AreImplied, IsGrown, IsImplied, IsJustified, IsReason, IsSound, before}
use Rattle.watch_lists.specs.Watched.{IsPresent, IsRewatched, Watching}

-- what stands before a place, with one literal more at the end
pub before_front : (es : List Assigned) (e : Assigned) (k : ℕ) → k ≤ length es → before (es ++ e ∷ []) k ≡ before es k
before_front es e k within =
    ap (take k) (map-append (λ (x : Assigned). x.literal) es (e ∷ [])) ∙ take-append-le k (literals es) (e.literal ∷ []) (omega (arith, within, length-map es (λ (x : Assigned). x.literal)))

-- what stands before a place of the front
pub before_take : (es : List Assigned) (n k : ℕ) → k ≤ n → before (take n es) k ≡ before es k
before_take es n k low = ap (take k) (sym (take-map (λ (e : Assigned). e.literal) n es)) ∙ take-take k n (literals es) low

pub before_all : (es : List Assigned) (k : ℕ) → length es ≤ k → before es k ≡ literals es
before_all es k within = take_all k (literals es) (omega (arith, within, length-map es (λ (x : Assigned). x.literal)))

-- one literal more, which is justified
pub sound_more : (clauses : List (List SatLit)) (now new : Trailing) (e : Assigned) → IsSound clauses now → IsJustified clauses (literals now.entries) e.literal e.reason → new.entries ≡ now.entries ++ e ∷ [] → IsSound clauses new
sound_more clauses now new e sound here more = record {
  justified = subst (λ (es : List Assigned). (k : ℕ) → k < length es → IsJustified clauses (before es k) (entry_at es k).literal (entry_at es k).reason) (sym more) all;
}
  where
    all : (k : ℕ) → k < length (now.entries ++ e ∷ []) → IsJustified clauses (before (now.entries ++ e ∷ []) k) (entry_at (now.entries ++ e ∷ []) k).literal (entry_at (now.entries ++ e ∷ []) k).reason
    all k within =
        let es = now.entries in
        elim (before_or_last es e k within) [
          | inl front ↦
              subst (λ (x : Assigned). IsJustified clauses (before (es ++ e ∷ []) k) x.literal x.reason) (sym (get_or_append_left es (e ∷ []) nothing k front)) (subst (λ made. IsJustified clauses made (entry_at es k).literal (entry_at es k).reason) (sym (before_front es e k (omega (arith, front)))) (sound.justified k front))
          | inr last ↦
              let made : before (es ++ e ∷ []) k ≡ literals es = before_front es e k (omega (arith, last)) ∙ before_all es k (omega (arith, last)) in
              subst (λ (x : Assigned). IsJustified clauses (before (es ++ e ∷ []) k) x.literal x.reason) (sym (get_or_at es e [] nothing k (sym last))) (subst (λ m. IsJustified clauses m e.literal e.reason) (sym made) here)
        ]

-- what stood on a trail stands there after it has grown
pub grown_at : (old new : Trailing) → IsGrown old new → (k : ℕ) → k < length old.entries → entry_at new.entries k ≡ entry_at old.entries k
grown_at old new grown k within =
    sym (get_or-take (length old.entries) new.entries k nothing within) ∙ ap (λ es. entry_at es k) grown.kept

grown_before : (old new : Trailing) → IsGrown old new → (k : ℕ) → k ≤ length old.entries → before new.entries k ≡ before old.entries k
grown_before old new grown k within =
    sym (before_take new.entries (length old.entries) k within) ∙ ap (λ es. before es k) grown.kept

-- ---- what was assigned has a reason

-- nothing was assigned
pub implied_none : (clauses : List (List SatLit)) (old new : Trailing) → new ≡ old → AreImplied clauses old new
implied_none clauses old new same = subst (AreImplied clauses old) (sym same) (record { implied = λ k late within. absurd (omega (arith, late, within)) })

-- one literal was
pub implied_one : (clauses : List (List SatLit)) (old new : Trailing) (l : SatLit) (id : ℕ) → new ≡ with_assigned old l id → IsReason clauses (literals old.entries) l id → AreImplied clauses old new
implied_one clauses old new l id is reason = subst (AreImplied clauses old) (sym is) (record {
  implied = λ k late within.
      let es = old.entries in
      let last : k ≡ length es = omega (arith, late, within, length-append es (e ∷ [])) in
      let made : before (es ++ e ∷ []) k ≡ literals es = before_front es e k (omega (arith, last)) ∙ before_all es k (omega (arith, last)) in
      subst (λ (x : Assigned). IsImplied clauses (before (es ++ e ∷ []) k) x.literal x.reason) (sym (get_or_at es e [] nothing k (sym last))) (subst (λ m. IsReason clauses m l id) (sym made) reason);
})
  where
    e : Assigned
    e = record { literal = l; level = old.level; reason = Some id }

-- some were, then others
pub implied_twice : (clauses : List (List SatLit)) (old mid new : Trailing) → AreImplied clauses old mid → IsGrown mid new → AreImplied clauses mid new → AreImplied clauses old new
implied_twice clauses old mid new first grown second = record {
  implied = λ k late within. elim (cases_lt k (length mid.entries)) [
    | inl early ↦
        subst (λ (x : Assigned). IsImplied clauses (before new.entries k) x.literal x.reason) (sym (grown_at mid new grown k early)) (subst (λ m. IsImplied clauses m (entry_at mid.entries k).literal (entry_at mid.entries k).reason) (sym (grown_before mid new grown k (omega (arith, early)))) (first.implied k late early))
    | inr later ↦ second.implied k later within
  ];
}

implied_justified : (clauses : List (List SatLit)) (made : List SatLit) (l : SatLit) (r : Option ℕ) → IsImplied clauses made l r → IsJustified clauses made l r
implied_justified clauses made l (Some id) reason = reason
implied_justified clauses made l None none = absurd none

-- so a sound trail stays sound
pub sound_implied : (clauses : List (List SatLit)) (old new : Trailing) → IsSound clauses old → IsGrown old new → AreImplied clauses old new → IsSound clauses new
sound_implied clauses old new sound grown implied = record {
  justified = λ k within. elim (cases_lt k (length old.entries)) [
    | inl early ↦
        subst (λ (x : Assigned). IsJustified clauses (before new.entries k) x.literal x.reason) (sym (grown_at old new grown k early)) (subst (λ m. IsJustified clauses m (entry_at old.entries k).literal (entry_at old.entries k).reason) (sym (grown_before old new grown k (omega (arith, early)))) (sound.justified k early))
    | inr late ↦ implied_justified clauses (before new.entries k) (entry_at new.entries k).literal (entry_at new.entries k).reason (implied.implied k late within)
  ];
}

pub sound_rewatched : (before_it after_it : Watching) (old new : Trailing) → IsRewatched before_it after_it → IsSound before_it.clauses old → IsGrown old new → AreImplied before_it.clauses old new → IsSound after_it.clauses new
sound_rewatched before_it after_it old new rewatched sound grown implied =
    subst (λ cs. IsSound cs new) (sym rewatched.clauses) (sound_implied before_it.clauses old new sound grown implied)

-- one literal more at the present level
pub present_more : (old new : Trailing) (l : SatLit) (reason : Option ℕ) → IsPresent old → new ≡ record old { entries = old.entries ++ record { literal = l; level = old.level; reason = reason } ∷ [] } → IsPresent new
present_more old new l reason is assigned = subst IsPresent (sym assigned) (record {
  present = λ k late within. elim (before_or_last old.entries e k within) [
    | inl before_it ↦ ap (λ (x : Assigned). x.level) (get_or_append_left old.entries (e ∷ []) nothing k before_it) ∙ is.present k late before_it
    | inr last ↦ ap (λ (x : Assigned). x.level) (get_or_at old.entries e [] nothing k (sym last))
  ];
})
  where
    e : Assigned
    e = record { literal = l; level = old.level; reason = reason }

-- a trail that stays or gets one literal more has grown
pub grown_none : (t : Trailing) → IsGrown t t
grown_none t = record { variables = refl; level = refl; longer = omega arith; kept = take_all (length t.entries) t.entries (omega arith) }

pub grown_one : (old new : Trailing) (l : SatLit) (reason : Option ℕ) → new ≡ record old { entries = old.entries ++ record { literal = l; level = old.level; reason = reason } ∷ [] } → IsGrown old new
grown_one old new l reason assigned = subst (IsGrown old) (sym assigned) (record {
  variables = refl;
  level = refl;
  longer = omega (arith, length-append old.entries (e ∷ []));
  kept = take-append-le (length old.entries) old.entries (e ∷ []) (omega arith) ∙ take_all (length old.entries) old.entries (omega arith);
})
  where
    e : Assigned
    e = record { literal = l; level = old.level; reason = reason }

-- a trail that has grown twice has grown
pub grown_twice : (old mid now : Trailing) → IsGrown old mid → IsGrown mid now → IsGrown old now
grown_twice old mid now first second = record {
  variables = second.variables ∙ first.variables;
  level = second.level ∙ first.level;
  longer = omega (arith, first.longer, second.longer);
  kept = sym (take-take (length old.entries) (length mid.entries) now.entries first.longer) ∙ (ap (take (length old.entries)) second.kept ∙ first.kept);
}

-- no level is above the present one
pub low_level : (t : Trailing) → IsTrail t → (k : ℕ) → k < length t.entries → (entry_at t.entries k).level ≤ t.level
low_level t is k within = omega (arith, is.levels k within, sum_by-take-le (λ (x : Assigned). cond (is_none x.reason) 1 0) t.entries (k + 1), is.level)
