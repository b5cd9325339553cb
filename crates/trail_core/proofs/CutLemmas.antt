-- The last literals taken off a trail, those of greater levels.
use Rattle.std.proofs.Common.{◌≡◌, ◌≢◌, ℕ, zero, suc, ◌+◌, ◌-◌, ◌<◌, ◌≤◌, cond, Bool, true, false, List, [], ◌∷◌, ◌++◌, length, take, drop, filter, min, nat_le, All, Option, None, Some, is_none, Vec, vec_capacity, inl, inr, refl, sym, ◌∙◌, ap, subst, arith}
use Rattle.std.proofs.lemmas.Bool.{cases_eq, le-leb, lt-leb}
use Rattle.std.proofs.lemmas.Bool.Decides.{leb_tells}
use Rattle.std.proofs.lemmas.List.{append-nil, get_or_default, get_or-take, get_or-drop, length-take-le, length-drop, take-take, take-append-drop, take_all}
use Rattle.std.proofs.lemmas.List.Elements.{All-head, All-tail, filter-append}
use Rattle.std.proofs.lemmas.List.Sums.{sum_by-take-le}
use Rattle.std.specs.declared.alloc.Global.{Global}
use Rattle.cnf_core.specs.Clauses.{variable_of}
use Rattle.trail_core.specs.declared.assigned.Assigned.{Assigned}
use Rattle.trail_core.specs.Trails.{IsTrail, IsBack, IsPlace, IsCutAt, Trailing, decisions, entry_at, nothing}
use Rattle.trail_core.specs.Places.{AreValues, IsKept, IsUnset, place_at}
use Rattle.trail_core.proofs.TrailLemmas.{decisions_more}

-- the literals from a place on have a greater level
pub record IsPassed (level : ℕ) (entries : List Assigned) (kept : ℕ) : Type 0 where
  pub within : kept ≤ length entries
  pub dropped : (k : ℕ) → kept ≤ k → k < length entries → level < (entry_at entries k).level

-- levels ascend
pub ascend : (t : Trailing) → IsTrail t → (j k : ℕ) → j ≤ k → k < length t.entries → (entry_at t.entries j).level ≤ (entry_at t.entries k).level
ascend t is j k order within =
    let es = t.entries in
    let fewer = sum_by-take-le (λ (x : Assigned). cond (is_none x.reason) 1 0) (take (k + 1) es) (j + 1) in
    let front : take (j + 1) (take (k + 1) es) ≡ take (j + 1) es = take-take (j + 1) (k + 1) es (omega (arith, order)) in
    omega (arith, is.levels j (omega (arith, order, within)), is.levels k within, fewer, ap decisions front)

pub kept_low : (t : Trailing) → IsTrail t → (level kept : ℕ) → IsCutAt level t.entries kept → (k : ℕ) → k < kept → (entry_at t.entries k).level ≤ level
kept_low t is level kept cut k below =
    omega (arith, ascend t is k (kept - 1) (omega (arith, below)) (omega (arith, below, cut.within)), cut.last (omega (arith, below)))

passes_all : (p : Assigned → Bool) (xs : List Assigned) → All (λ x. p x ≡ true) xs → filter p xs ≡ xs
passes_all p [] all = refl
passes_all p (x ∷ xs) all =
    ap (λ t. cond t (x ∷ filter p xs) (filter p xs)) (All-head (λ x. p x ≡ true) x xs all) ∙ ap (λ ys. x ∷ ys) (passes_all p xs (All-tail (λ x. p x ≡ true) x xs all))

passes_none : (p : Assigned → Bool) (xs : List Assigned) → All (λ x. p x ≡ false) xs → filter p xs ≡ []
passes_none p [] none = refl
passes_none p (x ∷ xs) none =
    ap (λ t. cond t (x ∷ filter p xs) (filter p xs)) (All-head (λ x. p x ≡ false) x xs none) ∙ passes_none p xs (All-tail (λ x. p x ≡ false) x xs none)

-- what is kept is what has no greater level
kept_is_filter : (t : Trailing) → IsTrail t → (level kept : ℕ) → IsCutAt level t.entries kept → take kept t.entries ≡ filter (λ e. nat_le e.level level) t.entries
kept_is_filter t is level kept cut =
    let es = t.entries in
    let p : Assigned → Bool = λ e. nat_le e.level level in
    let front = passes_all p (take kept es) low in
    let back = passes_none p (drop kept es) high in
    sym (ap (filter p) (sym (take-append-drop kept es)) ∙ (filter-append p (take kept es) (drop kept es) ∙ (ap (λ ys. filter p (take kept es) ++ ys) back ∙ (append-nil (filter p (take kept es)) ∙ front))))
  where
    low : All (λ (e : Assigned). nat_le e.level level ≡ true) (take kept t.entries)
    low k d h =
        let below : k < kept = omega (arith, h, length-take-le kept t.entries cut.within) in
        let there = get_or-take kept t.entries k d below ∙ get_or_default t.entries k d nothing (omega (arith, below, cut.within)) in
        ap (λ (e : Assigned). nat_le e.level level) there ∙ le-leb (entry_at t.entries k).level level (kept_low t is level kept cut k below)

    high : All (λ (e : Assigned). nat_le e.level level ≡ false) (drop kept t.entries)
    high k d h =
        let inside : kept + k < length t.entries = omega (arith, h, length-drop kept t.entries) in
        let there = get_or-drop kept t.entries k d ∙ get_or_default t.entries (kept + k) d nothing inside in
        ap (λ (e : Assigned). nat_le e.level level) there ∙ lt-leb (entry_at t.entries (kept + k)).level level (cut.dropped (kept + k) (omega arith) inside)

-- so it is gone back to the level
pub cut_back : (t old back : Trailing) → IsTrail t → t ≡ old → (level kept : ℕ) → IsCutAt level t.entries kept → back.variables ≡ t.variables → back.entries ≡ take kept t.entries → back.level ≡ level → back.walked ≡ min t.walked kept → IsBack old back level
cut_back t old back is same level kept cut variables entries level_is walked =
    let size : length back.entries ≡ kept = ap length entries ∙ length-take-le kept t.entries cut.within in
    subst (λ x. IsBack x back level) same (record {
      variables = variables;
      entries = entries ∙ kept_is_filter t is level kept cut;
      front = entries ∙ ap (λ n. take n t.entries) (sym size);
      level_is = level_is;
      walked = walked ∙ ap (min t.walked) (sym size);
    })

one_at_most : (r : Option ℕ) → cond (is_none r) 1 0 ≤ 1
one_at_most None = omega arith
one_at_most (Some r) = omega arith

-- the level of what is kept
kept_level : (t : Trailing) → IsTrail t → (level kept : ℕ) → level ≤ t.level → IsCutAt level t.entries kept → level ≡ decisions (take kept t.entries)
kept_level t is level kept most cut = omega (arith, at_most kept cut.within cut.last, at_least)
  where
    at_most : (k : ℕ) → k ≤ length t.entries → (0 < k → (entry_at t.entries (k - 1)).level ≤ level) → decisions (take k t.entries) ≤ level
    at_most zero within last = omega arith
    at_most (suc k) within last =
        let counted = is.levels k (omega (arith, within)) in
        let here : k + 1 ≡ suc k = omega arith in
        let before : suc k - 1 ≡ k = omega arith in
        omega (arith, counted, ap (λ n. decisions (take n t.entries)) here, ap (λ n. (entry_at t.entries n).level) before, last (omega arith))

    at_least : level ≤ decisions (take kept t.entries)
    at_least =
        elim (cases_eq kept (length t.entries)) [
          | inl all ↦ omega (arith, ap decisions (take_all kept t.entries (omega (arith, all))), is.level, most)
          | inr fewer ↦
              let within : kept < length t.entries = omega (arith, cut.within, fewer) in
              omega (arith, cut.dropped kept (omega arith) within, is.levels kept within, decisions_more t.entries kept within, one_at_most (entry_at t.entries kept).reason)
        ]

-- a trail whose last literals were taken off
cut_trail : (t : Trailing) → IsTrail t → (level kept : ℕ) → level ≤ t.level → IsCutAt level t.entries kept → IsTrail (record { variables = t.variables; entries = take kept t.entries; level = level; walked = min t.walked kept })
cut_trail t is level kept most cut =
    let size = length-take-le kept t.entries cut.within in
    record {
      known = λ k h. let below : k < kept = omega (arith, h, size) in subst (λ (e : Assigned). variable_of e.literal < t.variables) (sym (there k below)) (is.known k (omega (arith, below, cut.within)));
      distinct = λ j k order h same.
          let below : k < kept = omega (arith, h, size) in
          let first : j < kept = omega (arith, order, below) in
          is.distinct j k order (omega (arith, below, cut.within)) (ap (λ (e : Assigned). variable_of e.literal) (sym (there j first)) ∙ (same ∙ ap (λ (e : Assigned). variable_of e.literal) (there k below)));
      levels = λ k h.
          let below : k < kept = omega (arith, h, size) in
          ap (λ (e : Assigned). e.level) (there k below) ∙ (is.levels k (omega (arith, below, cut.within)) ∙ ap decisions (sym (take-take (k + 1) kept t.entries (omega (arith, below)))));
      level = kept_level t is level kept most cut;
      walked = omega (arith, size, is.walked);
    }
  where
    there : (k : ℕ) → k < kept → entry_at (take kept t.entries) k ≡ entry_at t.entries k
    there k below = get_or-take kept t.entries k nothing below

-- what a trail keeps whose last literals were taken off
pub kept_cut : (entries new : Vec Assigned Global) (places now : List (Option ℕ)) (values values_now : List (Option Bool)) (old_level walked level kept : ℕ) → IsKept entries places values old_level walked → level ≤ old_level → IsCutAt level entries.items kept → IsUnset places now (drop kept entries.items) (length (drop kept entries.items)) → new.items ≡ take kept entries.items → vec_capacity new ≡ vec_capacity entries → AreValues (length places) (take kept entries.items) values_now → IsKept new now values_now level (min walked kept)
kept_cut entries new places now values values_now old_level walked level kept is most cut unset items capacity valued = record {
  trail = subst (λ n. IsTrail (record { variables = n; entries = new.items; level = level; walked = min walked kept })) (sym unset.same_length) (subst (λ xs. IsTrail (record { variables = length places; entries = xs; level = level; walked = min walked kept })) (sym items) (cut_trail (record { variables = length places; entries = entries.items; level = old_level; walked = walked }) is.trail level kept most cut));
  filled = subst (λ (xs : List Assigned). (k : ℕ) → k < length xs → place_at now (variable_of (entry_at xs k).literal) ≡ Some k) (sym items) filled;
  told = subst (λ (xs : List Assigned). (v p : ℕ) → v < length now → place_at now v ≡ Some p → IsPlace xs v p) (sym items) told;
  room = omega (arith, unset.same_length, is.room, capacity);
  valued = subst (λ n. AreValues n new.items values_now) (sym unset.same_length) (subst (λ (xs : List Assigned). AreValues (length places) xs values_now) (sym items) valued);
}
  where
    there : (k : ℕ) → k < kept → entry_at (take kept entries.items) k ≡ entry_at entries.items k
    there k below = get_or-take kept entries.items k nothing below

    after : (k : ℕ) → entry_at (drop kept entries.items) k ≡ entry_at entries.items (kept + k)
    after k = get_or-drop kept entries.items k nothing

    -- a variable of a literal that is kept isn't that of one that is dropped
    stays : (j : ℕ) → j < kept → (k : ℕ) → k < length (drop kept entries.items) → variable_of (entry_at (drop kept entries.items) k).literal ≢ variable_of (entry_at entries.items j).literal
    stays j below k h same =
        is.trail.distinct j (kept + k) (omega (arith, below)) (omega (arith, h, length-drop kept entries.items)) (sym (ap (λ (e : Assigned). variable_of e.literal) (sym (after k)) ∙ same))

    filled : (k : ℕ) → k < length (take kept entries.items) → place_at now (variable_of (entry_at (take kept entries.items) k).literal) ≡ Some k
    filled k h =
        let below : k < kept = omega (arith, h, length-take-le kept entries.items cut.within) in
        ap (λ (e : Assigned). place_at now (variable_of e.literal)) (there k below) ∙ (unset.others _ (stays k below) ∙ is.filled k (omega (arith, below, cut.within)))

    by_old : (v p : ℕ) → v < length places → (old : Option ℕ) → place_at places v ≡ old → place_at now v ≡ Some p → IsPlace (take kept entries.items) v p
    by_old v p below None was at =
        let gone = unset.others v (λ k h same.
        let stood = is.filled (kept + k) (omega (arith, h, length-drop kept entries.items)) in
        let here : place_at places v ≡ Some (kept + k) = ap (place_at places) (sym same) ∙ (ap (λ (e : Assigned). place_at places (variable_of e.literal)) (after k) ∙ stood) in
        let clash : None ≡ Some (kept + k) = sym was ∙ here in cc) in
        absurd (let clash : None ≡ Some p = sym (gone ∙ was) ∙ at in cc)
    by_old v p below (Some q) was at =
        let old = is.told v q below was in
        elim (leb_tells kept q) [
          | inr (found, front) ↦
              let kept_there = unset.others v (λ k h same. stays q front k h (same ∙ sym old.there)) in
              let same : Some q ≡ Some p = sym (kept_there ∙ was) ∙ at in
              let number : q ≡ p = cc in
              let first : p < kept = omega (arith, front, number) in
              record {
                within = omega (arith, first, length-take-le kept entries.items cut.within);
                there = ap (λ (e : Assigned). variable_of e.literal) (there p first) ∙ (ap (λ n. variable_of (entry_at entries.items n).literal) (sym number) ∙ old.there);
              }
          | inl (found, back) ↦
              let place : kept + (q - kept) ≡ q = omega (arith, back) in
              let gone = unset.none (q - kept) (omega (arith, back, old.within, length-drop kept entries.items)) in
              let variable : variable_of (entry_at (drop kept entries.items) (q - kept)).literal ≡ v = ap (λ (e : Assigned). variable_of e.literal) (after (q - kept)) ∙ (ap (λ n. variable_of (entry_at entries.items n).literal) place ∙ old.there) in
              absurd (let clash : None ≡ Some p = sym (sym (ap (place_at now) variable) ∙ gone) ∙ at in cc)
        ]

    told : (v p : ℕ) → v < length now → place_at now v ≡ Some p → IsPlace (take kept entries.items) v p
    told v p h at = by_old v p (omega (arith, h, unset.same_length)) (place_at places v) refl at
