-- The value of each literal, with one literal more at the end, and after the last ones were taken off.
use Rattle.std.proofs.Common.{◌≡◌, ◌≢◌, ℕ, ◌+◌, ◌-◌, ◌*◌, ◌/◌, ◌<◌, ◌≤◌, cond, Bool, true, false, List, [], ◌∷◌, ◌++◌, length, take, drop, All, Option, None, Some, slice_index_or, slice_set, Vec, inl, inr, refl, sym, ◌∙◌, ap, arith}
use Rattle.std.proofs.lemmas.Bool.{both_ways, cases_Bool, cases_eq, false_from_ne_true}
use Rattle.std.proofs.lemmas.Bool.Decides.{leb_tells}
use Rattle.std.proofs.lemmas.List.{get_or_append_left, get_or_at, get_or_default, get_or-drop, get_or-set_other, get_or-set_same, get_or-take, get_or_past, length-append, length-drop, length-set, length-take-le}
use Rattle.std.specs.declared.alloc.Global.{Global}
use Rattle.cnf_core.specs.declared.literal.SatLit.{SatLit}
use Rattle.cnf_core.specs.Clauses.{opposite, variable_of}
use Rattle.cnf_core.specs.Derivations.{is_false, is_true}
use Rattle.trail_core.specs.declared.assigned.Assigned.{Assigned}
use Rattle.trail_core.specs.Trails.{IsTrail, Trailing, entry_at, literals, nothing, value_in}
use Rattle.trail_core.specs.Places.{AreUnassigned, AreValues, IsKept, place_at, value_at, with_true, without}
use Rattle.trail_core.proofs.TrailLemmas.{before_or_last, not_false, not_true_of, place_of_true, true_at, value_false, value_none, value_true}

-- a literal that is as true and as false has the same value
value_same : (one two : List SatLit) (l : SatLit) → is_true one l ≡ is_true two l → is_false one l ≡ is_false two l → value_in one l ≡ value_in two l
value_same one two l t f =
    ap (λ b. cond b (Some true) (cond (is_false one l) (Some false) None)) t ∙ ap (λ b. cond (is_true two l) (Some true) (cond b (Some false) None)) f

-- a literal over no variable has none
pub value_past : (t : Trailing) → IsTrail t → (l : SatLit) → t.variables ≤ variable_of l → value_in (literals t.entries) l ≡ None
value_past t is l past =
    value_none (literals t.entries) l (not_true_of t.entries l (apart (variable_of l) past)) (not_true_of t.entries (opposite l) (apart (variable_of (opposite l)) (omega (arith, past))))
  where
    apart : (v : ℕ) → t.variables ≤ v → All (λ (e : Assigned). variable_of e.literal ≢ v) t.entries
    apart v high k d h same =
        omega (arith, is.known k h, high, ap (λ (e : Assigned). variable_of e.literal) (get_or_default t.entries k nothing d h) ∙ same)

-- ---- no literal

-- ---- one literal more

true_more : (es : List Assigned) (e : Assigned) (l : SatLit) → e.literal.0 ≢ l.0 → is_true (literals (es ++ e ∷ [])) l ≡ is_true (literals es) l
true_more es e l ne = elim (cases_Bool (is_true (literals es) l)) [
  | inl holds ↦
      let j = place_of_true es l holds in
      let at = ap (λ (x : Assigned). x.literal.0) (get_or_append_left es (e ∷ []) nothing j.0 j.1) ∙ j.2 in
      true_at (es ++ e ∷ []) j.0 l (omega (arith, j.1, length-append es (e ∷ []))) at ∙ sym holds
  | inr fails ↦
      false_from_ne_true (is_true (literals (es ++ e ∷ [])) l) (λ holds.
      let j = place_of_true (es ++ e ∷ []) l holds in
      elim (before_or_last es e j.0 j.1) [
        | inl before ↦ both_ways (is_true (literals es) l) fails (true_at es j.0 l before (ap (λ (x : Assigned). x.literal.0) (sym (get_or_append_left es (e ∷ []) nothing j.0 before)) ∙ j.2))
        | inr last ↦ ne (ap (λ (x : Assigned). x.literal.0) (sym (get_or_at es e [] nothing j.0 (sym last))) ∙ j.2)
      ])
      ∙ sym fails
]

true_last : (es : List Assigned) (e : Assigned) (l : SatLit) → e.literal.0 ≡ l.0 → is_true (literals (es ++ e ∷ [])) l ≡ true
true_last es e l same =
    true_at (es ++ e ∷ []) (length es) l (omega (arith, length-append es (e ∷ []))) (ap (λ (x : Assigned). x.literal.0) (get_or_at es e [] nothing (length es) refl) ∙ same)

pub values_more : (n : ℕ) (es : List Assigned) (values : List (Option Bool)) (e : Assigned) → AreValues n es values → variable_of e.literal < n → value_in (literals es) e.literal ≡ None → AreValues n (es ++ e ∷ []) (with_true e.literal values)
values_more n es values e is known free = record {
  size = length-set (slice_set values e.literal.0 (Some true)) (opposite e.literal).0 (Some false) ∙ (length-set values e.literal.0 (Some true) ∙ is.size);
  each = λ c within.
      let low : c < length values = omega (arith, within, length-set (slice_set values e.literal.0 (Some true)) (opposite e.literal).0 (Some false), length-set values e.literal.0 (Some true)) in
      elim (cases_eq c (opposite e.literal).0) [
        | inl is_opposite ↦
            ap (value_at (with_true e.literal values)) is_opposite
            ∙ (get_or-set_same (slice_set values e.literal.0 (Some true)) (opposite e.literal).0 (Some false) None (omega (arith, known, is.size, length-set values e.literal.0 (Some true)))
            ∙ sym (ap (λ k. value_in (literals (es ++ e ∷ [])) (record { 0 = k })) is_opposite ∙ falsity))
        | inr not_opposite ↦ elim (cases_eq c e.literal.0) [
          | inl mine ↦
              get_or-set_other (slice_set values e.literal.0 (Some true)) (opposite e.literal).0 c (Some false) None not_opposite
              ∙ (ap (value_at (slice_set values e.literal.0 (Some true))) mine
              ∙ (get_or-set_same values e.literal.0 (Some true) None (omega (arith, known, is.size))
              ∙ sym (ap (λ k. value_in (literals (es ++ e ∷ [])) (record { 0 = k })) mine ∙ value_true (literals (es ++ e ∷ [])) e.literal (true_last es e e.literal refl))))
          | inr other ↦
              get_or-set_other (slice_set values e.literal.0 (Some true)) (opposite e.literal).0 c (Some false) None not_opposite
              ∙ (get_or-set_other values e.literal.0 c (Some true) None other
              ∙ (is.each c low ∙ value_same (literals es) (literals (es ++ e ∷ [])) (record { 0 = c }) (sym (true_more es e (record { 0 = c }) (λ same. other (sym same)))) (sym (true_more es e (opposite (record { 0 = c })) (λ same. not_opposite (omega (arith, same)))))))
        ]
      ];
}
  where
    falsity : value_in (literals (es ++ e ∷ [])) (opposite e.literal) ≡ Some false
    falsity =
        let fails = true_more es e (opposite e.literal) (λ same. omega (arith, same)) ∙ not_false (literals es) e.literal free in
        value_false (literals (es ++ e ∷ [])) (opposite e.literal) fails (true_last es e (opposite (opposite e.literal)) (omega arith))

-- ---- the last ones taken off

true_cut : (es : List Assigned) (kept : ℕ) (l : SatLit) → kept ≤ length es → ((k : ℕ) → kept ≤ k → k < length es → variable_of (entry_at es k).literal ≢ variable_of l) → is_true (literals (take kept es)) l ≡ is_true (literals es) l
true_cut es kept l few none = elim (cases_Bool (is_true (literals es) l)) [
  | inl holds ↦
      let j = place_of_true es l holds in
      elim (leb_tells kept j.0) [
        | inl (found, late) ↦ absurd (none j.0 late j.1 (ap (λ n. n / 2) j.2))
        | inr (found, early) ↦ true_at (take kept es) j.0 l (omega (arith, early, length-take-le kept es few)) (ap (λ (x : Assigned). x.literal.0) (get_or-take kept es j.0 nothing early) ∙ j.2) ∙ sym holds
      ]
  | inr fails ↦
      false_from_ne_true (is_true (literals (take kept es)) l) (λ holds.
      let j = place_of_true (take kept es) l holds in
      let early : j.0 < kept = omega (arith, j.1, length-take-le kept es few) in
      both_ways (is_true (literals es) l) fails (true_at es j.0 l (omega (arith, early, few)) (ap (λ (x : Assigned). x.literal.0) (sym (get_or-take kept es j.0 nothing early)) ∙ j.2)))
      ∙ sym fails
]

pub values_cut : (entries : Vec Assigned Global) (places : List (Option ℕ)) (values now : List (Option Bool)) (level walked kept : ℕ) → IsKept entries places values level walked → kept ≤ length entries.items → AreUnassigned values now (drop kept entries.items) (length (drop kept entries.items)) → AreValues (length places) (take kept entries.items) now
values_cut entries places values now level walked kept is few unassigned = record {
  size = unassigned.same_length ∙ is.valued.size;
  each = λ c within. by_place c (omega (arith, within, unassigned.same_length)) (place_at places (variable_of (record { 0 = c }))) refl;
}
  where
    after : (k : ℕ) → entry_at (drop kept entries.items) k ≡ entry_at entries.items (kept + k)
    after k = get_or-drop kept entries.items k nothing

    -- no literal that is dropped has its variable
    stays : (c : ℕ) → c < length values → ((k : ℕ) → kept ≤ k → k < length entries.items → variable_of (entry_at entries.items k).literal ≢ variable_of (record { 0 = c })) → value_at now c ≡ value_in (literals (take kept entries.items)) (record { 0 = c })
    stays c low none =
        let es = entries.items in
        let l : SatLit = record { 0 = c } in
        let half : variable_of (opposite l) ≡ variable_of l = omega arith in
        let same = unassigned.others c (λ k h is_it. none (kept + k) (omega arith) (omega (arith, h, length-drop kept es)) (ap (λ (e : Assigned). variable_of e.literal) (sym (after k)) ∙ is_it)) in
        same ∙ (is.valued.each c low ∙ value_same (literals es) (literals (take kept es)) l (sym (true_cut es kept l few none)) (sym (true_cut es kept (opposite l) few (λ k late inside is_it. none k late inside (is_it ∙ half)))))

    by_place : (c : ℕ) → c < length values → (place : Option ℕ) → place_at places (variable_of (record { 0 = c })) ≡ place → value_at now c ≡ value_in (literals (take kept entries.items)) (record { 0 = c })
    by_place c low None was =
        stays c low (λ k late inside same.
        let clash : Some k ≡ None = sym (is.filled k inside) ∙ (ap (place_at places) same ∙ was) in cc)
    by_place c low (Some q) was =
        let es = entries.items in
        let l : SatLit = record { 0 = c } in
        let old = is.told (variable_of l) q (omega (arith, low, is.valued.size)) was in
        elim (leb_tells kept q) [
          | inr (found, front) ↦ stays c low (λ k late inside same. is.trail.distinct q k (omega (arith, front, late)) inside (old.there ∙ sym same))
          | inl (found, back) ↦
              let place : kept + (q - kept) ≡ q = omega (arith, back) in
              let variable : variable_of (entry_at (drop kept es) (q - kept)).literal ≡ variable_of l = ap (λ (e : Assigned). variable_of e.literal) (after (q - kept)) ∙ (ap (λ n. variable_of (entry_at es n).literal) place ∙ old.there) in
              let gone = unassigned.none c (q - kept) (omega (arith, back, old.within, length-drop kept es)) variable in
              let half : variable_of (opposite l) ≡ variable_of l = omega arith in
              let absent : (k : ℕ) (d : Assigned) → k < length (take kept es) → variable_of (slice_index_or (take kept es) k d).literal ≢ variable_of l = λ k d h same.
              let below : k < kept = omega (arith, h, length-take-le kept es few) in
              let at = get_or-take kept es k d below ∙ get_or_default es k d nothing (omega (arith, below, few)) in
              is.trail.distinct k q (omega (arith, below, back)) old.within (ap (λ (e : Assigned). variable_of e.literal) (sym at) ∙ (same ∙ sym old.there)) in
              gone ∙ sym (value_none (literals (take kept es)) l (not_true_of (take kept es) l absent) (not_true_of (take kept es) (opposite l) (λ k d h same. absent k d h (same ∙ half))))
        ]

-- ---- values that are taken away

set_none : (xs : List (Option Bool)) (at : ℕ) → value_at (slice_set xs at None) at ≡ None
set_none xs at = elim (leb_tells (length xs) at) [
  | inl (found, past) ↦ get_or_past (slice_set xs at None) at None (omega (arith, past, length-set xs at None))
  | inr (found, within) ↦ get_or-set_same xs at None None within
]

still : (xs : List (Option Bool)) (at c : ℕ) → value_at xs c ≡ None → value_at (slice_set xs at None) c ≡ None
still xs at c was = elim (cases_eq c at) [
  | inl here ↦ ap (value_at (slice_set xs at None)) here ∙ set_none xs at
  | inr other ↦ get_or-set_other xs at c None None other ∙ was
]

emptied : (l : SatLit) (now : List (Option Bool)) (c : ℕ) → value_at now c ≡ None → value_at (without l now) c ≡ None
emptied l now c none = still (slice_set now l.0 None) (opposite l).0 c (still now l.0 c none)

pub unassigned_more : (old now : List (Option Bool)) (dropped : List Assigned) (count : ℕ) (e : Assigned) → entry_at dropped count ≡ e → 2 * variable_of e.literal + 1 < length now → AreUnassigned old now dropped count → AreUnassigned old (without e.literal now) dropped (count + 1)
unassigned_more old now dropped count e at known is = record {
  same_length = length-set (slice_set now e.literal.0 None) (opposite e.literal).0 None ∙ (length-set now e.literal.0 None ∙ is.same_length);
  none = λ c k h same. elim (cases_eq k count) [
    | inl last ↦ erased c (sym (ap (λ n. variable_of (entry_at dropped n).literal) last ∙ ap (λ (x : Assigned). variable_of x.literal) at) ∙ same)
    | inr before ↦ emptied e.literal now c (is.none c k (omega (arith, h, before)) same)
  ];
  others = λ c none.
      let differ : variable_of e.literal ≢ variable_of (record { 0 = c }) = λ same. none count (omega arith) (ap (λ (x : Assigned). variable_of x.literal) at ∙ same) in
      get_or-set_other (slice_set now e.literal.0 None) (opposite e.literal).0 c None None (λ x. differ (omega (arith, x)))
      ∙ (get_or-set_other now e.literal.0 c None None (λ x. differ (omega (arith, x))) ∙ is.others c (λ k h. none k (omega (arith, h))));
}
  where
    erased : (c : ℕ) → variable_of e.literal ≡ variable_of (record { 0 = c }) → value_at (without e.literal now) c ≡ None
    erased c same = elim (cases_eq c (opposite e.literal).0) [
      | inl opposite_is ↦ ap (value_at (without e.literal now)) opposite_is ∙ get_or-set_same (slice_set now e.literal.0 None) (opposite e.literal).0 None None (omega (arith, known, length-set now e.literal.0 None))
      | inr other ↦
          let mine : c ≡ e.literal.0 = omega (arith, same, other) in
          get_or-set_other (slice_set now e.literal.0 None) (opposite e.literal).0 c None None other ∙ (ap (value_at (slice_set now e.literal.0 None)) mine ∙ get_or-set_same now e.literal.0 None None (omega (arith, known)))
    ]

-- the literals that are dropped are over known variables
pub dropped_known : (t : Trailing) → IsTrail t → (kept size : ℕ) → size ≡ 2 * t.variables → All (λ (e : Assigned). 2 * variable_of e.literal + 1 < size) (drop kept t.entries)
dropped_known t is kept size counted k d h =
    let inside : kept + k < length t.entries = omega (arith, h, length-drop kept t.entries) in
    let at = get_or-drop kept t.entries k d ∙ get_or_default t.entries (kept + k) d nothing inside in
    omega (arith, ap (λ (e : Assigned). variable_of e.literal) at, is.known (kept + k) inside, counted)
