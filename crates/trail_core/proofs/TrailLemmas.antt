-- What is true on a trail, where the literals of variables stand, and one literal more at the end.
use Rattle.std.proofs.Common.{◌≡◌, ◌≢◌, ℕ, ◌+◌, ◌/◌, ◌<◌, ◌≤◌, cond, eqb, Bool, true, false, List, [], ◌∷◌, ◌++◌, length, map, take, All, Option, None, Some, is_none, slice_index_or, slice_set, Vec, vec_capacity, ◌⊎◌, inl, inr, refl, sym, ◌∙◌, ap, subst, arith}
use Rattle.std.specs.List.{list_any}
use Rattle.std.proofs.lemmas.Bool.{cases_eq, false≢true, false_from_ne_true, eq-eqb, eqb-true, ne_eqb}
use Rattle.std.proofs.lemmas.Bool.Decides.{leb_tells}
use Rattle.std.proofs.lemmas.List.{get_or-map, get_or-set_same, get_or-set_other, get_or_append_left, get_or_at, length-set, length-append, length-map, take-append-le, take_all}
use Rattle.std.proofs.lemmas.List.Elements.{All-contains, All-from_get_or, All-map}
use Rattle.std.proofs.lemmas.List.Folds.{list_any_at}
use Rattle.std.proofs.lemmas.List.Sums.{sum_by_push, sum_by_more}
use Rattle.std.proofs.lemmas.Map.Views.{Contains-from_any}
use Rattle.std.proofs.lemmas.Map.Keys.{IsDistinct-from_apart}
use Rattle.std.proofs.lemmas.Map.Steps.{length-le_from_distinct_below}
use Rattle.std.specs.declared.alloc.Global.{Global}
use Rattle.cnf_core.specs.declared.literal.SatLit.{SatLit}
use Rattle.cnf_core.specs.Clauses.{variable_of, opposite}
use Rattle.cnf_core.specs.Derivations.{is_same, is_true, is_false}
use Rattle.cnf_core.proofs.LiteralLemmas.{same_literal}
use Rattle.trail_core.specs.declared.assigned.Assigned.{Assigned}
use Rattle.trail_core.specs.Trails.{IsTrail, IsPlace, IsFree, Trailing, decisions, entry_at, literals, nothing, value_in}
use Rattle.trail_core.specs.Places.{AreValues, IsKept, place_at}

-- a literal that stands on a trail is true
pub true_at : (es : List Assigned) (j : ℕ) (l : SatLit) → j < length es → (entry_at es j).literal.0 ≡ l.0 → is_true (literals es) l ≡ true
true_at es j l within same =
    let there = get_or-map (λ (e : Assigned). e.literal) es j nothing l within in
    let inside : j < length (literals es) = omega (arith, within, length-map es (λ (e : Assigned). e.literal)) in
    list_any_at (is_same l) (literals es) j l inside (ap (is_same l) there ∙ eq-eqb l.0 (entry_at es j).literal.0 (sym same))

-- a true literal stands somewhere
pub place_of_true : (es : List Assigned) (l : SatLit) → is_true (literals es) l ≡ true → (j : ℕ) × (j < length es) × ((entry_at es j).literal.0 ≡ l.0)
place_of_true es l e =
    let found = Contains-from_any same_literal l (literals es) e in
    let within : found.0 < length es = omega (arith, found.1, length-map es (λ (e : Assigned). e.literal)) in
    (found.0, within, ap (λ (m : SatLit). m.0) (sym (get_or-map (λ (e : Assigned). e.literal) es found.0 nothing l within) ∙ found.2))

-- where no literal has the variable, the literal isn't true
pub not_true_of : (es : List Assigned) (l : SatLit) → All (λ e. variable_of e.literal ≢ variable_of l) es → is_true (literals es) l ≡ false
not_true_of es l none =
    false_from_ne_true (is_true (literals es) l) (λ holds. let there = place_of_true es l holds in none there.0 nothing there.1 (ap (λ n. n / 2) there.2))

-- what a value of None says
of_none : (t f : Bool) → cond t (Some true) (cond f (Some false) None) ≡ None → (t ≡ false) × (f ≡ false)
of_none true f e = absurd (let x : Some true ≡ None = e in cc)
of_none false true e = absurd (let x : Some false ≡ None = e in cc)
of_none false false e = (refl, refl)

pub not_true : (made : List SatLit) (l : SatLit) → value_in made l ≡ None → is_true made l ≡ false
not_true made l e = (of_none (is_true made l) (is_false made l) e).0

pub not_false : (made : List SatLit) (l : SatLit) → value_in made l ≡ None → is_false made l ≡ false
not_false made l e = (of_none (is_true made l) (is_false made l) e).1

pub value_none : (made : List SatLit) (l : SatLit) → is_true made l ≡ false → is_false made l ≡ false → value_in made l ≡ None
value_none made l t f = ap (λ b. cond b (Some true) (cond (is_false made l) (Some false) None)) t ∙ ap (λ b. cond b (Some false) None) f

pub value_true : (made : List SatLit) (l : SatLit) → is_true made l ≡ true → value_in made l ≡ Some true
value_true made l t = ap (λ b. cond b (Some true) (cond (is_false made l) (Some false) None)) t

pub value_false : (made : List SatLit) (l : SatLit) → is_true made l ≡ false → is_false made l ≡ true → value_in made l ≡ Some false
value_false made l t f = ap (λ b. cond b (Some true) (cond (is_false made l) (Some false) None)) t ∙ ap (λ b. cond b (Some false) None) f

-- two literals of one variable that differ are opposite
pub opposites : (m l : SatLit) → variable_of m ≡ variable_of l → m.0 ≢ l.0 → m.0 ≡ (opposite l).0
opposites m l same differ = omega (arith, same, differ)

-- a free literal's variable isn't that of any literal
pub free_at : (es : List Assigned) (l : SatLit) → value_in (literals es) l ≡ None → (j : ℕ) → j < length es → variable_of (entry_at es j).literal ≢ variable_of l
free_at es l free j within same =
    let m = (entry_at es j).literal in
    elim (cases_eq m.0 l.0) [
      | inl e ↦ false≢true (sym (not_true (literals es) l free) ∙ true_at es j l within e)
      | inr ne ↦ false≢true (sym (not_false (literals es) l free) ∙ true_at es j (opposite l) within (opposites m l same ne))
    ]

-- the literal of a variable stands at one place
pub same_place : (t : Trailing) → IsTrail t → (i j : ℕ) → i < length t.entries → j < length t.entries → variable_of (entry_at t.entries i).literal ≡ variable_of (entry_at t.entries j).literal → i ≡ j
same_place t is i j hi hj same = elim (cases_eq i j) [
  | inl e ↦ e
  | inr ne ↦ absurd (elim (leb_tells i j) [
    | inl (found, low) ↦ is.distinct i j (omega (arith, low, ne)) hj same
    | inr (found, high) ↦ is.distinct j i high hi (sym same)
  ])
]

-- what is at each place, with one literal more at the end
at_before : (es : List Assigned) (e : Assigned) (k : ℕ) → k < length es → entry_at (es ++ e ∷ []) k ≡ entry_at es k
at_before es e k within = get_or_append_left es (e ∷ []) nothing k within

at_last : (es : List Assigned) (e : Assigned) (k : ℕ) → k ≡ length es → entry_at (es ++ e ∷ []) k ≡ e
at_last es e k last = get_or_at es e [] nothing k (sym last)

pub before_or_last : (es : List Assigned) (e : Assigned) (k : ℕ) → k < length (es ++ e ∷ []) → (k < length es) ⊎ (k ≡ length es)
before_or_last es e k within =
    elim (cases_eq k (length es)) [ inl last ↦ inr last | inr other ↦ inl (omega (arith, within, length-append es (e ∷ []), other)) ]

pub decisions_more : (es : List Assigned) (k : ℕ) → k < length es → decisions (take (k + 1) es) ≡ decisions (take k es) + cond (is_none (entry_at es k).reason) 1 0
decisions_more es k within = sum_by_more (λ (x : Assigned). cond (is_none x.reason) 1 0) es k nothing within

-- a trail with one literal more
trail_more : (n : ℕ) (es : List Assigned) (level walked : ℕ) (e : Assigned) → IsTrail (record { variables = n; entries = es; level = level; walked = walked }) → variable_of e.literal < n → value_in (literals es) e.literal ≡ None → e.level ≡ level + cond (is_none e.reason) 1 0 → IsTrail (record { variables = n; entries = es ++ e ∷ []; level = e.level; walked = walked })
trail_more n es level walked e is known free raised = record {
  known = λ k h. elim (before_or_last es e k h) [
    | inl before ↦ subst (λ (x : Assigned). variable_of x.literal < n) (sym (at_before es e k before)) (is.known k before)
    | inr last ↦ subst (λ (x : Assigned). variable_of x.literal < n) (sym (at_last es e k last)) known
  ];
  distinct = λ j k order h same. elim (before_or_last es e k h) [
    | inl before ↦
        let first : j < length es = omega (arith, order, before) in
        is.distinct j k order before (ap (λ (x : Assigned). variable_of x.literal) (sym (at_before es e j first)) ∙ (same ∙ ap (λ (x : Assigned). variable_of x.literal) (at_before es e k before)))
    | inr last ↦
        let first : j < length es = omega (arith, order, last) in
        free_at es e.literal free j first (ap (λ (x : Assigned). variable_of x.literal) (sym (at_before es e j first)) ∙ (same ∙ ap (λ (x : Assigned). variable_of x.literal) (at_last es e k last)))
  ];
  levels = λ k h. elim (before_or_last es e k h) [
    | inl before ↦
        ap (λ (x : Assigned). x.level) (at_before es e k before)
        ∙ (is.levels k before ∙ ap decisions (sym (take-append-le (k + 1) es (e ∷ []) (omega (arith, before)))))
    | inr last ↦
        ap (λ (x : Assigned). x.level) (at_last es e k last)
        ∙ (whole ∙ ap decisions (sym (take_all (k + 1) (es ++ e ∷ []) (omega (arith, last, length-append es (e ∷ []))))))
  ];
  level = whole;
  walked = omega (arith, is.walked, length-append es (e ∷ []));
}
  where
    whole : e.level ≡ decisions (es ++ e ∷ [])
    whole = raised ∙ (ap (λ m. m + cond (is_none e.reason) 1 0) is.level ∙ sym (sum_by_push (λ (x : Assigned). cond (is_none x.reason) 1 0) es e))

-- at most as many literals are assigned as there are variables
pub at_most : (t : Trailing) → IsTrail t → length t.entries ≤ t.variables
at_most t is =
    let vs = map (λ (e : Assigned). variable_of e.literal) t.entries in
    let count = length-le_from_distinct_below vs t.variables (IsDistinct-from_apart eqb vs apart) below in
    omega (arith, count, length-map t.entries (λ (e : Assigned). variable_of e.literal))
  where
    at_map : (k d : ℕ) → k < length t.entries → slice_index_or (map (λ (e : Assigned). variable_of e.literal) t.entries) k d ≡ variable_of (entry_at t.entries k).literal
    at_map k d within = get_or-map (λ (e : Assigned). variable_of e.literal) t.entries k nothing d within

    apart : (i j d : ℕ) → i < j → j < length (map (λ (e : Assigned). variable_of e.literal) t.entries) → eqb (slice_index_or (map (λ (e : Assigned). variable_of e.literal) t.entries) i d) (slice_index_or (map (λ (e : Assigned). variable_of e.literal) t.entries) j d) ≡ false
    apart i j d before within =
        let inside : j < length t.entries = omega (arith, within, length-map t.entries (λ (e : Assigned). variable_of e.literal)) in
        ne_eqb _ _ (λ same. is.distinct i j before inside (sym (at_map i d (omega (arith, before, inside))) ∙ (same ∙ at_map j d inside)))

    below : (q : ℕ) → list_any (eqb q) (map (λ (e : Assigned). variable_of e.literal) t.entries) ≡ true → q < t.variables
    below q found =
        let vs = map (λ (e : Assigned). variable_of e.literal) t.entries in
        let known = All-map (λ v. v < t.variables) (λ (e : Assigned). variable_of e.literal) t.entries (All-from_get_or (λ (e : Assigned). variable_of e.literal < t.variables) t.entries nothing is.known) in
        All-contains (λ v. v < t.variables) vs q known (Contains-from_any (λ x y same. eqb-true x y same) q vs found)

-- fewer are where one is free
pub fewer : (t : Trailing) → IsTrail t → (l : SatLit) → IsFree t l → length t.entries < t.variables
fewer t is l free =
    let e : Assigned = record { literal = l; level = t.level + 1; reason = None } in
    let more = trail_more t.variables t.entries t.level t.walked e is free.known free.unassigned refl in
    omega (arith, at_most _ more, length-append t.entries (e ∷ []))

-- what a trail keeps, where equal lists stand for the places and the values
pub kept_as : {entries : Vec Assigned Global} {places now : List (Option ℕ)} {values values_now : List (Option Bool)} {level walked : ℕ} → now ≡ places → values_now ≡ values → IsKept entries places values level walked → IsKept entries now values_now level walked
kept_as {entries} {places} {now} {values} {values_now} {level} {walked} same values_same is =
    subst (λ ps. IsKept entries ps values_now level walked) (sym same) (subst (λ vs. IsKept entries places vs level walked) (sym values_same) is)

-- what a trail keeps, with one literal more
pub kept_more : (entries new : Vec Assigned Global) (places : List (Option ℕ)) (values now : List (Option Bool)) (level walked n : ℕ) (e : Assigned) → IsKept entries places values level walked → variable_of e.literal < length places → value_in (literals entries.items) e.literal ≡ None → e.level ≡ level + cond (is_none e.reason) 1 0 → n ≡ length entries.items → new.items ≡ entries.items ++ e ∷ [] → vec_capacity new ≡ vec_capacity entries → AreValues (length places) (entries.items ++ e ∷ []) now → IsKept new (slice_set places (variable_of e.literal) (Some n)) now e.level walked
kept_more entries new places values now level walked n e is known free raised counted items capacity valued =
    let es = entries.items in
    let v = variable_of e.literal in
    let same = length-set places v (Some n) in
    record {
      trail = subst (λ m. IsTrail (record { variables = m; entries = new.items; level = e.level; walked = walked })) (sym same) (subst (λ xs. IsTrail (record { variables = length places; entries = xs; level = e.level; walked = walked })) (sym items) (trail_more (length places) es level walked e is.trail known free raised));
      filled = subst (λ (xs : List Assigned). (k : ℕ) → k < length xs → place_at (slice_set places v (Some n)) (variable_of (entry_at xs k).literal) ≡ Some k) (sym items) filled;
      told = subst (λ (xs : List Assigned). (w p : ℕ) → w < length (slice_set places v (Some n)) → place_at (slice_set places v (Some n)) w ≡ Some p → IsPlace xs w p) (sym items) told;
      room = omega (arith, same, is.room, capacity);
      valued = subst (λ m. AreValues m new.items now) (sym same) (subst (λ (xs : List Assigned). AreValues (length places) xs now) (sym items) valued);
    }
  where
    filled : (k : ℕ) → k < length (entries.items ++ e ∷ []) → place_at (slice_set places (variable_of e.literal) (Some n)) (variable_of (entry_at (entries.items ++ e ∷ []) k).literal) ≡ Some k
    filled k h =
        let es = entries.items in
        let v = variable_of e.literal in
        elim (before_or_last es e k h) [
          | inl before ↦
              ap (λ (x : Assigned). place_at (slice_set places v (Some n)) (variable_of x.literal)) (at_before es e k before)
              ∙ (get_or-set_other places v (variable_of (entry_at es k).literal) (Some n) None (free_at es e.literal free k before) ∙ is.filled k before)
          | inr last ↦
              ap (λ (x : Assigned). place_at (slice_set places v (Some n)) (variable_of x.literal)) (at_last es e k last)
              ∙ (get_or-set_same places v (Some n) None known ∙ ap Some (counted ∙ sym last))
        ]

    told : (w p : ℕ) → w < length (slice_set places (variable_of e.literal) (Some n)) → place_at (slice_set places (variable_of e.literal) (Some n)) w ≡ Some p → IsPlace (entries.items ++ e ∷ []) w p
    told w p h at =
        let es = entries.items in
        let v = variable_of e.literal in
        let below : w < length places = omega (arith, h, length-set places v (Some n)) in
        elim (cases_eq w v) [
          | inl same ↦
              let here : Some n ≡ Some p = sym (ap (place_at (slice_set places v (Some n))) same ∙ get_or-set_same places v (Some n) None known) ∙ at in
              let number : n ≡ p = cc in
              let last : p ≡ length es = sym number ∙ counted in
              record { within = omega (arith, last, length-append es (e ∷ [])); there = ap (λ (x : Assigned). variable_of x.literal) (at_last es e p last) ∙ sym same }
          | inr differ ↦
              let old = is.told w p below (sym (get_or-set_other places v w (Some n) None differ) ∙ at) in
              record {
                within = omega (arith, old.within, length-append es (e ∷ []));
                there = ap (λ (x : Assigned). variable_of x.literal) (at_before es e p old.within) ∙ old.there;
              }
        ]
