-- Hints that derive the clause that excludes given bits: by the clauses that exclude both ways to go on, or gate by gate where
-- all inputs have a bit.
use Rattle.std.proofs.Common.{◌≡◌, ℕ, ◌+◌, ◌<◌, ◌||◌, cond, Bool, true, false, List, [], ◌∷◌, ◌++◌, length, None, Some, inl, inr, refl, sym, ap, subst, ◌∙◌, arith, append_assoc}
use Rattle.std.specs.List.{list_any, list_all}
use Rattle.std.proofs.lemmas.Bool.{and_from, and_parts, both_ways, cases_Bool, cases_eq, false≢true, lt-ltb, or_cases, or_left, or_parts, or_right}
use Rattle.std.proofs.lemmas.List.{get_or_append_left, length-append}
use Rattle.std.proofs.lemmas.List.Folds.{Any-from_list_any, list_any-from_Any}
use Rattle.cnf_core.specs.declared.literal.SatLit.{SatLit}
use Rattle.cnf_core.specs.declared.effect.Effect.TheVariants.{Conflict, Makes, Neither}
use Rattle.cnf_core.specs.declared.fault.LineFault.TheVariants as fault
use Rattle.cnf_core.specs.Clauses.{clause_at, literal_of, opposite}
use Rattle.cnf_core.specs.Derivations.{effect_of, fault_after, hint_fault, is_false, is_same, is_true, has_all}
use Rattle.net_core.specs.Sides.{Graphs}
use Rattle.net_core.specs.Graph.{IsGraph}
use Rattle.claim_core.specs.declared.query.Query.{Query}
use Rattle.claim_core.specs.Queries.{IsQuery, bits_in}
use Rattle.claim_core.specs.Formulas.{query_clauses}
use Rattle.cnf_core.proofs.LiteralLemmas.{not_opposite, opposite_twice, same_from, same_itself, same_literal, opposite-literal}
use Rattle.cnf_core.proofs.EffectLemmas.{conflict_from, makes_from, makes_says, true_more}
use Rattle.cnf_core.proofs.HintLemmas.{step_conflict, step_makes}
use Rattle.learn_solver.proofs.KeptLemmas.{opposite_there}
use Rattle.joint_hash.proofs.LeadLemmas.{last_true, stays_true}
use Rattle.table_oracle.specs.Splits.{excluding}
use Rattle.table_oracle.proofs.KnownLemmas.{AreApart, IsHeld}
use Rattle.table_oracle.proofs.ExcludingLemmas.{excluding_more, start, start_apart, start_known, start_later}
use Rattle.table_oracle.proofs.WholeLemmas.{IsBegun, clause_held}

-- a first hint that makes a literal true
hint_makes : (clauses : List (List SatLit)) (made : List SatLit) (id : ℕ) (rest : List ℕ) (l : SatLit) → id < length clauses → effect_of made (clause_at clauses id) ≡ Makes l → hint_fault clauses made (id ∷ rest) ≡ hint_fault clauses (made ++ l ∷ []) rest
hint_makes clauses made id rest l there makes =
    ap (λ t. cond t (fault_after (effect_of made (clause_at clauses id)) rest (λ m. hint_fault clauses (made ++ m ∷ []) rest)) (Some fault.UnknownHint)) (lt-ltb id (length clauses) there)
    ∙ ap (λ e. fault_after e rest (λ m. hint_fault clauses (made ++ m ∷ []) rest)) makes

-- ---- by the clauses that exclude both ways to go on

-- a literal of the longer clause is one of the shorter one, or the last
either_of : (clause : List SatLit) (x y : SatLit) (T : Type 0) → is_true (clause ++ x ∷ []) y ≡ true → (is_true clause y ≡ true → T) → (y ≡ x → T) → T
either_of clause x y T among one other =
    elim (or_cases (is_true clause y) (is_same y x || false) (sym (true_more clause x y) ∙ among)) [
      | inl front ↦ one front
      | inr after ↦
          elim (or_cases (is_same y x) false after) [ inl same ↦ other (same_literal y x same) | inr none ↦ absurd (false≢true none) ]
    ]

module _ (clauses : List (List SatLit)) (bits : List Bool) where
  abbrev next : SatLit
  next = literal_of (1 + length bits) true

  other_next : opposite next ≡ literal_of (1 + length bits) false
  other_next = opposite-literal (1 + length bits) true

  abbrev made : List SatLit
  made = start bits

  false_there : (y : SatLit) → is_true (excluding bits) y ≡ true → is_false made y ≡ true
  false_there y among = opposite_there (excluding bits) y among

  -- the clause that excludes what goes on with 0 leaves 1
  left_makes : (clause : List SatLit) → has_all (excluding (bits ++ false ∷ [])) clause ≡ true → has_all (excluding bits) clause ≡ false → effect_of made clause ≡ Makes next
  left_makes clause all fresh = makes_from made clause next (record {
    others = each clause longer;
    not_true = start_later bits true;
    not_false = ap (is_true made) other_next ∙ start_later bits false;
    there = elim (cases_Bool (list_any (is_same next) clause)) [
      | inl found ↦ found
      | inr none ↦ absurd (both_ways (has_all (excluding bits) clause) fresh (shorter clause longer none))
    ];
  })
    where
      longer : list_all (is_true (excluding bits ++ next ∷ [])) clause ≡ true
      longer = ap (λ ls. list_all (is_true ls) clause) (sym (excluding_more bits false)) ∙ all

      each : (ys : List SatLit) → list_all (is_true (excluding bits ++ next ∷ [])) ys ≡ true → list_all (λ y. is_false made y || is_same next y) ys ≡ true
      each [] e = refl
      each (y ∷ ys) e =
          let parts = and_parts (is_true (excluding bits ++ next ∷ []) y) (list_all (is_true (excluding bits ++ next ∷ [])) ys) e in
          and_from (is_false made y || is_same next y) (list_all (λ y'. is_false made y' || is_same next y') ys) (either_of (excluding bits) next y ((is_false made y || is_same next y) ≡ true) parts.0 (λ front. or_left (is_false made y) (is_same next y) (false_there y front)) (λ same. or_right (is_false made y) (is_same next y) (ap (is_same next) same ∙ same_itself next))) (each ys parts.1)

      shorter : (ys : List SatLit) → list_all (is_true (excluding bits ++ next ∷ [])) ys ≡ true → list_any (is_same next) ys ≡ false → list_all (is_true (excluding bits)) ys ≡ true
      shorter [] e none = refl
      shorter (y ∷ ys) e none =
          let parts = and_parts (is_true (excluding bits ++ next ∷ []) y) (list_all (is_true (excluding bits ++ next ∷ [])) ys) e in
          let free = or_parts (is_same next y) (list_any (is_same next) ys) none in
          and_from (is_true (excluding bits) y) (list_all (is_true (excluding bits)) ys) (either_of (excluding bits) next y (is_true (excluding bits) y ≡ true) parts.0 (λ front. front) (λ same. absurd (both_ways (is_same next y) free.0 (ap (is_same next) same ∙ same_itself next)))) (shorter ys parts.1 free.1)

  -- and then the other one is a conflict
  right_conflicts : (clause : List SatLit) → has_all (excluding (bits ++ true ∷ [])) clause ≡ true → effect_of (made ++ next ∷ []) clause ≡ Conflict
  right_conflicts clause all = conflict_from (made ++ next ∷ []) clause (each clause longer)
    where
      last : SatLit
      last = literal_of (1 + length bits) false

      longer : list_all (is_true (excluding bits ++ last ∷ [])) clause ≡ true
      longer = ap (λ ls. list_all (is_true ls) clause) (sym (excluding_more bits true)) ∙ all

      each : (ys : List SatLit) → list_all (is_true (excluding bits ++ last ∷ [])) ys ≡ true → list_all (is_false (made ++ next ∷ [])) ys ≡ true
      each [] e = refl
      each (y ∷ ys) e =
          let parts = and_parts (is_true (excluding bits ++ last ∷ []) y) (list_all (is_true (excluding bits ++ last ∷ [])) ys) e in
          and_from (is_false (made ++ next ∷ []) y) (list_all (is_false (made ++ next ∷ [])) ys) (either_of (excluding bits) last y (is_false (made ++ next ∷ []) y ≡ true) parts.0 (λ front. stays_true made next (opposite y) (false_there y front)) (λ same. ap (is_true (made ++ next ∷ [])) (ap opposite same ∙ opposite-literal (1 + length bits) false) ∙ last_true made next)) (each ys parts.1)

  pub halves_derive : (one other : ℕ) → one < length clauses → other < length clauses → has_all (excluding (bits ++ false ∷ [])) (clause_at clauses one) ≡ true → has_all (excluding (bits ++ true ∷ [])) (clause_at clauses other) ≡ true → has_all (excluding bits) (clause_at clauses one) ≡ false → hint_fault clauses (start bits) (one ∷ other ∷ []) ≡ None
  halves_derive one other there too left right fresh =
      step_makes clauses made one (other ∷ []) next there (left_makes (clause_at clauses one) left fresh) (step_conflict clauses (made ++ next ∷ []) other too (right_conflicts (clause_at clauses other) right))

-- ---- gate by gate

-- How far the clauses were gone over, one after the other: the hints make these literals true, and the first clauses are held.
pub record IsUnderWay (front : List (List SatLit)) (bits : List Bool) (made : List SatLit) (hints : List ℕ) (count : ℕ) : Type 0 where
  pub goes : (taken : List (List SatLit)) (rest : List ℕ) → hint_fault (front ++ taken) (start bits) (hints ++ rest) ≡ hint_fault (front ++ taken) made rest
  pub apart : AreApart made
  pub kept : (l : SatLit) → is_true (start bits) l ≡ true → is_true made l ≡ true
  pub held : (id : ℕ) → id < count → IsHeld made (clause_at front id)

pub gates_start : (front : List (List SatLit)) (bits : List Bool) → IsUnderWay front bits (start bits) [] 0
gates_start front bits = record {
  goes = λ taken rest. refl;
  apart = start_apart bits;
  kept = λ l truth. truth;
  held = λ id below. absurd (omega (arith, below));
}

front_clause : (front taken : List (List SatLit)) (id : ℕ) → id < length front → clause_at (front ++ taken) id ≡ clause_at front id
front_clause front taken id there = get_or_append_left front taken [] id there

pub gates_conflict : (front : List (List SatLit)) (bits : List Bool) (made : List SatLit) (hints : List ℕ) (count : ℕ) → IsUnderWay front bits made hints count → (id : ℕ) → id < length front → effect_of made (clause_at front id) ≡ Conflict → (taken : List (List SatLit)) → hint_fault (front ++ taken) (start bits) (hints ++ id ∷ []) ≡ None
gates_conflict front bits made hints count way id there conflict taken =
    way.goes taken (id ∷ [])
    ∙ step_conflict (front ++ taken) made id (omega (arith, there, length-append front taken)) (ap (effect_of made) (front_clause front taken id there) ∙ conflict)

-- a literal that is made stands apart from the others
apart_with : (made : List SatLit) (l : SatLit) → AreApart made → is_false made l ≡ false → AreApart (made ++ l ∷ [])
apart_with made l apart free m truth =
    elim (cases_Bool (is_true (made ++ l ∷ []) (opposite m))) [
      | inr good ↦ good
      | inl both ↦ absurd (either_of made l m ⊥ truth (λ own. either_of made l (opposite m) ⊥ both (λ turned. both_ways (is_false made m) (apart m own) turned) (λ is. both_ways (is_false made l) free (ap (is_false made) (sym is) ∙ (ap (is_true made) (opposite_twice m) ∙ own)))) (λ same. either_of made l (opposite m) ⊥ both (λ turned. both_ways (is_false made l) free (ap (is_false made) (sym same) ∙ turned)) (λ is. itself m (is ∙ sym same))))
    ]
  where
    itself : (m : SatLit) → opposite m ≡ m → ⊥
    itself m e = both_ways (is_same (opposite m) m) (not_opposite m) (same_from (opposite m) m e)

held_with : (made : List SatLit) (l : SatLit) (clause : List SatLit) → IsHeld made clause → IsHeld (made ++ l ∷ []) clause
held_with made l clause held =
    let found = Any-from_list_any (is_true made) clause held in
    list_any-from_Any (is_true (made ++ l ∷ [])) clause (found.0, found.1, found.2, found.3, stays_true made l found.1 found.4)

made_held : (made : List SatLit) (l : SatLit) (clause : List SatLit) → list_any (is_same l) clause ≡ true → IsHeld (made ++ l ∷ []) clause
made_held made l clause there =
    let found = Any-from_list_any (is_same l) clause there in
    list_any-from_Any (is_true (made ++ l ∷ [])) clause (found.0, found.1, found.2, found.3, ap (is_true (made ++ l ∷ [])) (sym (same_literal l found.1 found.4)) ∙ last_true made l)

pub gates_make : (front : List (List SatLit)) (bits : List Bool) (made : List SatLit) (hints : List ℕ) (id : ℕ) → IsUnderWay front bits made hints id → id < length front → (l : SatLit) → effect_of made (clause_at front id) ≡ Makes l → IsUnderWay front bits (made ++ l ∷ []) (hints ++ id ∷ []) (id + 1)
gates_make front bits made hints id way there l makes =
    let maker = makes_says made (clause_at front id) l makes in
    record {
      goes = λ taken rest.
          ap (hint_fault (front ++ taken) (start bits)) (append_assoc hints (id ∷ []) rest)
          ∙ (way.goes taken (id ∷ rest) ∙ made_step taken rest);
      apart = apart_with made l way.apart maker.not_false;
      kept = λ m truth. stays_true made l m (way.kept m truth);
      held = λ k below. elim (cases_eq k id) [
        | inl here ↦ subst (λ j. IsHeld (made ++ l ∷ []) (clause_at front j)) (sym here) (made_held made l (clause_at front id) maker.there)
        | inr before ↦ held_with made l (clause_at front k) (way.held k (omega (arith, below, before)))
      ];
    }
  where
    made_step : (taken : List (List SatLit)) (rest : List ℕ) → hint_fault (front ++ taken) made (id ∷ rest) ≡ hint_fault (front ++ taken) (made ++ l ∷ []) rest
    made_step taken rest = hint_makes (front ++ taken) made id rest l (omega (arith, there, length-append front taken)) (ap (effect_of made) (front_clause front taken id there) ∙ makes)

pub begun_by : (graphs : Graphs) (query : Query) (bits : List Bool) (made : List SatLit) (hints : List ℕ) (count : ℕ) → IsGraph graphs.first → IsGraph graphs.second → IsQuery graphs query → length bits ≡ bits_in graphs query → IsUnderWay (query_clauses graphs query) bits made hints count → IsBegun graphs query made
begun_by graphs query bits made hints count first second fits full way = record {
  first = first;
  second = second;
  fits = fits;
  apart = way.apart;
  bits = λ i b within. start_known bits made way.kept i b (omega (arith, within, full));
}

pub gates_pass : (graphs : Graphs) (query : Query) (bits : List Bool) (made : List SatLit) (hints : List ℕ) (id : ℕ) → IsGraph graphs.first → IsGraph graphs.second → IsQuery graphs query → length bits ≡ bits_in graphs query → IsUnderWay (query_clauses graphs query) bits made hints id → id < length (query_clauses graphs query) → effect_of made (clause_at (query_clauses graphs query) id) ≡ Neither → IsUnderWay (query_clauses graphs query) bits made hints (id + 1)
gates_pass graphs query bits made hints id first second fits full way there neither = record {
  goes = way.goes;
  apart = way.apart;
  kept = way.kept;
  held = λ k below. elim (cases_eq k id) [
    | inl here ↦ subst (λ j. IsHeld made (clause_at (query_clauses graphs query) j)) (sym here) (clause_held graphs query made (begun_by graphs query bits made hints id first second fits full way) id there way.held neither)
    | inr before ↦ way.held k (omega (arith, below, before))
  ];
}
