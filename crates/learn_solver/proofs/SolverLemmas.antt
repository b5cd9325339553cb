-- Lines that are added to a solver, and the numbers of its clauses.
use Rattle.std.proofs.Common.{◌≡◌, ℕ, zero, suc, ◌+◌, ◌-◌, ◌<◌, cond, false, List, [], ◌∷◌, ◌++◌, length, map, take, drop, All, Option, None, Some, nat_lt, slice_index_or, inl, inr, refl, sym, ◌∙◌, ap, subst, arith}
use Rattle.std.specs.List.{list_all}
use Rattle.std.proofs.lemmas.Bool.{cases_lt, le-ltb, lt-ltb, ltb-true}
use Rattle.std.proofs.lemmas.List.{append_assoc, get_or_append_left, get_or-append_right, get_or-map, length-append, length-map, nil_from_length}
use Rattle.std.proofs.lemmas.List.Elements.{All-append, All-map, All-push}
use Rattle.std.proofs.lemmas.List.Recursion.{and_at}
use Rattle.cnf_core.specs.declared.literal.SatLit.{SatLit}
use Rattle.cnf_core.specs.declared.log.LogLine.{LogLine}
use Rattle.cnf_core.specs.declared.fault.LineFault.TheVariants as fault
use Rattle.cnf_core.specs.Clauses.{Formula, clause_at, variable_of, AreKnown}
use Rattle.cnf_core.specs.Derivations.{AreDerived, clauses_of, effect_of, hint_fault, is_empty, line_fault}
pub use Rattle.cnf_core.proofs.LineLemmas.{IsLine, clauses_more, derived_more, line_from, line_says}
use Rattle.cnf_core.proofs.HintLemmas.{hint_says, step_conflict, step_makes}
use Rattle.learn_solver.specs.Solvers.{ArePut, IsSolver, active, id_at, wanted}

pub line_known : (formula : Formula) (taken : List (List SatLit)) (line : LogLine) → line_fault formula taken line ≡ None → AreKnown formula.variables line.clause
line_known formula taken line e k d within =
    ltb-true (variable_of (slice_index_or line.clause k d)) formula.variables (and_at (list_all (λ l. nat_lt (variable_of l) formula.variables)) (λ l. nat_lt (variable_of l) formula.variables) refl (λ _ _. refl) line.clause k d within (line_says formula taken line e).known)

pub active_more : (formula : Formula) (ids : List ℕ) (lines : List LogLine) (line : LogLine) → active formula ids (lines ++ line ∷ []) ≡ active formula ids lines ++ line.clause ∷ []
active_more formula ids lines line = ap (λ cs. wanted formula ids ++ cs) (clauses_more lines line) ∙ sym (append_assoc (wanted formula ids) (clauses_of lines) (line.clause ∷ []))

pub solver_more : (formula : Formula) (ids : List ℕ) (lines new : List LogLine) (clauses put : List (List SatLit)) (line : LogLine) → IsSolver formula ids lines clauses → line_fault formula (clauses_of lines) line ≡ None → new ≡ lines ++ line ∷ [] → put ≡ clauses ++ line.clause ∷ [] → IsSolver formula ids new put
solver_more formula ids lines new clauses put line is good new_is put_is = record {
  stored = put_is ∙ (ap (λ cs. cs ++ line.clause ∷ []) is.stored ∙ (sym (active_more formula ids lines line) ∙ ap (active formula ids) (sym new_is)));
  there = is.there;
  known = subst (λ (cs : List (List SatLit)). All (AreKnown formula.variables) cs) (sym put_is) (All-push (AreKnown formula.variables) clauses line.clause is.known (line_known formula (clauses_of lines) line good));
  filled = is.filled;
  derived = subst (λ ls. AreDerived formula ls) (sym new_is) (derived_more formula lines line is.derived good);
}

-- the lines are known
pub lines_known : (formula : Formula) (lines : List LogLine) → AreDerived formula lines → All (AreKnown formula.variables) (clauses_of lines)
lines_known formula lines derived = All-map (AreKnown formula.variables) (λ (l : LogLine). l.clause) lines (λ k d within. line_known formula (clauses_of (take k lines)) (slice_index_or lines k d) (derived k d within))

-- a new solver
pub solver_new : (formula : Formula) (ids : List ℕ) (lines : List LogLine) (put clauses : List (List SatLit)) → All (λ id. id < length formula.clauses) ids → AreDerived formula lines → ArePut formula ids put → clauses ≡ put ++ clauses_of lines → IsSolver formula ids lines clauses
solver_new formula ids lines put clauses there derived is clauses_are = record {
  stored = clauses_are ∙ ap (λ cs. cs ++ clauses_of lines) is.put;
  there = there;
  known = subst (λ (cs : List (List SatLit)). All (AreKnown formula.variables) cs) (sym clauses_are) (All-append (AreKnown formula.variables) put (clauses_of lines) is.known (lines_known formula lines derived));
  filled = subst (λ (cs : List (List SatLit)). All (λ c. is_empty c ≡ false) cs) is.put is.filled;
  derived = derived;
}

-- each clause that is looked at is the one of its number
pub at_number : (formula : Formula) (ids : List ℕ) (lines : List LogLine) → All (λ id. id < length formula.clauses) ids → (k : ℕ) → k < length (active formula ids lines) → (id_at formula ids k < length (formula.clauses ++ clauses_of lines)) × (clause_at (formula.clauses ++ clauses_of lines) (id_at formula ids k) ≡ clause_at (active formula ids lines) k)
at_number formula ids lines there k within =
    elim (cases_lt k (length ids)) [
      | inl early ↦
          let found = lt-ltb k (length ids) early in
          let id = slice_index_or ids k 0 in
          let number : id_at formula ids k ≡ id = ap (λ b. cond b (slice_index_or ids k 0) (length formula.clauses + (k - length ids))) found in
          let low = there k 0 early in
          let first = get_or_append_left formula.clauses (clauses_of lines) [] id low in
          let second = get_or_append_left (wanted formula ids) (clauses_of lines) [] k (omega (arith, early, length-map ids (clause_at formula.clauses))) ∙ get_or-map (clause_at formula.clauses) ids k 0 [] early in
          (omega (arith, number, low, length-append formula.clauses (clauses_of lines)), ap (clause_at (formula.clauses ++ clauses_of lines)) number ∙ (first ∙ sym second))
      | inr late ↦
          let found = le-ltb k (length ids) late in
          let number : id_at formula ids k ≡ length formula.clauses + (k - length ids) = ap (λ b. cond b (slice_index_or ids k 0) (length formula.clauses + (k - length ids))) found in
          let size = length-map ids (clause_at formula.clauses) in
          let second = get_or-append_right (wanted formula ids) (clauses_of lines) (length ids) k [] size late in
          let first = get_or-append_right formula.clauses (clauses_of lines) (length formula.clauses) (length formula.clauses + (k - length ids)) [] refl (omega arith) in
          let index : length formula.clauses + (k - length ids) - length formula.clauses ≡ k - length ids = omega arith in
          (omega (arith, number, within, late, size, length-append formula.clauses (clauses_of lines), length-append (wanted formula ids) (clauses_of lines)), ap (clause_at (formula.clauses ++ clauses_of lines)) number ∙ (first ∙ (ap (λ n. slice_index_or (clauses_of lines) n []) index ∙ sym second)))
    ]

-- so all of them are clauses that are there
pub steps_there : (clauses : List (List SatLit)) (made : List SatLit) (steps : List ℕ) → hint_fault clauses made steps ≡ None → (k d : ℕ) → k < length steps → slice_index_or steps k d < length clauses
steps_there clauses made [] e k d within = absurd (omega (arith, within))
steps_there clauses made (s ∷ steps) e zero d within = (hint_says clauses made s steps e).0
steps_there clauses made (s ∷ steps) e (suc k) d within =
    elim (hint_says clauses made s steps e).1 [
      | inl ends ↦ absurd (omega (arith, within, ap length ends.1))
      | inr (m, makes, goes) ↦ steps_there clauses (made ++ m ∷ []) steps goes k d (omega (arith, within))
    ]

-- hints lead to a conflict wherever their clauses stand
pub hints_carried : (clauses all : List (List SatLit)) (number : ℕ → Option ℕ) → ((h n : ℕ) → h < length clauses → number h ≡ Some n → (n < length all) × (clause_at all n ≡ clause_at clauses h)) → (made : List SatLit) (hints own : List ℕ) → map number hints ≡ map Some own → hint_fault clauses made hints ≡ None → hint_fault all made own ≡ None
hints_carried clauses all number each made [] own same e = absurd (let x : Some fault.NoConflict ≡ None = e in cc)
hints_carried clauses all number each made (h ∷ hints) [] same e = absurd (let x : number h ∷ map number hints ≡ [] = same in cc)
hints_carried clauses all number each made (h ∷ hints) (n ∷ own) same e =
    let says = hint_says clauses made h hints e in
    let head : number h ≡ Some n = cc in
    let rest : map number hints ≡ map Some own = ap (drop 1) same in
    let there = each h n says.0 head in
    let effect = ap (effect_of made) there.1 in
    elim says.1 [
      | inl (conflict, none) ↦
          let end : own ≡ [] = nil_from_length own (omega (arith, ap length rest, ap length none, length-map hints number, length-map own Some)) in
          subst (λ left. hint_fault all made (n ∷ left) ≡ None) (sym end) (step_conflict all made n there.0 (effect ∙ conflict))
      | inr (m, makes, goes) ↦ step_makes all made n own m there.0 (effect ∙ makes) (hints_carried clauses all number each (made ++ m ∷ []) hints own rest goes)
    ]
