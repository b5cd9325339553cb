-- One step of a search: a line is learned from a conflict.
use Rattle.std.proofs.Common.{◌≡◌, ℕ, ◌+◌, ◌-◌, ◌<◌, ◌≤◌, Bool, true, false, List, [], ◌∷◌, ◌++◌, length, map, take, All, Some, Result, Ok, Err, IfErr, nat_lt, slice_index_or, refl, sym, ◌∙◌, ap, subst, arith}
use Rattle.std.specs.Result.{IsErrAnd}
use Rattle.std.specs.List.{list_all}
use Rattle.std.proofs.lemmas.Bool.{lt-ltb}
use Rattle.std.proofs.lemmas.List.{get_or_at, length-append, take_at}
use Rattle.std.proofs.lemmas.Simd.{map-map}
use Rattle.std.proofs.lemmas.List.Recursion.{and_from_places}
use Rattle.cnf_core.specs.declared.literal.SatLit.{SatLit}
use Rattle.cnf_core.specs.declared.log.LogLine.{LogLine}
use Rattle.cnf_core.specs.declared.stop.Stop.{Stop}
use Rattle.cnf_core.specs.declared.stop.Stop.TheVariants.{Spent, Memory}
use Rattle.cnf_core.specs.Clauses.{clause_at, opposite, variable_of}
use Rattle.cnf_core.specs.Derivations.{clauses_of, hint_fault, is_empty, has_all, no_line}
use Rattle.trail_core.specs.Trails.{Trailing}
use Rattle.cnf_core.specs.Charges.{Charging, IsCharged, IsRefused}
use Rattle.learn_solver.specs.Analyses.{IsLearnedAs}
use Rattle.learn_solver.specs.Solvers.{IsAdded, IsAsking, IsExtended, IsSolver, IsStopped, Solving, id_at}
use Rattle.learn_solver.specs.Searches.{IsLesson, IsSearching, last_line}
use Rattle.learn_solver.proofs.SolverLemmas.{at_number, hints_carried, line_from}
use Rattle.cnf_core.proofs.LiteralLemmas.{no_literal}

-- what was learned is a lesson
pub lesson_from : (s : Solving) (t : Trailing) (clauses : List (List SatLit)) (line : LogLine) (steps : List ℕ) (level : ℕ) → IsSolver s.formula s.ids s.lines clauses → IsSearching s t → IsLearnedAs clauses t line.clause steps level → line.hints ≡ map (id_at s.formula s.ids) steps → IsLesson s t line level
lesson_from s t clauses line steps level is_solver searching learned hints = record {
  good = line_from s.formula (clauses_of s.lines) line (record {
    unclosed = searching.unrefuted;
    known = and_from_places (list_all (λ l. nat_lt (variable_of l) s.formula.variables)) (λ l. nat_lt (variable_of l) s.formula.variables) refl (λ _ _. refl) line.clause no_literal (λ k within. lt-ltb (variable_of (slice_index_or line.clause k no_literal)) s.formula.variables (omega (arith, learned.known k no_literal within, searching.variables)));
    once = learned.once;
    hints = ap (hint_fault (s.formula.clauses ++ clauses_of s.lines) (map opposite line.clause)) hints ∙ hints_carried clauses (s.formula.clauses ++ clauses_of s.lines) (λ k. Some (id_at s.formula s.ids k)) there (map opposite line.clause) steps (map (id_at s.formula s.ids) steps) (sym (map-map Some (id_at s.formula s.ids) steps)) learned.derived;
  });
  fresh = subst (λ (cs : List (List SatLit)). All (λ c. has_all line.clause c ≡ false) cs) is_solver.stored learned.fresh;
  low = learned.low;
  not_single = learned.not_single;
  asserting = learned.asserting;
  closing = λ lowest. ap is_empty (learned.closing lowest);
}
  where
    there : (k n : ℕ) → k < length clauses → Some (id_at s.formula s.ids k) ≡ Some n → (n < length (s.formula.clauses ++ clauses_of s.lines)) × (clause_at (s.formula.clauses ++ clauses_of s.lines) n ≡ clause_at clauses k)
    there k n within is =
        let number : id_at s.formula s.ids k ≡ n = cc in
        let at = at_number s.formula s.ids s.lines is_solver.there k (omega (arith, within, ap length is_solver.stored)) in
        (omega (arith, number, at.0), ap (clause_at (s.formula.clauses ++ clauses_of s.lines)) (sym number) ∙ (at.1 ∙ ap (λ cs. clause_at cs k) (sym is_solver.stored)))

-- the last of lines with one more
last_is : (lines : List LogLine) (line : LogLine) → last_line (lines ++ line ∷ []) ≡ line
last_is lines line = get_or_at lines line [] no_line (length (lines ++ line ∷ []) - 1) (omega (arith, length-append lines (line ∷ [])))

-- the line that was added is the last one
pub last_added : (old new : Solving) (line : LogLine) → new ≡ record old { lines = old.lines ++ line ∷ [] } → last_line new.lines ≡ line
last_added old new line added = ap (λ (s : Solving). last_line s.lines) added ∙ last_is old.lines line

-- one line was added, charged or refused
extended_one : {O : Type 0} (old new : Solving) (line : LogLine) (first after : Charging O) (spent : Bool) → IsAsking first old.lines → new ≡ record old { lines = old.lines ++ line ∷ [] } → IsAdded old.formula old.ids old.lines line → after ≡ record first { lines = first.lines ++ line ∷ []; made = first.made + 1; spent = spent } → IsExtended old new first after
extended_one {O} old new line first after spent asking added fresh is =
    let lines : new.lines ≡ old.lines ++ line ∷ [] = ap (λ (s : Solving). s.lines) added in
    record {
      formula = ap (λ (s : Solving). s.formula) added;
      ids = ap (λ (s : Solving). s.ids) added;
      longer = omega (arith, ap length lines, length-append old.lines (line ∷ []));
      kept = ap (take (length old.lines)) lines ∙ take_at old.lines (line ∷ []) (length old.lines) refl;
      added = subst (λ (ls : List LogLine). (k : ℕ) (d : LogLine) → length old.lines ≤ k → k < length ls → IsAdded old.formula old.ids (take k ls) (slice_index_or ls k d)) (sym lines) one;
      budget = ap (λ (c : Charging O). c.budget) is;
      opened = ap (λ (c : Charging O). c.opened) is;
      others = ap (λ (c : Charging O). c.others) is;
      lines_are = ap (λ (c : Charging O). c.lines) is ∙ (ap (λ (ls : List LogLine). ls ++ line ∷ []) asking.lines_are ∙ sym lines);
      counted = omega (arith, ap (λ (c : Charging O). c.made) is, ap length lines, length-append old.lines (line ∷ []));
    }
  where
    one : (k : ℕ) (d : LogLine) → length old.lines ≤ k → k < length (old.lines ++ line ∷ []) → IsAdded old.formula old.ids (take k (old.lines ++ line ∷ [])) (slice_index_or (old.lines ++ line ∷ []) k d)
    one k d late within =
        let here : k ≡ length old.lines = omega (arith, late, within, length-append old.lines (line ∷ [])) in
        subst (λ (l : LogLine). IsAdded old.formula old.ids (take k (old.lines ++ line ∷ [])) l) (sym (get_or_at old.lines line [] d k (sym here))) (subst (λ ls. IsAdded old.formula old.ids ls line) (sym (take_at old.lines (line ∷ []) k (sym here))) fresh)

-- a line was charged
pub extended_charged : {O : Type 0} (old new : Solving) (line : LogLine) (first after : Charging O) → IsAsking first old.lines → new ≡ record old { lines = old.lines ++ line ∷ [] } → IsAdded old.formula old.ids old.lines line → IsCharged first line after → IsExtended old new first after
extended_charged {O} old new line first after asking added fresh charged =
    extended_one old new line first after first.spent asking added fresh charged.charged

pub asking_charged : {O : Type 0} (lines : List LogLine) (line : LogLine) (first after : Charging O) → IsAsking first lines → IsCharged first line after → IsAsking after (lines ++ line ∷ [])
asking_charged {O} lines line first after asking charged = record {
  opened = ap (λ (c : Charging O). c.opened) charged.charged ∙ asking.opened;
  lines_are = ap (λ (c : Charging O). c.lines) charged.charged ∙ ap (λ (ls : List LogLine). ls ++ line ∷ []) asking.lines_are;
  not_spent = ap (λ (c : Charging O). c.spent) charged.charged ∙ asking.not_spent;
}

-- a line that is refused ends the search
pub stopped_one : {O : Type 0} (old new : Solving) (line : LogLine) (first after : Charging O) (stop : Stop) → IsAsking first old.lines → new ≡ record old { lines = old.lines ++ line ∷ [] } → IsAdded old.formula old.ids old.lines line → IsRefused first line after stop → IsStopped old new first after stop
stopped_one {O} old new line first after Memory asking added fresh refused = tt
stopped_one {O} old new line first after (Spent learned) asking added fresh refused = record {
  extended = extended_one old new line first after true asking added fresh refused.refused;
  learned_is = refused.told;
  spent = ap (λ (c : Charging O). c.spent) refused.refused;
  used = omega (arith, ap (λ (c : Charging O). c.made) refused.refused, refused.spent);
}

-- a stop that is passed on
pub passed_on : {T : Type 0} (r : Result T Stop) (stop : Stop) (P : Stop → Type 0) → IsErrAnd r (λ e. e ≡ stop) → P stop → IfErr r P
passed_on (Ok x) stop P is holds = tt
passed_on (Err e) stop P is holds = subst P (sym is) holds
