-- A search that begins, what is left to do for it, and the lines that it adds.
use Rattle.std.proofs.Common.{◌≡◌, ℕ, suc, ◌+◌, ◌-◌, ◌*◌, ◌<◌, ◌||◌, false, List, [], ◌∷◌, ◌++◌, length, take, Option, None, slice_index_or, inl, inr, refl, sym, ◌∙◌, ap, subst, arith}
use Rattle.std.specs.List.{list_any}
use Rattle.std.proofs.Math.Nat.{mul-suc}
use Rattle.std.proofs.lemmas.Bool.{cases_lt, or_from}
use Rattle.std.proofs.lemmas.List.{get_or-take, take-take, take_all}
use Rattle.std.proofs.lemmas.List.Folds.{list_any-append}
use Rattle.cnf_core.specs.declared.log.LogLine.{LogLine}
use Rattle.cnf_core.specs.declared.stop.Stop.{Stop}
use Rattle.cnf_core.specs.declared.stop.Stop.TheVariants.{Spent, Memory}
use Rattle.cnf_core.specs.Derivations.{AreDerived, clauses_of, is_empty, line_fault}
use Rattle.trail_core.specs.Trails.{Trailing}
use Rattle.cnf_core.specs.Charges.{Charging, IsCharged}
use Rattle.watch_lists.specs.Propagations.{IsSound}
use Rattle.learn_solver.specs.declared.search.Search.{Search}
use Rattle.learn_solver.specs.Searches.{IsLearnt, IsRunning, remaining}
use Rattle.learn_solver.specs.Solvers.{IsAdded, IsAsking, IsExtended, IsSolver, IsStopped, Solving}
use Rattle.learn_solver.specs.Starts.{AreTools, IsBegun, IsFitting, IsStarting}
use Rattle.learn_solver.proofs.SolverLemmas.{clauses_more}
use Rattle.learn_solver.proofs.StepLemmas.{asking_charged, extended_charged}

-- a line that isn't empty refutes nothing
pub unrefuted_more : (lines : List LogLine) (line : LogLine) → list_any is_empty (clauses_of lines) ≡ false → is_empty line.clause ≡ false → list_any is_empty (clauses_of (lines ++ line ∷ [])) ≡ false
unrefuted_more lines line unrefuted filled =
    ap (list_any is_empty) (clauses_more lines line) ∙ (list_any-append is_empty (clauses_of lines) (line.clause ∷ []) ∙ or_from (list_any is_empty (clauses_of lines)) (is_empty line.clause || false) unrefuted (or_from (is_empty line.clause) false filled refl))

pub less_learned : {O : Type 0} (line : LogLine) (first after : Charging O) (old new : Trailing) → new.variables ≡ old.variables → IsCharged first line after → remaining after new < remaining first old
less_learned {O} line first after old new variables charged =
    let n = old.variables + 1 in
    let left = first.budget - first.made in
    let budget : after.budget ≡ first.budget = ap (λ (c : Charging O). c.budget) charged.charged in
    let counted : after.made ≡ first.made + 1 = ap (λ (c : Charging O). c.made) charged.charged in
    let next : first.budget + 1 - first.made ≡ suc left = omega (arith, charged.within) in
    let now : after.budget + 1 - after.made ≡ left = omega (arith, budget, counted, charged.within) in
    let whole : n * (first.budget + 1 - first.made) ≡ n * left + n = ap (λ m. n * m) next ∙ mul-suc n left in
    let rest : (new.variables + 1) * (after.budget + 1 - after.made) ≡ n * left = ap (λ v. (v + 1) * (after.budget + 1 - after.made)) variables ∙ ap (λ m. n * m) now in
    omega (arith, whole, rest, variables)

-- nothing was added
pub extended_none : {O : Type 0} (s : Solving) (first : Charging O) → IsAsking first s.lines → IsExtended s s first first
extended_none {O} s first asking = record {
  formula = refl;
  ids = refl;
  longer = omega arith;
  kept = take_all (length s.lines) s.lines (omega arith);
  added = λ k d late within. absurd (omega (arith, late, within));
  budget = refl;
  opened = refl;
  others = refl;
  lines_are = asking.lines_are;
  counted = refl;
}

-- lines were added twice
pub extended_twice : {O : Type 0} (one two three : Solving) (first second third : Charging O) → IsExtended one two first second → IsExtended two three second third → IsExtended one three first third
extended_twice {O} one two three first second third before_it after_it = record {
  formula = after_it.formula ∙ before_it.formula;
  ids = after_it.ids ∙ before_it.ids;
  longer = omega (arith, before_it.longer, after_it.longer);
  kept = sym (take-take (length one.lines) (length two.lines) three.lines before_it.longer) ∙ (ap (take (length one.lines)) after_it.kept ∙ before_it.kept);
  added = λ k d late within. elim (cases_lt k (length two.lines)) [
    | inl early ↦
        let at : slice_index_or three.lines k d ≡ slice_index_or two.lines k d = sym (get_or-take (length two.lines) three.lines k d early) ∙ ap (λ ls. slice_index_or ls k d) after_it.kept in
        let front : take k three.lines ≡ take k two.lines = sym (take-take k (length two.lines) three.lines (omega (arith, early))) ∙ ap (take k) after_it.kept in
        subst (λ (l : LogLine). IsAdded one.formula one.ids (take k three.lines) l) (sym at) (subst (λ ls. IsAdded one.formula one.ids ls (slice_index_or two.lines k d)) (sym front) (before_it.added k d late early))
    | inr later ↦ subst (λ f. IsAdded f one.ids (take k three.lines) (slice_index_or three.lines k d)) before_it.formula (subst (λ i. IsAdded two.formula i (take k three.lines) (slice_index_or three.lines k d)) before_it.ids (after_it.added k d later within))
  ];
  budget = after_it.budget ∙ before_it.budget;
  opened = after_it.opened ∙ before_it.opened;
  others = after_it.others ∙ before_it.others;
  lines_are = after_it.lines_are;
  counted = omega (arith, before_it.counted, after_it.counted);
}

pub stopped_after : {O : Type 0} (one two three : Solving) (first second third : Charging O) (stop : Stop) → IsExtended one two first second → IsStopped two three second third stop → IsStopped one three first third stop
stopped_after {O} one two three first second third Memory extended stopped = tt
stopped_after {O} one two three first second third (Spent learned) extended stopped = record {
  extended = extended_twice one two three first second third extended stopped.extended;
  learned_is = stopped.learned_is ∙ extended.budget;
  spent = stopped.spent;
  used = omega (arith, stopped.used, extended.budget);
}

-- a learned line extends the lines
pub extended_learnt : {O : Type 0} (old new : Solving) (first after : Charging O) (t : Trailing) (back : Option ℕ) → IsAsking first old.lines → IsLearnt old new first after t back → IsExtended old new first after
extended_learnt {O} old new first after t back asking learnt =
    extended_charged old new learnt.line first after asking learnt.added learnt.learned_is learnt.charged

pub asking_learnt : {O : Type 0} (old new : Solving) (first after : Charging O) (t : Trailing) (back : Option ℕ) → IsAsking first old.lines → IsLearnt old new first after t back → IsAsking after new.lines
asking_learnt {O} old new first after t back asking learnt =
    subst (λ (s : Solving). IsAsking after s.lines) (sym learnt.added) (asking_charged old.lines learnt.line first after asking learnt.charged)

-- what a search that is under way is
pub running_from : (s : Solving) (search : Search) → IsFitting search.watches search.trail → IsSolver s.formula s.ids s.lines search.watches.clauses → search.trail.variables ≡ s.formula.variables → list_any is_empty (clauses_of s.lines) ≡ false → AreTools s.formula s.ids search.tools → IsRunning s search.trail search.watches search.tools
running_from s search fitting solver variables unrefuted tools_are = record {
  learning = record {
    searching = record { variables = variables; unrefuted = unrefuted; sound = subst (λ cs. IsSound cs search.trail) solver.stored fitting.sound };
    solver = solver;
    tools_are = tools_are;
  };
  fitting = fitting;
}

-- a search begins
pub running_first : (s : Solving) (idle now : Search) → IsBegun s idle.trail idle.watches idle.tools → IsStarting idle.watches now.watches now.trail (length idle.watches.clauses) → now.tools ≡ idle.tools → list_any is_empty (clauses_of s.lines) ≡ false → IsRunning s now.trail now.watches now.tools
running_first s idle now begun is tools_are unrefuted =
    let fitting : IsFitting now.watches now.trail = record { fits = is.fits; present = is.present; sound = is.sound; covered = λ id within. is.covered id (omega (arith, within, ap length is.clauses)) } in
    running_from s now fitting (subst (IsSolver s.formula s.ids s.lines) (sym is.clauses) begun.solver) (is.fits.variables ∙ (is.variables ∙ begun.variables)) unrefuted (subst (AreTools s.formula s.ids) (sym tools_are) begun.tools_are)

-- lines that were added to derived ones are derived
pub derived_after : {O : Type 0} (old new : Solving) (first after : Charging O) → AreDerived old.formula old.lines → IsExtended old new first after → AreDerived new.formula new.lines
derived_after {O} old new first after derived extended k d within = subst (λ f. line_fault f (clauses_of (take k new.lines)) (slice_index_or new.lines k d) ≡ None) (sym extended.formula) (elim (cases_lt k (length old.lines)) [
  | inl early ↦
      let at : slice_index_or new.lines k d ≡ slice_index_or old.lines k d = sym (get_or-take (length old.lines) new.lines k d early) ∙ ap (λ ls. slice_index_or ls k d) extended.kept in
      let front : take k new.lines ≡ take k old.lines = sym (take-take k (length old.lines) new.lines (omega (arith, early))) ∙ ap (take k) extended.kept in
      ap (λ l. line_fault old.formula (clauses_of (take k new.lines)) l) at ∙ (ap (λ ls. line_fault old.formula (clauses_of ls) (slice_index_or old.lines k d)) front ∙ derived k d early)
  | inr late ↦ (extended.added k d late within).derived
])
