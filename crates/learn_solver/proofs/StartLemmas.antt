-- A search begins: its clauses are added, and attached one after the other.
use Rattle.std.proofs.Common.{◌≡◌, ◌≢◌, ℕ, ◌+◌, ◌*◌, ◌<◌, false, List, [], ◌++◌, length, take, All, replicate, slice_index_or, Option, None, Some, IfNone, is_some, inl, inr, refl, sym, ◌∙◌, ap, subst, arith}
use Rattle.std.proofs.lemmas.Bool.{cases_eq, false≢true}
use Rattle.std.proofs.lemmas.List.{get_or-map, length-map}
use Rattle.cnf_core.specs.declared.literal.SatLit.{SatLit}
use Rattle.cnf_core.specs.declared.log.LogLine.{LogLine}
use Rattle.cnf_core.specs.Clauses.{Formula}
use Rattle.cnf_core.specs.Derivations.{AreDerived, clauses_of}
use Rattle.trail_core.specs.Trails.{Trailing}
use Rattle.watch_lists.specs.Propagations.{AreImplied, IsGrown}
use Rattle.watch_lists.specs.Lists.{IsAttached}
use Rattle.watch_lists.specs.Watched.{AreUnattachedFrom, Fits, IsCovered, IsPresent, IsRewatched, Watching}
use Rattle.learn_solver.specs.Solvers.{ArePut, HaveVariables, Solving}
use Rattle.learn_solver.specs.declared.search.Tools.{Tools}
use Rattle.learn_solver.specs.Orders.{IsOrder}
use Rattle.learn_solver.specs.Starts.{AreIdle, IsBegun, IsStarting}
use Rattle.watch_lists.proofs.GrowLemmas.{sound_rewatched}
use Rattle.watch_lists.proofs.KeepLemmas.{fits_unattached}
use Rattle.learn_solver.proofs.GoneLemmas.{covered_grown}
use Rattle.learn_solver.proofs.SolverLemmas.{solver_new}

-- nothing is attached yet
pub starting : (watching : Watching) (trail : Trailing) → AreIdle watching trail → IsStarting watching watching trail 0
starting watching trail idle = subst (λ t. IsStarting watching watching t 0) (sym idle.empty) (record {
  variables = refl;
  clauses = refl;
  fits = fits_unattached watching (record { variables = watching.variables; entries = []; level = 0; walked = 0 }) idle.unattached refl;
  present = record { present = λ k late within. absurd (omega (arith, within)) };
  sound = record { justified = λ k within. absurd (omega (arith, within)) };
  lowest = refl;
  covered = λ id low. absurd (omega (arith, low));
  unattached = idle.unattached;
})

-- where there is no answer
of_none : {P : Type 0} (r : Option ℕ) → is_some r ≡ false → IfNone r P → P
of_none {P} None none holds = holds
of_none {P} (Some x) none holds = absurd (false≢true (sym none))

-- one clause more is attached
pub starting_more : (old mid now : Watching) (trail new : Trailing) (id : ℕ) (r : Option ℕ) → is_some r ≡ false → IsStarting old mid trail id → id < length mid.clauses → IsRewatched mid now → ((t : ℕ) → t ≢ id → IsAttached now.watches (2 * t) → IsAttached mid.watches (2 * t)) → Fits now new → IsPresent new → AreImplied mid.clauses trail new → IsGrown trail new → IfNone r (IsCovered now new.entries id) → IsStarting old now new (id + 1)
starting_more old mid now trail new id r none is there rewatched others fits present implied grown last = record {
  variables = rewatched.variables ∙ is.variables;
  clauses = rewatched.clauses ∙ is.clauses;
  fits = fits;
  present = present;
  sound = sound_rewatched mid now trail new rewatched is.sound grown implied;
  lowest = grown.level ∙ is.lowest;
  covered = λ t low. elim (cases_eq t id) [
    | inl here ↦ subst (IsCovered now new.entries) (sym here) (of_none r none last)
    | inr other ↦
        let early : t < id = omega (arith, low, other) in
        covered_grown mid now trail new t (omega (arith, early, there)) rewatched grown (is.covered t early)
  ];
  unattached = λ t late attached. is.unattached t (omega (arith, late)) (others t (λ here. omega (arith, late, here)) attached);
}

-- the clauses of numbers are added
pub record IsPutting (formula : Formula) (ids : List ℕ) (watching : Watching) : Type 0 where
  pub put : ArePut formula ids watching.clauses
  pub unattached : AreUnattachedFrom watching 0
  pub variables : watching.variables ≡ formula.variables

-- the clauses of lines are added
pub record IsPuttingLines (old now : Watching) (lines : List LogLine) (count : ℕ) : Type 0 where
  pub put : now.clauses ≡ old.clauses ++ clauses_of (take count lines)
  pub unattached : AreUnattachedFrom now 0
  pub variables : now.variables ≡ old.variables

pub putting_none : (formula : Formula) (watching : Watching) → watching ≡ record { variables = formula.variables; clauses = []; watches = [] } → IsPutting formula [] watching
putting_none formula watching is = subst (IsPutting formula []) (sym is) (record {
  put = record { put = refl; known = λ k d within. absurd (omega (arith, within)); filled = λ k d within. absurd (omega (arith, within)) };
  unattached = λ id low attached. attached refl;
  variables = refl;
})

-- what a search begins with
pub begun_is : (s : Solving) (trail : Trailing) (wanted_in all : Watching) (tools : Tools) → All (λ id. id < length s.formula.clauses) s.ids → AreDerived s.formula s.lines → IsPutting s.formula s.ids wanted_in → all.clauses ≡ wanted_in.clauses ++ clauses_of s.lines → AreUnattachedFrom all 0 → all.variables ≡ wanted_in.variables → trail ≡ record { variables = s.formula.variables; entries = []; level = 0; walked = 0 } → HaveVariables s.formula.variables wanted_in.clauses tools.occurring.items → tools.marks.items ≡ replicate s.formula.variables false → IsOrder s.formula.variables tools.order → IsBegun s trail all tools
begun_is s trail wanted_in all tools there derived put clauses unattached variables trail_is have marks_are order = record {
  solver = solver_new s.formula s.ids s.lines wanted_in.clauses all.clauses there derived put.put clauses;
  variables = variables ∙ put.variables;
  idle = record { empty = trail_is ∙ ap (λ n. record { variables = n; entries = []; level = 0; walked = 0 }) (sym (variables ∙ put.variables)); unattached = unattached };
  tools_are = record { variables = subst (λ (cs : List (List SatLit)). HaveVariables s.formula.variables cs tools.occurring.items) put.put.put have; unmarked = marks_are; order = order };
}

-- what holds of all clauses of lines holds of each
pub line_clause : (P : List SatLit → Type 0) (lines : List LogLine) (k : ℕ) (line : LogLine) → k < length lines → line ≡ slice_index_or lines k line → All P (clauses_of lines) → P line.clause
line_clause P lines k line within is all =
    let inside : k < length (clauses_of lines) = omega (arith, within, length-map lines (λ (l : LogLine). l.clause)) in
    subst P (get_or-map (λ (l : LogLine). l.clause) lines k line [] within ∙ ap (λ (l : LogLine). l.clause) (sym is)) (all k [] inside)
