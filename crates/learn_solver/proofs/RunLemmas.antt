-- A search that is under way.
use Rattle.std.proofs.Common.{◌≡◌, ℕ, ◌+◌, ◌<◌, ◌≤◌, false, List, [], ◌∷◌, ◌++◌, length, Option, None, Some, IfNone, inl, inr, refl, sym, ◌∙◌, ap, subst, arith}
use Rattle.std.proofs.lemmas.Bool.{both_ways, cases_lt}
use Rattle.std.proofs.lemmas.List.Elements.{All-push}
use Rattle.std.proofs.lemmas.List.{get_or_append_left, get_or_at, get_or_default, length-append}
use Rattle.cnf_core.specs.declared.literal.SatLit.{SatLit}
use Rattle.cnf_core.specs.declared.log.LogLine.{LogLine}
use Rattle.cnf_core.specs.declared.effect.Effect.TheVariants.{Neither}
use Rattle.cnf_core.specs.Clauses.{clause_at, AreKnown}
use Rattle.cnf_core.specs.Derivations.{clauses_of, effect_of, is_empty, is_true, line_fault}
use Rattle.trail_core.specs.declared.assigned.Assigned.{Assigned}
use Rattle.trail_core.specs.Trails.{IsTrail, Trailing, entry_at, literals, nothing, with_decision}
use Rattle.trail_core.proofs.BackLemmas.{front_at, front_within, low_at}
use Rattle.trail_core.proofs.TrailLemmas.{true_at}
use Rattle.watch_lists.specs.Propagations.{AreImplied, IsGrown, IsJustified, IsQuiet, before}
use Rattle.watch_lists.specs.Watched.{AreQuiet, Fits, IsCovered, IsPresent, IsRewatched, Watching}
use Rattle.watch_lists.proofs.EffectLemmas.{neither_true}
use Rattle.watch_lists.proofs.FitLemmas.{true_not_false}
use Rattle.watch_lists.proofs.GrowLemmas.{sound_more, sound_rewatched}
use Rattle.watch_lists.proofs.KeepLemmas.{fits_decided}
use Rattle.learn_solver.specs.declared.focus.Focus.{Focus}
use Rattle.learn_solver.specs.declared.restarts.Restarts.{Restarts}
use Rattle.learn_solver.specs.declared.search.Search.{Search}
use Rattle.learn_solver.specs.declared.search.Tools.{Tools}
use Rattle.learn_solver.specs.Orders.{IsOrder}
use Rattle.learn_solver.specs.Searches.{CanMove, CanReturn, HasReturned, IsDecided, IsLesson, IsRunning, IsSame, IsSearching, KeepsClauses}
use Rattle.learn_solver.specs.Solvers.{IsSolver, Solving, active}
use Rattle.learn_solver.specs.Starts.{IsFitting, IsSoundBack, StayTools}
use Rattle.learn_solver.proofs.AdvanceLemmas.{running_from, unrefuted_more}
use Rattle.learn_solver.proofs.GoneLemmas.{covered_grown, justified_back}
use Rattle.learn_solver.proofs.SolverLemmas.{line_known, solver_more}

-- where the attached clauses are quiet, all are
pub all_quiet_if : (watching : Watching) (t : Trailing) (r : Option ℕ) → IsTrail t → ((id : ℕ) → id < length watching.clauses → IsCovered watching t.entries id) → IfNone r (AreQuiet watching (literals t.entries)) → IfNone r (IsQuiet watching.clauses (literals t.entries))
all_quiet_if watching t (Some x) trail covered quiet = tt
all_quiet_if watching t None trail covered quiet = λ k d within.
    subst (λ c. effect_of (literals t.entries) c ≡ Neither) (get_or_default watching.clauses k [] d within) (elim (covered k within) [
      | inl attached ↦ quiet.quiet k within attached
      | inr rooted ↦
          let l = (entry_at t.entries rooted.at).literal in
          let holds = true_at t.entries rooted.at l rooted.within refl in
          neither_true (literals t.entries) (clause_at watching.clauses k) l holds (true_not_false t trail l holds) rooted.there
    ])

-- what was propagated fits
pub fitting_on : (before after : Watching) (old new : Trailing) → IsFitting before old → IsRewatched before after → Fits after new → IsPresent new → AreImplied before.clauses old new → IsGrown old new → IsFitting after new
fitting_on before after old new is rewatched fits present implied grown = record {
  fits = fits;
  present = present;
  sound = sound_rewatched before after old new rewatched is.sound grown implied;
  covered = λ id within. covered_grown before after old new id (omega (arith, within, ap length rewatched.clauses)) rewatched grown (is.covered id (omega (arith, within, ap length rewatched.clauses)));
}

-- it is under way after going back, or staying where it was
pub running_again : (s : Solving) (old new : Search) → IsRunning s old.trail old.watches old.tools → KeepsClauses old new → IsRunning s new.trail new.watches new.tools
running_again s old new is keeps =
    running_from s new keeps.fitting (subst (IsSolver s.formula s.ids s.lines) (sym keeps.clauses) is.learning.solver) (keeps.variables ∙ is.learning.searching.variables) is.learning.searching.unrefuted (keeps.tools s.formula s.ids is.learning.tools_are)

-- and may go back
pub can_move : (s : Solving) (search : Search) → IsRunning s search.trail search.watches search.tools → CanMove search
can_move s search is = record {
  fitting = is.fitting;
  order = subst (λ n. IsOrder n search.tools.order) (sym is.learning.searching.variables) is.learning.tools_are.order;
}

-- what it is after, and when it begins again, are none of what is kept of the variables
pub kept_beside : (old new : Search) (focus : Focus) (restarts : Restarts) → KeepsClauses (record old { tools = record old.tools { focus = focus; restarts = restarts } }) new → KeepsClauses old new
kept_beside old new focus restarts keeps = record {
  fitting = keeps.fitting;
  clauses = keeps.clauses;
  variables = keeps.variables;
  tools = λ formula ids are. keeps.tools formula ids (record { variables = are.variables; unmarked = are.unmarked; order = are.order });
}

-- so it is where it stayed as it was
pub running_same : (s : Solving) (old new : Search) → IsRunning s old.trail old.watches old.tools → IsSame old new → IsRunning s new.trail new.watches new.tools
running_same s old new is same = running_again s old new is (record {
  fitting = subst (λ (t : Trailing). IsFitting new.watches t) (sym same.trail) (subst (λ (w : Watching). IsFitting w old.trail) (sym same.watches) is.fitting);
  clauses = ap (λ (w : Watching). w.clauses) same.watches;
  variables = ap (λ (t : Trailing). t.variables) same.trail;
  tools = same.tools;
})

-- after a decision
pub decided_on : (s : Solving) (old new : Trailing) (w : Watching) (tools tools_new : Tools) (l : SatLit) → IsRunning s old w tools → StayTools tools tools_new → IsQuiet (active s.formula s.ids s.lines) (literals old.entries) → old.walked ≡ length old.entries → new ≡ with_decision old l → length old.entries < old.variables → IsDecided s old new w tools_new
decided_on s old new w tools tools_new l is stay quiet walked new_is room = subst (λ (t : Trailing). IsDecided s old t w tools_new) (sym new_is) (record {
  running = running_from s (record { trail = decided; watches = w; tools = tools_new }) (record {
    fits = fits_decided w old l is.fitting.fits (omega (arith, walked));
    present = record {
      present = λ k late within. ap (λ (x : Assigned). x.level) (get_or_at old.entries e [] nothing k (omega (arith, late, within, size, walked)));
    };
    sound = sound_more w.clauses old decided e is.fitting.sound (subst (λ cs. IsQuiet cs (literals old.entries)) (sym is.learning.solver.stored) quiet) refl;
    covered = λ id within. elim (is.fitting.covered id within) [
      | inl attached ↦ inl attached
      | inr rooted ↦
          let same = get_or_append_left old.entries (e ∷ []) nothing rooted.at rooted.within in
          inr (record {
            at = rooted.at;
            within = omega (arith, rooted.within, size);
            there = ap (λ (x : Assigned). is_true (clause_at w.clauses id) x.literal) same ∙ rooted.there;
            lowest = ap (λ (x : Assigned). x.level) same ∙ rooted.lowest;
          })
    ];
  }) is.learning.solver is.learning.searching.variables is.learning.searching.unrefuted (stay s.formula s.ids is.learning.tools_are);
  longer = omega (arith, size);
  most = omega (arith, size, room);
})
  where
    e : Assigned
    e = record { literal = l; level = old.level + 1; reason = None }

    decided : Trailing
    decided = with_decision old l

    size : length (old.entries ++ e ∷ []) ≡ length old.entries + 1
    size = length-append old.entries (e ∷ [])

-- ---- going back with a learned line

-- what is justified stays so with one clause more
justified_more : (clauses : List (List SatLit)) (clause : List SatLit) (made : List SatLit) (l : SatLit) (r : Option ℕ) → IsJustified clauses made l r → (r ≡ None → effect_of made clause ≡ Neither) → IsJustified (clauses ++ clause ∷ []) made l r
justified_more clauses clause made l None quiet more = All-push (λ c. effect_of made c ≡ Neither) clauses clause quiet (more refl)
justified_more clauses clause made l (Some id) reason more = record {
  there = omega (arith, reason.there, length-append clauses (clause ∷ []));
  makes = ap (effect_of made) (get_or_append_left clauses (clause ∷ []) [] id reason.there) ∙ reason.makes;
}

sound_back : (s : Solving) (line : LogLine) (t : Trailing) (w : Watching) (level : ℕ) → IsSearching s t → IsSolver s.formula s.ids s.lines w.clauses → IsLesson s t line level → IsSoundBack w line.clause t level
sound_back s line t w level searching solver lesson back is = record {
  justified = λ k within.
      let inside = front_within t back level is k within in
      let e = entry_at t.entries k in
      let low : e.level ≤ level = omega (arith, low_at t back level is k within, ap (λ (x : Assigned). x.level) (front_at t back level is k within)) in
      let old = subst (λ (cs : List (List SatLit)). IsJustified cs (before t.entries k) e.literal e.reason) (sym solver.stored) (searching.sound.justified k inside) in
      justified_back (w.clauses ++ line.clause ∷ []) t back level is k within (justified_more w.clauses line.clause (before t.entries k) e.literal e.reason old (λ decision. lesson.not_single k inside decision low));
}

pub can_return : (s : Solving) (line : LogLine) (search : Search) (level : ℕ) → IsRunning s search.trail search.watches search.tools → IsLesson s search.trail line level → is_empty line.clause ≡ false → CanReturn search line.clause level
can_return s line search level is lesson filled = record {
  movable = can_move s search is;
  known = subst (λ n. AreKnown n line.clause) (sym is.learning.searching.variables ∙ is.fitting.fits.variables) (line_known s.formula (clauses_of s.lines) line lesson.good);
  filled = filled;
  above = elim (cases_lt 0 search.trail.level) [
    | inl above ↦ above
    | inr lowest ↦ absurd (both_ways (is_empty line.clause) filled (lesson.closing (omega (arith, lowest))))
  ];
  asserting = lesson.asserting;
  sound = sound_back s line search.trail search.watches level is.learning.searching is.learning.solver lesson;
}

pub running_back : (old new : Solving) (line : LogLine) (mid next : Search) → IsRunning old mid.trail mid.watches mid.tools → new ≡ record old { lines = old.lines ++ line ∷ [] } → line_fault old.formula (clauses_of old.lines) line ≡ None → is_empty line.clause ≡ false → HasReturned mid next line.clause → IsRunning new next.trail next.watches next.tools
running_back old new line mid next is new_is good filled back =
    let more : Solving = record old { lines = old.lines ++ line ∷ [] } in
    let solver = solver_more old.formula old.ids old.lines more.lines mid.watches.clauses next.watches.clauses line is.learning.solver good refl back.clauses in
    let unrefuted = unrefuted_more old.lines line is.learning.searching.unrefuted filled in
    subst (λ s. IsRunning s next.trail next.watches next.tools) (sym new_is) (running_from more next back.fitting solver (back.variables ∙ is.learning.searching.variables) unrefuted (back.tools old.formula old.ids is.learning.tools_are))
