-- A marked literal gives way to the others of its reason.
use Rattle.std.proofs.Common.{◌≡◌, ℕ, ◌+◌, ◌<◌, ◌||◌, not, List, Bool, length, false, nat_le, slice_set, Some, inl, inr, sym, subst, ap, ◌∙◌, arith}
use Rattle.std.proofs.lemmas.Bool.{both_ways, or_parts}
use Rattle.std.proofs.lemmas.Bool.Decides.{leb_tells}
use Rattle.circuits.specs.Literals.{bit}
use Rattle.cnf_core.specs.declared.literal.SatLit.{SatLit}
use Rattle.cnf_core.specs.Clauses.{clause_at, variable_of}
use Rattle.trail_core.specs.Trails.{IsTrail, Trailing, entry_at}
use Rattle.watch_lists.specs.Propagations.{IsJustified, IsReason, IsSound, before}
use Rattle.learn_solver.specs.Analyses.{AreBefore, AreMarked, IsReduced}
use Rattle.learn_solver.proofs.AnalysisLemmas.{places_further, reason_places}
use Rattle.learn_solver.proofs.ClearLemmas.{unset_on_trail}
use Rattle.learn_solver.proofs.MinimizeLemmas.{away_from, reduced_away}
use Rattle.learn_solver.proofs.conflict.Analysis.give_way.Goals as goal

-- the reason of the literal was read
reason_read : (clauses : List (List SatLit)) (t : Trailing) (q id : ℕ) → IsSound clauses t → q < length t.entries → (entry_at t.entries q).reason ≡ Some id → IsReason clauses (before t.entries q) (entry_at t.entries q).literal id
reason_read clauses t q id sound within read = subst (λ r. IsJustified clauses (before t.entries q) (entry_at t.entries q).literal r) read (sound.justified q within)

-- so was its variable
variable_known : (t : Trailing) → IsTrail t → (marked : List Bool) (q v : ℕ) → q < length t.entries → length marked ≡ t.variables → v ≡ variable_of (entry_at t.entries q).literal → v < length marked
variable_known t trail marked q v within size at = omega (arith, trail.known q within, size, at)

-- it is of a lower level
is_lower : (marked : Bool) (level present : ℕ) → (not marked || nat_le present level) ≡ false → level < present
is_lower marked level present tests = elim (leb_tells present level) [
  | inl (found, late) ↦ absurd (both_ways (nat_le present level) (or_parts (not marked) (nat_le present level) tests).1 found)
  | inr (found, early) ↦ early
]

pub mark-requires-clause-places : goal.mark-requires-clause-places
mark-requires-clause-places c =
    let t = c.args.trail.now in
    let q = c.args.place in
    let is = c.requires.reducing in
    let id = c.in-Some.id in
    let within : q < length t.entries = omega (arith, is.low, is.within) in
    let reason = reason_read c.args.clauses.now.clauses t q id c.requires.sound within (sym c.reason_at.ensures ∙ c.in-Some.is) in
    subst (λ (clause : List SatLit). AreBefore t.entries (length t.entries) clause) (sym c.get.ensures) (places_further t.entries (q + 1) (length t.entries) (clause_at c.args.clauses.now.clauses id) (omega (arith, within)) (reason_places c.args.clauses.now.clauses t q id within reason))

pub returns-in_err-push-clause-on_trail : goal.returns-in_err-push-clause-on_trail
returns-in_err-push-clause-on_trail c = c.mark.ensures.on_trail c.requires.on_trail

pub returns-clause-reducing : goal.returns-clause-reducing
returns-clause-reducing c =
    let t = c.args.trail.now in
    let clauses = c.args.clauses.now.clauses in
    let a = c.args.self.now in
    let q = c.args.place in
    let is = c.requires.reducing in
    let id = c.in-Some.id in
    let v = c.variable-variable.result in
    let now = c.mark.new.marked in
    let within : q < length t.entries = omega (arith, is.low, is.within) in
    let at = c.variable-variable.ensures ∙ ap variable_of c.lit_at.ensures in
    let known = variable_known t c.requires.trail now q v within (c.mark.auto.marked ∙ is.size) at in
    let reason = reason_read clauses t q id c.requires.sound within (sym c.reason_at.ensures ∙ c.in-Some.is) in
    let lower : (entry_at t.entries q).level < t.level = omega (arith, is_lower (bit c.args.marked.now v) c.level_at.result c.level.result c.if-marked-variable.false, c.level_at.ensures, c.level.ensures.value) in
    let places = subst (λ (clause : List SatLit). AreBefore t.entries (q + 1) clause) (sym c.get.ensures) (reason_places clauses t q id within reason) in
    let are_marked = subst (λ (clause : List SatLit). AreMarked now clause) c.get.ensures c.mark.ensures.marked in
    let away = away_from t c.requires.trail c.args.marked.now now q v a.below (clause_at clauses id) within at known c.mark.auto.marked c.mark.ensures.stay are_marked (c.mark.ensures.later (q + 1) places) in
    let next = reduced_away clauses t c.requires.trail c.args.marked.now (slice_set now v false) a.below a.here q id a.steps.items is reason lower away in
    subst (λ (ss : List ℕ). IsReduced clauses t (slice_set now v false) a.below a.here ss q) (sym c.in_ok-push.ensures.items) next

pub returns-clause-on_trail : goal.returns-clause-on_trail
returns-clause-on_trail c =
    let t = c.args.trail.now in
    let is = c.requires.reducing in
    let at = c.variable-variable.ensures ∙ ap variable_of c.lit_at.ensures in
    let known = variable_known t c.requires.trail c.mark.new.marked c.args.place c.variable-variable.result (omega (arith, is.low, is.within)) (c.mark.auto.marked ∙ is.size) at in
    unset_on_trail t.entries c.mark.new.marked c.variable-variable.result known (c.mark.ensures.on_trail c.requires.on_trail)
