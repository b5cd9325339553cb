-- One place further down the trail.
use Rattle.std.proofs.Common.{◌≡◌, ℕ, ◌+◌, ◌-◌, ◌^◌, ◌<◌, List, Bool, length, true, false, sym, subst, ap, ◌∙◌, arith}
use Rattle.circuits.specs.Literals.{bit}
use Rattle.cnf_core.specs.declared.literal.SatLit.{SatLit}
use Rattle.cnf_core.specs.Clauses.{clause_at, variable_of}
use Rattle.trail_core.specs.Trails.{Trailing, entry_at}
use Rattle.learn_solver.specs.declared.conflict.Analysis.{Analysis}
use Rattle.watch_lists.specs.Propagations.{IsJustified, before}
use Rattle.learn_solver.specs.Analyses.{AreBefore, AreMarked, AreOnTrail, IsAnalysed, IsAnalysis, here_in, is_marked}
use Rattle.learn_solver.proofs.AnalysisLemmas.{analysed_reason, analysed_unmarked, decision_alone, here_within, places_further, reason_places, top_level}
use Rattle.learn_solver.proofs.conflict.Analysis.step.Goals as goal
use Rattle.learn_solver.proofs.conflict.Analysis.step.Goals.{then-marked-variable+in-Some+in_ok-push, else-marked-variable}

-- the mark of the literal's variable was read
mark_read : (t : Trailing) → (marked : List Bool) (q v : ℕ) (l : SatLit) (b : Bool) → l ≡ (entry_at t.entries q).literal → v ≡ variable_of l → bit marked v ≡ b → is_marked marked (entry_at t.entries q) ≡ b
mark_read t marked q v l b literal variable read = ap (bit marked) (sym (variable ∙ ap variable_of literal)) ∙ read

pub unreachable-requires : goal.unreachable-requires
unreachable-requires c =
    let t = c.args.trail.now in
    let a = c.args.self.now in
    let q = a.below - 1 in
    let is = c.requires.analysis in
    let marked = c.args.marked.now in
    let some : 0 < a.here = omega (arith, c.requires.more) in
    let low : q + 1 ≡ a.below = omega (arith, here_within t marked a.below, is.count, some) in
    let within : q < length t.entries = omega (arith, low, is.within) in
    let count : here_in t c.args.marked.now (q + 1) ≡ a.here = ap (here_in t c.args.marked.now) low ∙ sym is.count in
    let level = top_level t c.requires.trail c.args.marked.now q within (omega (arith, count, some)) in
    let decision = sym c.reason_at.ensures ∙ c.in_default.is in
    omega (arith, decision_alone t c.requires.trail c.args.marked.now q within decision level, count, c.requires.more)

pub mark-more-requires-clause-places : goal.mark-more-requires-clause-places
mark-more-requires-clause-places c =
    let t = c.args.trail.now in
    let clauses = c.args.clauses.now.clauses in
    let a = c.args.self.now in
    let q = a.below - 1 in
    let is = c.requires.analysis in
    let low : q + 1 ≡ a.below = omega (arith, here_within t c.args.marked.now a.below, is.count, c.requires.more) in
    let within : q < length t.entries = omega (arith, low, is.within) in
    let reason = subst (λ r. IsJustified clauses (before t.entries q) (entry_at t.entries q).literal r) (sym c.reason_at.ensures ∙ c.in-Some.is) (c.requires.sound.justified q within) in
    subst (λ (clause : List SatLit). AreBefore t.entries (length t.entries) clause) (sym c.get.ensures) (places_further t.entries (q + 1) (length t.entries) (clause_at clauses c.in-Some.reason) (omega (arith, within)) (reason_places clauses t q c.in-Some.reason within reason))

pub overflow_add-self : goal.overflow_add-self
overflow_add-self c =
    let t = c.args.trail.now in
    let clauses = c.args.clauses.now.clauses in
    let a = c.args.self.now in
    let q = a.below - 1 in
    let is = c.requires.analysis in
    let low : q + 1 ≡ a.below = omega (arith, here_within t c.args.marked.now a.below, is.count, c.requires.more) in
    let within : q < length t.entries = omega (arith, low, is.within) in
    let reason = subst (λ r. IsJustified clauses (before t.entries q) (entry_at t.entries q).literal r) (sym c.reason_at.ensures ∙ c.in-Some.is) (c.requires.sound.justified q within) in
    let places = subst (λ (clause : List SatLit). AreBefore t.entries a.below clause) (sym c.get.ensures) (places_further t.entries (q + 1) a.below (clause_at clauses c.in-Some.reason) (omega (arith, low)) (reason_places clauses t q c.in-Some.reason within reason)) in
    let count = c.mark-more.ensures.here a.below places in
    let few = here_within t c.mark-more.new.marked a.below in
    let small : a.below < 2 ^ 64 = omega (arith, c.fits-self) in
    omega (arith, count, few, is.count, small)

pub returns-clause-analysis : goal.returns-clause-analysis
returns-clause-analysis c =
    let t = c.args.trail.now in
    let clauses = c.args.clauses.now.clauses in
    let a = c.args.self.now in
    let marked = c.args.marked.now in
    let q = a.below - 1 in
    let is = c.requires.analysis in
    let low : a.below ≡ q + 1 = omega (arith, here_within t marked a.below, is.count, c.requires.more) in
    let within : q < length t.entries = omega (arith, low, is.within) in
    let here = subst (λ b. IsAnalysed clauses t marked b a.here a.steps.items) low is in
    elim c.if-marked-variable.branch [
      | then-marked-variable+in-Some+in_ok-push w ↦
          let id = w.in-Some.reason in
          let now = w.mark-more.new.marked in
          let read = mark_read t marked q c.variable.result c.lit_at.result true c.lit_at.ensures c.variable.ensures w.if-marked-variable.true in
          let reason = subst (λ r. IsJustified clauses (before t.entries q) (entry_at t.entries q).literal r) (sym w.reason_at.ensures ∙ w.in-Some.is) (c.requires.sound.justified q within) in
          let places = subst (λ (clause : List SatLit). AreBefore t.entries (q + 1) clause) (sym w.get.ensures) (reason_places clauses t q id within reason) in
          let counted = w.mark-more.ensures.here (q + 1) places in
          let are_marked = subst (λ (clause : List SatLit). AreMarked now clause) w.get.ensures w.mark-more.ensures.marked in
          let next = analysed_reason clauses t c.requires.trail marked now q a.here w.mark-more.result id a.steps.items here c.requires.more read reason w.mark-more.auto.marked w.mark-more.ensures.stay are_marked counted in
          let pushed = subst (λ (ss : List ℕ). IsAnalysed clauses t now q (a.here + w.mark-more.result - 1) ss) (sym w.in_ok-push.ensures.items) next in
          subst (λ (ms : List Bool). IsAnalysis clauses t ms (record c.if-marked-variable.self { below = q })) (sym w.marked-is) (subst (λ (x : Analysis). IsAnalysed clauses t now q x.here x.steps.items) (sym w.self-is) pushed)
      | else-marked-variable w ↦
          let read = mark_read t marked q c.variable.result c.lit_at.result false c.lit_at.ensures c.variable.ensures w.if-marked-variable.false in
          let next = analysed_unmarked clauses t c.requires.trail marked q a.here a.steps.items here read in
          subst (λ (ms : List Bool). IsAnalysis clauses t ms (record c.if-marked-variable.self { below = q })) (sym w.marked-is) (subst (λ (x : Analysis). IsAnalysed clauses t marked q x.here x.steps.items) (sym w.self-is) next)
    ]

pub returns-in_err-push-clause-on_trail : goal.returns-in_err-push-clause-on_trail
returns-in_err-push-clause-on_trail c = c.mark-more.ensures.on_trail c.requires.on_trail

pub returns-clause-on_trail : goal.returns-clause-on_trail
returns-clause-on_trail c =
    let es = c.args.trail.now.entries in
    elim c.if-marked-variable.branch [
      | then-marked-variable+in-Some+in_ok-push w ↦
          subst (λ (ms : List Bool). AreOnTrail es ms) (sym w.marked-is) (w.mark-more.ensures.on_trail c.requires.on_trail)
      | else-marked-variable w ↦ subst (λ (ms : List Bool). AreOnTrail es ms) (sym w.marked-is) c.requires.on_trail
    ]
