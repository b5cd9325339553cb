-- What is learned from a conflict is a line.
use Rattle.std.proofs.Common.{◌≡◌, ℕ, ◌<◌, List, length, map, slice_index_or, sym, subst, ap, ◌∙◌, arith}
use Rattle.cnf_core.specs.declared.literal.SatLit.{SatLit}
use Rattle.cnf_core.specs.declared.log.LogLine.{LogLine}
use Rattle.learn_solver.specs.Analyses.{IsLearnedAs}
use Rattle.learn_solver.specs.Solvers.{active, id_at}
use Rattle.learn_solver.proofs.SolverLemmas.{steps_there}
use Rattle.learn_solver.proofs.StepLemmas.{lesson_from}
use Rattle.learn_solver.proofs.solver.Solver.derive.Goals as goal

pub bump_all-requires-clause-there : goal.bump_all-requires-clause-there
bump_all-requires-clause-there g c k d within =
    let clauses = c.args.search.now.watches.clauses in
    let steps = c.in_ok-clause.field-0.steps.items in
    let learned = subst (λ (cs : List (List SatLit)). IsLearnedAs cs c.args.search.now.trail c.in_ok-clause.field-0.clause steps c.in_ok-clause.field-0.level) c.store.ensures.clauses c.in_ok-clause.ensures.learned in
    let there = subst (λ (ss : List ℕ). (j e : ℕ) → j < length ss → slice_index_or ss j e < length clauses) (sym c.deref.ensures.value) (steps_there clauses _ steps learned.derived) in
    omega (arith, there k d within, ap length c.store-2.ensures.clauses)

pub hints-requires : goal.hints-requires
hints-requires g c k d within =
    let s = c.args.self.now in
    let clauses = c.args.search.now.watches.clauses in
    let steps = c.in_ok-clause.field-0.steps.items in
    let learned = subst (λ (cs : List (List SatLit)). IsLearnedAs cs c.args.search.now.trail c.in_ok-clause.field-0.clause steps c.in_ok-clause.field-0.level) c.store.ensures.clauses c.in_ok-clause.ensures.learned in
    let there = subst (λ (ss : List ℕ). (j e : ℕ) → j < length ss → slice_index_or ss j e < length clauses) (sym c.deref-2.ensures.value) (steps_there clauses _ steps learned.derived) in
    let size : length clauses ≡ length (active s.formula s.ids s.lines) = ap length c.requires.learning.solver.stored in
    omega (arith, there k d within, size)

pub returns-clause-lesson : goal.returns-clause-lesson
returns-clause-lesson g c =
    let s = c.args.self.now in
    let t = c.args.search.now.trail in
    let clauses = c.args.search.now.watches.clauses in
    let found = c.in_ok-clause.field-0 in
    let line : LogLine = record { clause = found.clause; hints = c.in_ok-hints.hints } in
    let learned = subst (λ (cs : List (List SatLit)). IsLearnedAs cs t found.clause found.steps.items found.level) c.store.ensures.clauses c.in_ok-clause.ensures.learned in
    let hints = c.in_ok-hints.ensures ∙ ap (map (id_at s.formula s.ids)) c.deref-2.ensures.value in
    lesson_from s t clauses line found.steps.items found.level c.requires.learning.solver c.requires.learning.searching learned hints
