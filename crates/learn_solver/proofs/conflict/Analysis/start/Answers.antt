-- An analysis begins with the literals of the conflict.
use Rattle.std.proofs.Common.{◌≡◌, ℕ, ◌++◌, ◌∷◌, [], List, Bool, length, false, sym, subst, ap, ◌∙◌, arith}
use Rattle.std.proofs.lemmas.List.{length-replicate}
use Rattle.cnf_core.specs.declared.literal.SatLit.{SatLit}
use Rattle.learn_solver.specs.Analyses.{AreBefore, AreMarked, AreOnTrail, here_in}
use Rattle.learn_solver.proofs.PlaceLemmas.{conflict_places}
use Rattle.learn_solver.proofs.AnalysisLemmas.{analysed_start, none_marked}
use Rattle.learn_solver.proofs.ClearLemmas.{unmarked_on_trail}
use Rattle.learn_solver.proofs.conflict.Analysis.start.Goals as goal

pub mark-here-requires-clause-places : goal.mark-here-requires-clause-places
mark-here-requires-clause-places c =
    let es = c.args.trail.now.entries in
    subst (λ (clause : List SatLit). AreBefore es (length es) clause) (sym c.get.ensures) (conflict_places es _ c.requires.conflict.conflict)

pub returns-clause-analysis : goal.returns-clause-analysis
returns-clause-analysis c =
    let t = c.args.trail.now in
    let clauses = c.args.clauses.now.clauses in
    let id = c.args.conflict in
    let now = c.mark-here.new.marked in
    let here = c.mark-here.result in
    let places = conflict_places t.entries _ c.requires.conflict.conflict in
    let at_get = subst (λ (clause : List SatLit). AreBefore t.entries (length t.entries) clause) (sym c.get.ensures) places in
    let count = c.mark-here.ensures.here (length t.entries) at_get in
    let none = ap (λ m. here_in t m (length t.entries)) c.requires.clear ∙ none_marked t t.variables (length t.entries) in
    let are_marked = subst (λ (clause : List SatLit). AreMarked now clause) c.get.ensures c.mark-here.ensures.marked in
    let size : length now ≡ t.variables = c.mark-here.auto.marked ∙ (ap length c.requires.clear ∙ length-replicate t.variables false) in
    let steps : c.push.new.self.items ≡ id ∷ [] = c.in_ok-push.ensures.items ∙ ap (λ (ss : List ℕ). ss ++ id ∷ []) c.new-steps.ensures.items in
    analysed_start clauses t c.len-below.ensures.trail c.requires.sound now id here c.len-below.result c.push.new.self.items c.requires.conflict.there c.requires.conflict.conflict are_marked size (omega (arith, count, none)) c.len-below.ensures.value steps

pub returns-clause-on_trail : goal.returns-clause-on_trail
returns-clause-on_trail c =
    let t = c.args.trail.now in
    c.mark-here.ensures.on_trail (subst (λ (m : List Bool). AreOnTrail t.entries m) (sym c.requires.clear) (unmarked_on_trail t.entries t.variables))
