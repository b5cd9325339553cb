-- The search goes on after a decision, or with a learned line after going back.
use Rattle.std.proofs.Common.{◌≡◌, ℕ, List, Option, sym, subst, ap, ◌∙◌}
use Rattle.cnf_core.specs.declared.literal.SatLit.{SatLit}
use Rattle.cnf_core.specs.declared.log.LogLine.{LogLine}
use Rattle.trail_core.specs.Trails.{Trailing}
use Rattle.learn_solver.specs.Searches.{CanReturn, HasReturned, IsLesson, IsWayBack}
use Rattle.learn_solver.proofs.AdvanceLemmas.{asking_learnt, extended_learnt, less_learned}
use Rattle.learn_solver.proofs.RunLemmas.{can_return, running_again, running_back, running_same}
use Rattle.learn_solver.proofs.StepLemmas.{last_added}
use Rattle.learn_solver.proofs.solver.Solver.advance.Goals as goal

pub decide-requires-clause-running : goal.decide-requires-clause-running
decide-requires-clause-running g c = running_again c.args.self.now c.args.search.now c.propagate.new.self c.requires.running c.propagate.ensures.keeps

pub learn-requires-clause-learning : goal.learn-requires-clause-learning
learn-requires-clause-learning g c = (running_again c.args.self.now c.args.search.now c.propagate.new.self c.requires.running c.propagate.ensures.keeps).learning

pub go_back-requires : goal.go_back-requires
go_back-requires g c =
    let old = c.args.self.now in
    let mid = c.propagate.new.self in
    let now = c.learn.new.search in
    let learnt = c.in_ok-level.ensures.learnt in
    let same = c.in_ok-level.ensures.same in
    let line = learnt.line in
    let level = c.in-Some-2.level in
    let running = running_same old mid now (running_again old c.args.search.now mid c.requires.running c.propagate.ensures.keeps) same in
    let way = subst (λ (b : Option ℕ). IsWayBack old mid.trail line b) c.in-Some-2.is learnt.way in
    let lesson = subst (λ (t : Trailing). IsLesson old t line level) (sym same.trail) way.1 in
    let clause : c.deref.result.now ≡ line.clause = c.deref.ensures.value ∙ ap (λ (l : LogLine). l.clause) (c.last.ensures ∙ last_added old c.learn.new.self line learnt.added) in
    subst (λ (cl : List SatLit). CanReturn now cl level) (sym clause) (can_return old line now level running lesson way.0)

pub returns-clause-gone : goal.returns-clause-gone
returns-clause-gone g c =
    let charging = g.L.Charge.charging in
    let old = c.args.self.now in
    let mid = c.propagate.new.self in
    let now = c.learn.new.search in
    let first = charging c.args.ledger.now in
    let after = charging c.learn.new.ledger in
    let learnt = c.in_ok-level.ensures.learnt in
    let line = learnt.line in
    let running = running_same old mid now (running_again old c.args.search.now mid c.requires.running c.propagate.ensures.keeps) c.in_ok-level.ensures.same in
    let way = subst (λ (b : Option ℕ). IsWayBack old mid.trail line b) c.in-Some-2.is learnt.way in
    let clause : c.deref.result.now ≡ line.clause = c.deref.ensures.value ∙ ap (λ (l : LogLine). l.clause) (c.last.ensures ∙ last_added old c.learn.new.self line learnt.added) in
    let back = subst (HasReturned now c.go_back.new.self) clause c.in_ok-go_back.ensures in
    record {
      extended = extended_learnt old c.learn.new.self first after mid.trail _ c.requires.asking learnt;
      asking = asking_learnt old c.learn.new.self first after mid.trail _ c.requires.asking learnt;
      answer_is = running_back old c.learn.new.self line now c.go_back.new.self running learnt.added learnt.learned_is.derived way.0 back;
    }

pub returns-clause-less : goal.returns-clause-less
returns-clause-less g c =
    let charging = g.L.Charge.charging in
    let learnt = c.in_ok-level.ensures.learnt in
    let same = ap (λ (t : Trailing). t.variables) c.in_ok-level.ensures.same.trail in
    less_learned learnt.line (charging c.args.ledger.now) (charging c.learn.new.ledger) c.args.search.now.trail c.go_back.new.self.trail (c.in_ok-go_back.ensures.variables ∙ (same ∙ c.propagate.ensures.keeps.variables)) learnt.charged
