-- One literal after the other is walked.
use Rattle.std.proofs.Common.{subst, sym}
use Rattle.watch_lists.specs.Watched.{IsReady}
use Rattle.watch_lists.proofs.GrowLemmas.{implied_twice}
use Rattle.watch_lists.proofs.PassLemmas.{stay_twice, under_way_step}
use Rattle.watch_lists.proofs.watches.walk_all.Goals as goal

pub returns-in-Some-clause-attached : goal.returns-in-Some-clause-attached
returns-in-Some-clause-attached c =
    let l = c.loop-trail in
    stay_twice c.args.clauses.now.clauses c.args.lists.now.watches.items l.lists.watches.items c.walk.new.lists.watches.items l.invariant.size l.invariant.ready.kept.of_clauses.size l.invariant.attached c.walk.ensures.attached

pub loop-trail-preserved : goal.loop-trail-preserved
loop-trail-preserved c =
    let l = c.loop-trail in
    let step = c.step.ensures in
    let lists = c.walk.new.lists in
    let walked = c.walk.new.trail in
    under_way_step c.args.clauses.now.clauses c.args.lists.now.watches.items l.lists.watches.items lists.watches.items l.lists.store lists.store c.args.trail.now l.trail walked c.step.new.self l.invariant (subst (IsReady c.args.clauses.now.clauses lists.watches.items lists.store) (sym step) c.in_default.ensures.none) c.walk.ensures.grown c.walk.ensures.implied step c.walk.ensures.attached

pub returns-in-Some-clause-implied : goal.returns-in-Some-clause-implied
returns-in-Some-clause-implied c =
    let l = c.loop-trail in
    implied_twice c.args.clauses.now.clauses c.args.trail.now l.trail c.walk.new.trail l.invariant.implied c.walk.ensures.grown c.walk.ensures.implied
