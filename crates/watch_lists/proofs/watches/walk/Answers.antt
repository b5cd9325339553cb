-- The list is walked to its end, or to a conflict.
use Rattle.std.proofs.Common.{◌≡◌, ◌+◌, ◌-◌, ◌*◌, sym, subst, ◌∙◌, arith}
use Rattle.trail_core.specs.Trails.{Trailing}
use Rattle.watch_lists.specs.declared.lists.Lists.{Lists}
use Rattle.watch_lists.specs.Lists.{IsAttached}
use Rattle.watch_lists.specs.Watched.{IsReady, IsWalking, StayAttached}
use Rattle.watch_lists.proofs.GrowLemmas.{grown_twice, implied_twice}
use Rattle.watch_lists.proofs.PassLemmas.{stay_twice, walk_stopped, way_end, way_start}
use Rattle.watch_lists.proofs.watches.walk.Goals as goal

pub loop-left-init : goal.loop-left-init
loop-left-init c =
    way_start c.args.clauses.now.clauses c.args.lists.now.watches.items c.args.lists.now.store c.args.trail.now c.args.literal c.requires.ready c.requires.there c.requires.falsity c.requires.known c.count-left.result c.count-left.ensures

pub visit-requires : goal.visit-requires
visit-requires c =
    let l = c.loop-left in
    let last : l.left ≡ l.left - 1 + 1 = omega (arith, c.loop-left-test.true) in
    record { walking = subst (IsWalking c.args.clauses.now.clauses l.lists.watches.items l.lists.store l.trail c.args.literal) last l.invariant.walking }

pub returns-clause-none : goal.returns-clause-none
returns-clause-none c =
    let l = c.loop-left in
    way_end c.args.clauses.now.clauses c.args.lists.now.watches.items l.lists.watches.items l.lists.store c.args.trail.now l.trail c.args.literal l.left l.invariant (omega (arith, c.loop-left-test.false))

pub returns-in-Some-clause-some : goal.returns-in-Some-clause-some
returns-in-Some-clause-some c =
    let l = c.loop-left in
    let clauses = c.args.clauses.now.clauses in
    let ready = walk_stopped clauses c.args.lists.now.watches.items l.lists.watches.items l.lists.store c.args.trail.now l.trail c.args.literal l.left l.invariant in
    subst (λ (t : Trailing). IsReady clauses c.visit.new.lists.watches.items c.visit.new.lists.store t) (sym c.in-Some.ensures.same_trail) (subst (λ (x : Lists). IsReady clauses x.watches.items x.store l.trail) (sym c.in-Some.ensures.same_lists) ready)

pub returns-in-Some-clause-attached : goal.returns-in-Some-clause-attached
returns-in-Some-clause-attached c =
    subst (λ (x : Lists). StayAttached c.args.lists.now.watches.items x.watches.items) (sym c.in-Some.ensures.same_lists) c.loop-left.invariant.attached

pub returns-in-Some-clause-of_attached : goal.returns-in-Some-clause-of_attached
returns-in-Some-clause-of_attached c =
    subst (λ (x : Lists). IsAttached x.watches.items (2 * c.in-Some.failed)) (sym c.in-Some.ensures.same_lists) c.in-Some.ensures.of_attached

pub loop-left-preserved : goal.loop-left-preserved
loop-left-preserved c =
    let clauses = c.args.clauses.now.clauses in
    let old = c.args.lists.now.watches.items in
    let l = c.loop-left in
    let is = l.invariant in
    let new = c.visit.new in
    let seen = c.in_default.ensures in
    record {
      walking = seen.walking;
      grown = grown_twice c.args.trail.now l.trail new.trail is.grown seen.grown;
      implied = implied_twice clauses c.args.trail.now l.trail new.trail is.implied seen.grown seen.implied;
      walked = seen.walked ∙ is.walked;
      attached = stay_twice clauses old l.lists.watches.items new.lists.watches.items is.size is.walking.of_clauses.size is.attached seen.attached;
      size = is.size;
    }
