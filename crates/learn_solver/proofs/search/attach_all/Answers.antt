-- The clauses are attached one after the other, at level 0.
use Rattle.std.proofs.Common.{◌<◌, length, sym, ap, ◌∙◌, arith}
use Rattle.learn_solver.proofs.StartLemmas.{starting, starting_more}
use Rattle.learn_solver.proofs.search.attach_all.Goals as goal

pub loop-id-init : goal.loop-id-init
loop-id-init c = starting c.args.watches.now c.args.trail.now c.requires.idle

pub loop-id-preserved : goal.loop-id-preserved
loop-id-preserved c =
    let l = c.loop-id in
    let e = c.attach-conflict.ensures in
    let new = c.attach-conflict.new in
    let there : l.id < length l.watches.clauses = omega (arith, c.loop-id-test.true, c.count-id-end.ensures, ap length l.invariant.clauses, l.auto.id-end) in
    starting_more c.args.watches.now l.watches new.self l.trail new.trail l.id c.attach-conflict.result (sym c.is_some.ensures ∙ c.if-is_some.false) l.invariant there e.attached e.others e.fits e.present e.implied e.grown e.covered
