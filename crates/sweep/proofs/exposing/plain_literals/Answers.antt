-- One literal more.
use Rattle.std.proofs.Common.{◌*◌, ◌∙◌, refl}
use Rattle.net_core.proofs.ExpandLaws.{own_literals-more}
use Rattle.sweep.proofs.exposing.plain_literals.Goals as goal

pub loop-signal-preserved : goal.loop-signal-preserved
loop-signal-preserved c =
    c.in_ok-push.ensures.items ∙ own_literals-more c.loop-signal.literals.items c.loop-signal.signal (record { 0 = 2 * c.loop-signal.signal }) c.loop-signal.invariant refl
