use Rattle.trail_core.proofs.CutLemmas.{IsPassed}
use Rattle.trail_core.proofs.trail.kept_at.Given as goal

abbrev pub invariant-loop-kept : goal.invariant-loop-kept
invariant-loop-kept l = IsPassed l.level l.entries l.kept

abbrev pub decreases-loop-kept : goal.decreases-loop-kept
decreases-loop-kept l = l.kept
