use Rattle.std.proofs.Common.{◌≡◌, ◌++◌, drop}
use Rattle.claim_core.specs.Formulas.{feeds_differ}
use Rattle.query_core.proofs.reaching.push_differing.Given as goal

abbrev pub invariant-loop-input : goal.invariant-loop-input
invariant-loop-input l =
    l.signals.items ++ feeds_differ (drop l.input l.left) (drop l.input l.right) ≡ l.fn.signals.items ++ feeds_differ l.left l.right
