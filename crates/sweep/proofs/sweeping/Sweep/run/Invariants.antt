-- The signals so far were gone over.
use Rattle.std.proofs.Common.{◌≡◌}
use Rattle.sweep.specs.Comparing.{HasCompared}
use Rattle.sweep.specs.Sweeping.{IsSweeping}
use Rattle.sweep.proofs.sweeping.Sweep.run.Given as goal

abbrev pub invariant-loop-signal : goal.invariant-loop-signal
invariant-loop-signal l =
    IsSweeping l.exposed l.self l.signal × HasCompared l.exposed l.signal l.signal l.ledger × (l.ledger.budget ≡ l.fn.ledger.budget)
