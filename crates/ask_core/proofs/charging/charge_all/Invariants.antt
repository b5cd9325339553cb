-- The lines so far were charged.
use Rattle.std.proofs.Common.{take}
use Rattle.ask_core.specs.Solved.{AreCharged}
use Rattle.ask_core.proofs.charging.charge_all.Given as goal

abbrev pub invariant-loop-line : goal.invariant-loop-line
invariant-loop-line g l = AreCharged (g.L.Charge.charging l.fn.ledger) (take l.line-index l.lines) (g.L.Charge.charging l.ledger)
