use Rattle.class_refine.proofs.SettleLemmas.{IsUnderWay, IsWayBefore}
use Rattle.class_refine.proofs.settling.settle_port.Given as goal

abbrev pub invariant-loop-number : goal.invariant-loop-number
invariant-loop-number l = IsUnderWay l.grounds l.fn.book l.book l.fn.domains l.domains (IsWayBefore l.fn.kind l.from l.number)
