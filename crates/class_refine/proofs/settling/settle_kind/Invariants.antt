use Rattle.class_refine.proofs.SettleLemmas.{IsFromBefore, IsUnderWay}
use Rattle.class_refine.proofs.settling.settle_kind.Given as goal

abbrev pub invariant-loop-from : goal.invariant-loop-from
invariant-loop-from l =
    IsUnderWay l.grounds l.fn.book l.book l.fn.domains l.domains (IsFromBefore l.fn.domains.inputs l.fn.domains.outputs l.kind l.from)
