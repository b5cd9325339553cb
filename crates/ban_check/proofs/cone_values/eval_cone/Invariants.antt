use Rattle.std.proofs.Common.{take}
use Rattle.ban_check.specs.Cones.{AreConeValues}
use Rattle.ban_check.proofs.cone_values.eval_cone.Given as goal

abbrev pub invariant-loop-gate : goal.invariant-loop-gate
invariant-loop-gate g l =
    AreConeValues g.V.SignalValue.operations l.first l.gates l.cone l.gate-index (take l.first l.fn.values) l.values
