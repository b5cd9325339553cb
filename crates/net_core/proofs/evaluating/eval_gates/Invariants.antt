-- The values so far, continued by the gates that are left, are those of the whole.
use Rattle.std.proofs.Common.{◌≡◌, ◌+◌, length, take, drop}
use Rattle.net_core.specs.Values.{with_values}
use Rattle.net_core.proofs.evaluating.eval_gates.Given as goal

abbrev pub invariant-loop-t : goal.invariant-loop-t
invariant-loop-t g l =
    (with_values g.V.SignalValue.operations (take (l.first + l.t) l.values) (drop l.t l.gates) ≡ with_values g.V.SignalValue.operations (take l.first l.fn.values) l.gates)
    × (length l.values ≡ length l.fn.values)
