-- The constant and the inputs so far stand at the front.
use Rattle.std.proofs.Common.{◌≡◌, ◌+◌, ◌∷◌, length, take}
use Rattle.net_core.proofs.evaluating.put_inputs.Given as goal

abbrev pub invariant-loop-i : goal.invariant-loop-i
invariant-loop-i g l =
    (take (l.i + 1) l.values ≡ l.fn.constant ∷ take l.i l.inputs) × (length l.values ≡ length l.fn.values)
