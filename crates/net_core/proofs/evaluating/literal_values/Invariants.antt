-- The literals so far have their values.
use Rattle.std.proofs.Common.{◌≡◌, map, take}
use Rattle.net_core.specs.Values.{literal_value}
use Rattle.net_core.proofs.evaluating.literal_values.Given as goal

abbrev pub invariant-loop-literal : goal.invariant-loop-literal
invariant-loop-literal g l =
    l.found.items ≡ map (literal_value g.V.SignalValue.operations l.values) (take l.literal-index l.literals)
