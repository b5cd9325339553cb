use Rattle.std.proofs.Common.{◌≡◌}
use Rattle.std.specs.Prelude.{filter}
use Rattle.std.specs.List.{range_with_len}
use Rattle.sim_signature.specs.Supports.{output_reaches}
use Rattle.sim_signature.proofs.supports.Supports.inputs_of.Given as goal

abbrev pub invariant-loop-input : goal.invariant-loop-input
invariant-loop-input l = l.inputs ≡ filter (output_reaches l.self l.output) (range_with_len 0 l.input)
