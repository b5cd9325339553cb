use Rattle.std.proofs.Common.{◌≡◌, ◌++◌, drop, map, take}
use Rattle.std.specs.Option.{option_map}
use Rattle.account_trim.specs.Lowered.{lowered}
use Rattle.account_trim.proofs.lowering.lower_references.Given as goal

abbrev pub invariant-loop-place : goal.invariant-loop-place
invariant-loop-place l = l.references ≡ map (option_map (lowered l.counts)) (take l.place l.fn.references) ++ drop l.place l.fn.references
