-- The literals so far are what they were.
use Rattle.std.proofs.Common.{◌≡◌, ◌<◌, All, length, map, take}
use Rattle.circuits.specs.Literals.{signal_of}
use Rattle.sweep.specs.Pruning.{origin}
use Rattle.sweep.proofs.pruning.Numbering.outputs.Given as goal

abbrev pub invariant-loop-output : goal.invariant-loop-output
invariant-loop-output l =
    (map (origin l.self.origins.items) l.literals.items ≡ take l.output-index l.outputs)
    × All (λ literal. signal_of literal < length l.self.origins.items) l.literals.items
