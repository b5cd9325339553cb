use Rattle.std.proofs.Common.{◌≡◌, map, take}
use Rattle.circuits.specs.Literals.{plain_literal}
use Rattle.hier_blif.specs.Frames.{models_in, own_signal}
use Rattle.hier_blif.proofs.flattening.output_literals.Given as goal

abbrev pub invariant-loop-name : goal.invariant-loop-name
invariant-loop-name l =
    l.literals ≡ map (λ key. plain_literal (own_signal (models_in l.blocks) l.top key.now)) (take l.name-index l.names.keys)
