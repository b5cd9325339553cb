use Rattle.std.proofs.Common.{◌≡◌, map, take}
use Rattle.hier_blif.specs.Frames.{models_in, own_signal}
use Rattle.hier_blif.proofs.frames.Blocks.operand_signals.Given as goal

abbrev pub invariant-loop-word : goal.invariant-loop-word
invariant-loop-word l =
    l.signals ≡ map (λ word. own_signal (models_in l.self) l.frame word.bytes) (take l.word-index l.operands)
