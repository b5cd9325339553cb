use Rattle.std.proofs.Common.{[], take}
use Rattle.hier_blif.specs.Bindings.{formal_of, actual_of}
use Rattle.hier_blif.specs.Names.{binds_input}
use Rattle.hier_blif.specs.Drivers.{IsFilled}
use Rattle.hier_blif.specs.Frames.{models_in, own_signal}
use Rattle.hier_blif.proofs.frames.Blocks.inputs_of.Given as goal

abbrev pub invariant-loop-word : goal.invariant-loop-word
invariant-loop-word l =
    IsFilled (binds_input (models_in l.self) l.line) (λ word. formal_of word.bytes) (λ word. own_signal (models_in l.self) l.frame (actual_of word.bytes)) [] (take l.word-index l.line.bindings) l.inputs
