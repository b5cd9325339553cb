use Rattle.hier_blif.specs.Frames.{models_in}
use Rattle.hier_blif.proofs.FrameLemmas.{inputs_more, input_name}
use Rattle.hier_blif.proofs.frames.Blocks.inputs_of.Goals as goal

pub add_input-requires-clause-name : goal.add_input-requires-clause-name
add_input-requires-clause-name c =
    input_name (models_in c.args.self.now) c.args.frame.now c.args.line.now c.place_of-place.result c.deref-word-items.result.now c.loop-word.word-index c.word-item.result c.is_input-is_input.result c.deref-word-items.ensures.value c.place_of-place.ensures c.loop-word-test.true c.word-item.is c.is_input-is_input.ensures c.requires.names

pub loop-word-preserved : goal.loop-word-preserved
loop-word-preserved c =
    inputs_more (models_in c.args.self.now) c.args.frame.now c.args.line.now c.place_of-place.result c.deref-word-items.result.now c.loop-word.word-index c.word-item.result c.is_input-is_input.result c.loop-word.inputs c.add_input.new.inputs c.deref-word-items.ensures.value c.place_of-place.ensures c.loop-word-test.true c.word-item.is c.is_input-is_input.ensures c.in_ok-add_input.ensures c.loop-word.invariant
