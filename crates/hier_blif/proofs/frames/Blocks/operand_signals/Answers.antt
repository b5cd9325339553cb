use Rattle.std.proofs.Common.{sym, subst}
use Rattle.text_core.specs.Piece.{Piece}
use Rattle.hier_blif.specs.Frames.{models_in, IsNameOf}
use Rattle.hier_blif.proofs.frames.Blocks.operand_signals.Goals as goal

pub signal_of-requires-clause-name : goal.signal_of-requires-clause-name
signal_of-requires-clause-name c =
    let models = models_in c.args.self.now in
    let frame = c.args.frame.now in
    let word = c.word-item.result in
    let known = c.requires.names c.loop-word.word-index word c.loop-word-test.true in
    subst (IsNameOf models frame) (sym c.bytes.ensures.value) (subst (λ (w : Piece). IsNameOf models frame w.bytes) (sym c.word-item.is) known)
