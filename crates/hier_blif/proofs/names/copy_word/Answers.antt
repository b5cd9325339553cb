use Rattle.std.proofs.Common.{length, ap, ◌∙◌}
use Rattle.text_core.specs.Piece.{front}
use Rattle.hier_blif.proofs.PortLemmas.{whole_front}
use Rattle.hier_blif.proofs.names.copy_word.Goals as goal

pub returns : goal.returns
returns c =
    let word = c.args.word.now in
    c.front.ensures ∙ (ap (λ bytes. front (length bytes) word) c.bytes.ensures.value ∙ whole_front word)
