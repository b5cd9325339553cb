use Rattle.std.proofs.Common.{ap, subst, ◌∙◌}
use Rattle.blif_reader.specs.Numbers.{names_of, IsAdded}
use Rattle.text_core.specs.Piece.{Piece}
use Rattle.hier_blif.specs.Bindings.{formal_of}
use Rattle.hier_blif.proofs.KeyLemmas.{keys_more, all_keys}
use Rattle.hier_blif.proofs.names.formals_of.Goals as goal

pub loop-word-preserved : goal.loop-word-preserved
loop-word-preserved c =
    let words = c.args.words.now in
    let word = c.word-item.result in
    let name = c.formal_of.ensures ∙ ap formal_of c.bytes.ensures.value in
    let adds = subst (λ n. IsAdded n c.in_ok-_added._added (names_of c.loop-word.formals) (names_of c.add_name.new.names)) name c.in_ok-_added.ensures in
    keys_more (λ (w : Piece). formal_of w.bytes) words c.loop-word.word-index word c.in_ok-_added._added _ _ c.loop-word-test.true c.word-item.is c.loop-word.invariant adds

pub returns : goal.returns
returns c =
    all_keys (λ (w : Piece). formal_of w.bytes) c.args.words.now c.loop-word.word-index _ c.loop-word-test.false c.loop-word.invariant
