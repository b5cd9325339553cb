use Rattle.std.proofs.Common.{ap, subst, true, false, take, ◌∙◌}
use Rattle.text_core.specs.Piece.{Piece}
use Rattle.blif_reader.specs.Numbers.{names_of, IsAdded}
use Rattle.hier_blif.specs.declared.fault.HierKind.TheVariants as wrong
use Rattle.hier_blif.specs.Bindings.{formal_of}
use Rattle.hier_blif.specs.NameFaults.{at_words, found_in, binds_again}
use Rattle.hier_blif.proofs.FindLemmas.{found_more, found_none, found_stop, told_at}
use Rattle.hier_blif.proofs.KeyLemmas.{keys_more, key_told}
use Rattle.hier_blif.proofs.names.check_once.Goals as goal

pub loop-word-preserved : goal.loop-word-preserved
loop-word-preserved c =
    let words = c.args.words.now in
    let word = c.word-item.result in
    let k = c.loop-word.word-index in
    let key = λ (w : Piece). formal_of w.bytes in
    let name = c.formal_of.ensures ∙ ap formal_of c.bytes.ensures.value in
    let adds = subst (λ n. IsAdded n c.in_ok-add_name.field-0 (names_of c.loop-word.formals) (names_of c.add_name.new.names)) name c.in_ok-add_name.ensures in
    let new = key_told key (take k words) word c.in_ok-add_name.field-0 true _ _ c.loop-word.invariant.0 adds c.if-not-branch.false in
    (keys_more key words k word c.in_ok-add_name.field-0 _ _ c.loop-word-test.true c.word-item.is c.loop-word.invariant.0 adds, found_more binds_again words k word c.loop-word-test.true c.word-item.is c.loop-word.invariant.1 new)

pub returns-then-not-branch : goal.returns-then-not-branch
returns-then-not-branch c =
    let words = c.args.words.now in
    let word = c.word-item.result in
    let k = c.loop-word.word-index in
    let key = λ (w : Piece). formal_of w.bytes in
    let name = c.formal_of.ensures ∙ ap formal_of c.bytes.ensures.value in
    let adds = subst (λ n. IsAdded n c.in_ok-add_name.field-0 (names_of c.loop-word.formals) (names_of c.add_name.new.names)) name c.in_ok-add_name.ensures in
    let again = key_told key (take k words) word c.in_ok-add_name.field-0 false _ _ c.loop-word.invariant.0 adds c.if-not-branch.true in
    told_at (at_words wrong.FormalTwice (found_in binds_again words)) wrong.FormalTwice c.at.result c.fault_at.result c.fault_at.ensures (found_stop wrong.FormalTwice binds_again words k word c.at.result c.loop-word-test.true c.word-item.is c.loop-word.invariant.1 again c.at.ensures.value)

pub returns : goal.returns
returns c =
    ap (at_words wrong.FormalTwice) (found_none binds_again c.args.words.now c.loop-word.word-index c.loop-word-test.false c.loop-word.invariant.1)
