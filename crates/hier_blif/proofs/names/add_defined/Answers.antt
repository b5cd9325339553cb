use Rattle.std.proofs.Common.{ℕ, List, ap, subst, true, false, take, refl}
use Rattle.text_core.specs.Piece.{Piece}
use Rattle.blif_reader.specs.Names.{is_redefined}
use Rattle.blif_reader.specs.Numbers.{names_of, IsAdded}
use Rattle.hier_blif.specs.declared.fault.HierKind.TheVariants as wrong
use Rattle.hier_blif.specs.NameFaults.{at_words, found_in}
use Rattle.hier_blif.proofs.FindLemmas.{found_more, found_none, found_stop, told_at}
use Rattle.hier_blif.proofs.KeyLemmas.{keys_after, all_after, two_told, none_after}
use Rattle.hier_blif.proofs.names.add_defined.Goals as goal

abbrev key : Piece → List ℕ
key word = word.bytes

pub loop-word-init : goal.loop-word-init
loop-word-init c inputs has = (none_after key inputs c.args.defined.now _ has, refl)

pub loop-word-preserved : goal.loop-word-preserved
loop-word-preserved c inputs has =
    let words = c.args.defined.now in
    let word = c.word-item.result in
    let k = c.loop-word.word-index in
    let so_far = c.loop-word.invariant inputs has in
    let adds = subst (λ n. IsAdded n c.in_ok-add_name.field-0 (names_of c.loop-word.names) (names_of c.add_name.new.names)) c.bytes.ensures c.in_ok-add_name.ensures in
    let new = two_told key inputs (take k words) word c.in_ok-add_name.field-0 true _ _ so_far.0 adds c.if-not-branch.false in
    (keys_after key inputs words k word c.in_ok-add_name.field-0 _ _ c.loop-word-test.true c.word-item.is so_far.0 adds, found_more (is_redefined inputs) words k word c.loop-word-test.true c.word-item.is so_far.1 new)

pub returns-then-not-branch-clause-faults : goal.returns-then-not-branch-clause-faults
returns-then-not-branch-clause-faults c inputs has =
    let words = c.args.defined.now in
    let word = c.word-item.result in
    let k = c.loop-word.word-index in
    let so_far = c.loop-word.invariant inputs has in
    let adds = subst (λ n. IsAdded n c.in_ok-add_name.field-0 (names_of c.loop-word.names) (names_of c.add_name.new.names)) c.bytes.ensures c.in_ok-add_name.ensures in
    let again = two_told key inputs (take k words) word c.in_ok-add_name.field-0 false _ _ so_far.0 adds c.if-not-branch.true in
    told_at (at_words wrong.Redefined (found_in (is_redefined inputs) words)) wrong.Redefined c.at.result c.fault_at.result c.fault_at.ensures (found_stop wrong.Redefined (is_redefined inputs) words k word c.at.result c.loop-word-test.true c.word-item.is so_far.1 again c.at.ensures)

pub returns-clause-faults : goal.returns-clause-faults
returns-clause-faults c inputs has =
    ap (at_words wrong.Redefined) (found_none (is_redefined inputs) c.args.defined.now c.loop-word.word-index c.loop-word-test.false (c.loop-word.invariant inputs has).1)

pub returns-clause-names : goal.returns-clause-names
returns-clause-names c inputs has =
    all_after key inputs c.args.defined.now c.loop-word.word-index _ c.loop-word-test.false (c.loop-word.invariant inputs has).0
