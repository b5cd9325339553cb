use Rattle.std.proofs.Common.{◌≡◌, not, true, false, sym, ap, ◌∙◌}
use Rattle.std.specs.List.{list_any}
use Rattle.std.specs.Str.{bytes_eq}
use Rattle.blif_reader.specs.Numbers.{names_of}
use Rattle.hier_blif.specs.declared.fault.HierKind.TheVariants as wrong
use Rattle.hier_blif.specs.NameFaults.{where_wrong}
use Rattle.hier_blif.proofs.FindLemmas.{wrong_word, word_more, word_stop, left_none, told_at}
use Rattle.hier_blif.proofs.names.check_known.Goals as goal

pub loop-word-preserved : goal.loop-word-preserved
loop-word-preserved c test is =
    let word = c.word-item.result in
    let names = names_of c.args.names.now in
    let known : list_any (bytes_eq word.bytes) names ≡ true = ap (λ name. list_any (bytes_eq name) names) (sym c.bytes.ensures) ∙ (sym c.is_one_of.ensures ∙ c.if-not-is_one_of.false) in
    word_more wrong.Undefined test c.args.read.now c.loop-word.word-index word c.loop-word-test.true c.word-item.is (c.loop-word.invariant test is) (is word ∙ ap not known)

pub returns-then-not-is_one_of : goal.returns-then-not-is_one_of
returns-then-not-is_one_of c test is =
    let word = c.word-item.result in
    let names = names_of c.args.names.now in
    let unknown : list_any (bytes_eq word.bytes) names ≡ false = ap (λ name. list_any (bytes_eq name) names) (sym c.bytes.ensures) ∙ (sym c.is_one_of.ensures ∙ c.if-not-is_one_of.true) in
    told_at (where_wrong wrong.Undefined test c.args.read.now) wrong.Undefined c.at.result c.fault_at.result c.fault_at.ensures (word_stop wrong.Undefined test c.args.read.now c.loop-word.word-index word c.at.result c.loop-word-test.true c.word-item.is (c.loop-word.invariant test is) (is word ∙ ap not unknown) c.at.ensures)

pub returns : goal.returns
returns c test is =
    left_none (wrong_word wrong.Undefined test) c.args.read.now c.loop-word.word-index c.loop-word-test.false (c.loop-word.invariant test is)
