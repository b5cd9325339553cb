use Rattle.std.proofs.Common.{sym, subst}
use Rattle.net_file.specs.declared.fault.NetKind.TheVariants as fault
use Rattle.blif_reader.specs.Numbers.{names_of, IsAdded, IsRepeatedName}
use Rattle.blif_reader.proofs.NumberLemmas.{defined_more, defined_again, at_place}
use Rattle.blif_reader.proofs.names.add_defined.Goals as goal

pub returns-then-not-branch-clause-stop : goal.returns-then-not-branch-clause-stop
returns-then-not-branch-clause-stop c inputs names =
    let defined = c.args.defined.now in
    let word = c.word-item.result in
    let here = at_place defined c.loop-word.word-index word c.loop-word-test.true c.word-item.is in
    let is = defined_again inputs defined c.loop-word.word-index word _ _ c.in_ok-add_name.field-0 c.loop-word-test.true here (c.loop-word.invariant inputs names) c.if-not-branch.true (subst (λ n. IsAdded n c.in_ok-add_name.field-0 (names_of c.loop-word.names) (names_of c.add_name.new.names)) c.bytes.ensures.value c.in_ok-add_name.ensures) in
    subst (IsRepeatedName inputs defined fault.NameRedefined) (sym c.at.ensures.value) is

pub loop-word-preserved : goal.loop-word-preserved
loop-word-preserved c inputs names =
    let defined = c.args.defined.now in
    let word = c.word-item.result in
    let here = at_place defined c.loop-word.word-index word c.loop-word-test.true c.word-item.is in
    defined_more inputs defined c.loop-word.word-index word _ _ c.in_ok-add_name.field-0 c.loop-word-test.true here (c.loop-word.invariant inputs names) c.if-not-branch.false (subst (λ n. IsAdded n c.in_ok-add_name.field-0 (names_of c.loop-word.names) (names_of c.add_name.new.names)) c.bytes.ensures.value c.in_ok-add_name.ensures)
