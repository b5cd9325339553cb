-- The classes are split by one word more.
use Rattle.std.proofs.Common.{◌<◌, length, ap, arith}
use Rattle.std.proofs.lemmas.List.FromFn.{length-map-range_with_len}
use Rattle.circuits.specs.Literals.{plain_literal}
use Rattle.circuits.specs.Netlists.{signals_of}
use Rattle.sweep.proofs.ClassLemmas.{split_classes}
use Rattle.sweep.proofs.SplitLemmas.{words_of}
use Rattle.sweep.proofs.classes.split.Goals as goal

pub split_by_word-requires-clause-columns : goal.split_by_word-requires-clause-columns
split_by_word-requires-clause-columns c =
    omega (arith, c.in_ok-values.ensures.columns, ap length c.requires.exposed, length-map-range_with_len plain_literal 0 (signals_of c.args.exposed.now), c.loop-word.invariant.count)

pub split_by_word-requires-clause-few : goal.split_by_word-requires-clause-few
split_by_word-requires-clause-few c = omega (arith, c.loop-word.invariant.count, c.signals-signals.ensures.graph.signals)

pub loop-word-preserved : goal.loop-word-preserved
loop-word-preserved c =
    let net = c.args.exposed.now in
    let values = c.in_ok-values.values in
    let w = c.loop-word.word in
    let there : w < c.args.inputs.now.words = omega (arith, c.loop-word-test.true, c.words-word-end.ensures.value, c.in_ok-values.ensures.words) in
    split_classes net c.loop-word.members.items c.split_by_word.new.members.items values w c.loop-word.invariant
    (words_of net c.args.inputs.now values w c.requires.exposed c.requires.columns c.in_ok-values.ensures.columns (λ v below. c.in_ok-values.ensures.vectors w v there below))
    c.in_ok-split_by_word.ensures
