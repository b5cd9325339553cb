-- One pair more is listed; no input of the support lies before the next.
use Rattle.std.proofs.Common.{refl, arith}
use Rattle.fact_tests.specs.Outputs.{function_at, inputs_in}
use Rattle.fact_tests.proofs.ClassLemmas.{pair_at}
use Rattle.fact_tests.proofs.RowLemmas.{pairs_begin, pairs_end}
use Rattle.fact_tests.proofs.symmetric_pairs.add_pairs.Goals as goal

pub loop-other-init : goal.loop-other-init
loop-other-init c =
    let graphs = c.args.output.now.graphs.now in
    pairs_begin (inputs_in graphs) (function_at graphs c.args.output.now.number) c.args.support.now c.args.place c.args.pairs.now c.requires.support c.requires.place c.requires.pairs

pub loop-other-preserved : goal.loop-other-preserved
loop-other-preserved c =
    let graphs = c.args.output.now.graphs.now in
    pair_at (inputs_in graphs) (function_at graphs c.args.output.now.number) c.args.support.now c.args.sorted.now c.args.place c.loop-other.other _ _ c.loop-other.pairs c.note.new.pairs c.sym_of-sym.result c.deref.result.now _ _
    c.requires.support c.requires.sorts (omega (arith, c.loop-other.auto.other)) c.loop-other-test.true refl refl c.deref.ensures.value c.index.ensures c.index-in-loop-other.ensures c.sym_of-sym.ensures c.in_ok-note.ensures c.loop-other.invariant

pub returns : goal.returns
returns c =
    let graphs = c.args.output.now.graphs.now in
    pairs_end (inputs_in graphs) (function_at graphs c.args.output.now.number) c.args.support.now c.args.place c.loop-other.other c.loop-other.pairs c.requires.support c.requires.place c.loop-other-test.false c.loop-other.invariant
