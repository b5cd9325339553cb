-- One number more was written, and then all.
use Rattle.std.proofs.Common.{◌++◌, All, refl, subst}
use Rattle.std.proofs.lemmas.List.{take_all}
use Rattle.std.proofs.lemmas.List.Elements.{All-more}
use Rattle.text_core.proofs.Extending.{extends_twice}
use Rattle.line_codec.specs.LineBytes.{IsWord, deltas_bytes}
use Rattle.line_codec.proofs.LineLemmas.{deltas_all, deltas_more}
use Rattle.line_codec.proofs.coding.put_deltas.Goals as goal

pub loop-number-preserved : goal.loop-number-preserved
loop-number-preserved c =
    let i = c.loop-number in
    let numbers = c.args.numbers.now in
    let old = c.args.out.now.items in
    record {
      whole = deltas_more i.out.items c.put_delta.new.out.items i.from _ numbers (old ++ deltas_bytes 0 numbers) i.number-index 0 c.loop-number-test.true refl i.invariant.whole c.in_ok-put_delta.ensures.ok;
      kept = extends_twice old i.out.items c.put_delta.new.out.items i.invariant.kept c.put_delta.ensures.kept;
      words = All-more IsWord numbers i.number-index 0 c.loop-number-test.true i.invariant.words c.put_delta.ensures.word;
    }

pub returns-in_err-put_delta-clause-kept : goal.returns-in_err-put_delta-clause-kept
returns-in_err-put_delta-clause-kept c =
    extends_twice c.args.out.now.items c.loop-number.out.items c.put_delta.new.out.items c.loop-number.invariant.kept c.put_delta.ensures.kept

pub returns-clause-ok : goal.returns-clause-ok
returns-clause-ok c =
    deltas_all c.loop-number.out.items _ c.loop-number.from c.args.numbers.now c.loop-number.number-index c.loop-number-test.false c.loop-number.invariant.whole

pub returns-clause-words : goal.returns-clause-words
returns-clause-words c =
    subst (All IsWord) (take_all c.loop-number.number-index c.args.numbers.now c.loop-number-test.false) c.loop-number.invariant.words
