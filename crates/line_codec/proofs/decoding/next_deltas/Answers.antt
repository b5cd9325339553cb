-- One number more was read, and then all.
use Rattle.std.proofs.Common.{arith}
use Rattle.line_codec.proofs.LineLemmas.{numbers_all, numbers_more}
use Rattle.line_codec.proofs.decoding.next_deltas.Goals as goal

pub loop-number-preserved : goal.loop-number-preserved
loop-number-preserved c =
    let i = c.loop-number in
    record {
      reads = λ numbers rest count words is.
          let before = i.invariant.reads numbers rest count words is in
          numbers_more numbers rest i.from c.next_delta-from.result i._number i.cursor.bytes c.next_delta-from.new.cursor.bytes i.numbers.items c.push.new.self.items (omega (arith, count, c.loop-number-test.true)) words before.0 before.1 c.next_delta-from.ensures.reads c.in_ok-push.ensures.items;
      end = omega (arith, i.invariant.end, c.next_delta-from.ensures.end);
    }

pub returns-clause-reads : goal.returns-clause-reads
returns-clause-reads c = λ numbers rest words is.
    let i = c.loop-number in
    let read = i.invariant.reads numbers rest words.0 words.1 is in
    numbers_all numbers rest i.from i._number i.cursor.bytes i.numbers.items (omega (arith, words.0, c.loop-number-test.false)) read.0 read.1
