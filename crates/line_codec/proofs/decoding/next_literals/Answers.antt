-- One literal more was read, and then all.
use Rattle.std.proofs.Common.{arith}
use Rattle.line_codec.proofs.LineLemmas.{literals_all, literals_more}
use Rattle.line_codec.proofs.decoding.next_literals.Goals as goal

pub loop-literal-preserved : goal.loop-literal-preserved
loop-literal-preserved c =
    let i = c.loop-literal in
    record {
      reads = λ clause rest count words is.
          let before = i.invariant.reads clause rest count words is in
          literals_more clause rest i.from c.next_delta-from.result i._literal i.cursor.bytes c.next_delta-from.new.cursor.bytes i.literals.items c.push.new.self.items (omega (arith, count, c.loop-literal-test.true)) words before.0 before.1 c.next_delta-from.ensures.reads c.in_ok-push.ensures.items;
      end = omega (arith, i.invariant.end, c.next_delta-from.ensures.end);
    }

pub returns-clause-reads : goal.returns-clause-reads
returns-clause-reads c = λ clause rest words is.
    let i = c.loop-literal in
    let read = i.invariant.reads clause rest words.0 words.1 is in
    literals_all clause rest i.from i._literal i.cursor.bytes i.literals.items (omega (arith, words.0, c.loop-literal-test.false)) read.0 read.1
