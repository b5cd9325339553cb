-- The first word and what stands after it.
use Rattle.std.proofs.Common.{◌≡◌, length, arith}
use Rattle.text_core.proofs.WordLemmas.{words-next, words-none}
use Rattle.text_core.proofs.spans.next_word.Goals as goal

pub returns-then-is_empty-clause-none : goal.returns-then-is_empty-clause-none
returns-then-is_empty-clause-none c =
    let none : length c.pass.new.self.bytes ≡ 0 = grind arith in
    words-none c.args.line.now c.pass.new.self c.blanks_at_front.result (cc) c.pass.ensures none

pub returns-clause-next : goal.returns-clause-next
returns-clause-next c = search (arith, words-next)
