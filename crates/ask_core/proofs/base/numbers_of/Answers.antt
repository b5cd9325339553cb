-- One lemma more.
use Rattle.ask_core.proofs.BaseLemmas.{numbers_more}
use Rattle.ask_core.proofs.base.numbers_of.Goals as goal

pub loop-lemma-preserved : goal.loop-lemma-preserved
loop-lemma-preserved c = numbers_more c.args.ids.now c.loop-lemma.numbers.items c.push.new.self.items c.args.count c.loop-lemma.lemma c.loop-lemma.invariant c.in_ok-push.ensures.items
