-- The lemmas are those of joint hashing, and lines of the stock.
use Rattle.shared_lemmas.proofs.PaidLemmas.{lemmas_paid}
use Rattle.shared_lemmas.proofs.lemmas.lemmas_for.Goals as goal

pub returns-clause-paid : goal.returns-clause-paid
returns-clause-paid c =
    lemmas_paid c.args.cones.now.graphs c.args.cones.now.query c.in_ok-lines.lines.items c.args.stock.now.lines.items c.add_chosen.new.lines.items c.in_ok-lines.ensures.lemmas c.in_ok-numbers.ensures.written
