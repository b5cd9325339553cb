use Rattle.std.proofs.Common.{arith}
use Rattle.hier_blif.proofs.OrderLemmas.{listed_now}
use Rattle.hier_blif.proofs.order.ModelSearch.list_new.Goals as goal

pub returns-in_ok-list : goal.returns-in_ok-list
returns-in_ok-list c =
    let h = c.in_ok-list.ensures in
    λ models ready all. listed_now models c.args.place c.args.self.now c.list.new.self (omega (arith, c.requires.there)) h.visits h.stack h.looked h.order ready all
