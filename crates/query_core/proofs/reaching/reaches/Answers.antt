-- How many signals there are before the gates, and with them.
use Rattle.std.proofs.Common.{◌≡◌, ◌+◌, length, sym, subst, arith}
use Rattle.net_core.specs.Graph.{AreInOrder}
use Rattle.query_core.proofs.reaching.reaches.Goals as goal

pub push_reaching-requires : goal.push_reaching-requires
push_reaching-requires c =
    let right = c.args.query.now.right.feed in
    let whole : length c.in_ok-signals.signals.items ≡ length right + 1 = omega (arith, c.in_ok-signals.ensures.count, c.requires.feeds) in
    subst (λ n. AreInOrder n c.args.gates.now) (sym whole) c.requires.ordered
