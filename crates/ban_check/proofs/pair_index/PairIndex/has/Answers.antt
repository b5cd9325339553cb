use Rattle.std.proofs.Common.{◌≡◌, ◌↔◌, Any, subst}
use Rattle.std.specs.Bool.{IsTrue}
use Rattle.ban_check.proofs.PairIndexLemmas.{has_it}
use Rattle.ban_check.proofs.pair_index.PairIndex.has.Goals as goal

pub returns : goal.returns
returns c =
    let told = has_it c.self.inside.pairs.now c.self.inside.by_port.entries c.self.invariant c.args.pair c.has_pair.result c.has_pair.ensures in
    subst (λ pairs. IsTrue c.has_pair.result ↔ Any (λ one. one ≡ c.args.pair) pairs) c.self.view_is told
