use Rattle.std.proofs.Common.{◌↔◌, subst}
use Rattle.std.specs.Bool.{IsTrue}
use Rattle.account_core.specs.Covers.{IsImpossible}
use Rattle.ban_check.proofs.PairIndexLemmas.{clash_told}
use Rattle.ban_check.proofs.pair_index.PairIndex.clash_with.Goals as goal

pub returns : goal.returns
returns c =
    let told = clash_told c.self.inside.pairs.now c.self.inside.by_port.entries c.self.invariant c.args.pair c.is_taken.result c.is_taken.ensures in
    subst (λ pairs. IsTrue c.is_taken.result ↔ IsImpossible pairs c.args.pair) c.self.view_is told
