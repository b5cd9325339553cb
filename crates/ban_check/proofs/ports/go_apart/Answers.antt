use Rattle.std.proofs.Common.{◌≢◌, ◌↔◌, AllPairs, subst}
use Rattle.std.specs.Bool.{IsTrue}
use Rattle.account_core.specs.Tallies.{Ascend}
use Rattle.ban_check.proofs.OrderLemmas.{sorted_apart}
use Rattle.ban_check.proofs.ports.go_apart.Goals as goal

pub returns : goal.returns
returns c =
    let told = sorted_apart c.in_ok-ports.ports.items c.sort_unstable.new.self.items c.sort_unstable.ensures.permutation c.sort_unstable.ensures.sorted c.ascend.result (subst (λ ports. IsTrue c.ascend.result ↔ Ascend ports) c.deref.ensures.value c.ascend.ensures) in
    subst (λ ports. IsTrue c.ascend.result ↔ AllPairs (λ one other. one ≢ other) ports) c.in_ok-ports.ensures told
