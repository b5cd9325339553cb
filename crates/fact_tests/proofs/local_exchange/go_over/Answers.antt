-- Both operands are known, and so is the gate.
use Rattle.std.proofs.Common.{subst}
use Rattle.std.proofs.lemmas.Result.{IfOk-weaker}
use Rattle.std.specs.Prelude.{IfSome}
use Rattle.fact_tests.specs.LocalExchanges.{IsListing, IsWent, Tells}
use Rattle.fact_tests.proofs.LocalLemmas.{went}
use Rattle.fact_tests.proofs.local_exchange.go_over.Goals as goal

pub returns : goal.returns
returns c =
    let near = c.args.near.now in
    let first = c.sides_of.new.near in
    let second = c.sides_of-2.new.near in
    let last = c.list.new.near in
    IfOk-weaker c.list.result (IsListing c.args.signal c.and.result second last) (IsWent c.args.gate c.args.signal near last)
    (λ result listing. went c.args.gate c.args.signal near first second last c.in-Some.one c.in-Some-2.other c.and.result result
    (subst (λ found. IfSome found (Tells c.args.gate.a near first)) c.in-Some.is c.in_ok-one.ensures)
    (subst (λ found. IfSome found (Tells c.args.gate.b first second)) c.in-Some-2.is c.in_ok-other.ensures) c.and.ensures.one c.and.ensures.other listing) c.list.ensures
