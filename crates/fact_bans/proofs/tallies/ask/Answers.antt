use Rattle.std.proofs.Common.{false, map, refl, subst}
use Rattle.net_core.specs.declared.graphs.Side.{Side}
use Rattle.std.specs.Prelude.{not}
use Rattle.account_core.specs.Given.{decided_by}
use Rattle.account_core.specs.Tallies.{port_on}
use Rattle.fact_bans.specs.declared.lists.FactRequest.{FactRequest}
use Rattle.ban_book.specs.Listed.{ListsBoth}
use Rattle.fact_bans.specs.Requests.{ListsRequested}
use Rattle.fact_bans.proofs.FactLemmas.{requested_grow}
use Rattle.fact_bans.proofs.ServeLemmas.{served_one, served_then, serves_err, serves_ok}
use Rattle.fact_bans.proofs.tallies.ask.Goals as goal

pub returns-in_err-both-clause-serves : goal.returns-in_err-both-clause-serves
returns-in_err-both-clause-serves g c =
    serves_err _ _ _ _ _ _ _ c.in_err-both.field-0.0 c.from_residual-in_err-both.ensures.1 (served_one _ _ _ _ _ c.in_ok-one.ensures.serves) c.in_err-both.ensures.serves

pub returns-in_default-2-clause-serves : goal.returns-in_default-2-clause-serves
returns-in_default-2-clause-serves g c =
    serves_ok _ _ _ _ _ _ refl (served_then _ _ _ _ _ _ (served_one _ _ _ _ _ c.in_ok-one.ensures.serves) (served_one _ _ _ _ _ c.in_ok-both.ensures.serves))

pub returns-clause-serves : goal.returns-clause-serves
returns-clause-serves g c =
    serves_ok _ _ _ _ _ _ refl (served_then _ _ _ _ _ _ (served_one _ _ _ _ _ c.in_ok-one.ensures.serves) (served_one _ _ _ _ _ c.in_ok-both.ensures.serves))

pub returns-clause-lists : goal.returns-clause-lists
returns-clause-lists g c =
    let mid = g.O.Oracle.known c.facts_of.new.asker.oracle.now in
    let new = g.O.Oracle.known c.facts_of-2.new.asker.oracle.now in
    let plan = c.args.plan.now in
    let bound = c.inputs-inputs.result in
    let bound_both = c.inputs-inputs-2.result in
    let one = subst (λ (w : FactRequest). ListsRequested mid w bound c.in-Some.one) c.request_on-first.ensures (rw c.in-Some.is at c.in_ok-one.ensures.lists) in
    let both = subst (λ (w : FactRequest). ListsRequested new w bound_both c.in-Some-2.both) c.request_on-second.ensures (rw c.in-Some-2.is at c.in_ok-both.ensures.lists) in
    record {
      bound = bound;
      bound_both = bound_both;
      one = requested_grow mid new (record { side = plan.side; output = port_on plan.side c.args.pair; holds = plan.holds; both = false }) bound c.in-Some.one c.in_ok-both.ensures.serves.grows one;
      both = subst (λ (s : Side). ListsBoth (map decided_by new.facts) (not plan.holds) s (port_on s c.args.pair) bound_both c.in-Some-2.both) c.other_side.ensures both;
    }
