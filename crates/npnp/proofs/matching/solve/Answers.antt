-- The search was of graphs with as many ports, or they differ.
use Rattle.std.proofs.lemmas.Bool.{false≢true}
use Rattle.std.proofs.Common.{sym, ap, subst, ◌∙◌}
use Rattle.std.specs.Prelude.{is_some}
use Rattle.npnp.specs.Solving.{Solves}
use Rattle.npnp.proofs.SearchLemmas.{no_room}
use Rattle.npnp.proofs.ResultLemmas.{err_is}
use Rattle.npnp.proofs.matching.solve.Goals as goal

pub other_ports-requires : goal.other_ports-requires
other_ports-requires g c = λ many. false≢true (sym (ap is_some c.in-None.is) ∙ c.new.ensures.exactly.1 many)

pub returns-in_err-other_ports-in-None : goal.returns-in_err-other_ports-in-None
returns-in_err-other_ports-in-None g c =
    no_room _ _ c.from_residual.result (err_is _ c.from_residual.ensures.1)

pub returns-in_ok-other_ports-in-None : goal.returns-in_ok-other_ports-in-None
returns-in_ok-other_ports-in-None g c = record { answer = c.in_ok-other_ports-in-None.ensures; stopped = tt }

pub returns-in-Some : goal.returns-in-Some
returns-in-Some g c =
    let same = rw c.in-Some.is at c.new.ensures.same in
    subst (λ two. Solves two c.args.asked.now.budget c.solve_by_search.result) same c.solve_by_search.ensures
