-- The book knows nothing and the ledger is new: rows are right, or the budget was spent.
use Rattle.std.proofs.Common.{refl, subst, IfErr, IfOk}
use Rattle.net_core.specs.Sides.{Graphs}
use Rattle.claim_core.specs.Rows.{AreRows}
use Rattle.oracle_core.specs.Oracles.{IsStopped}
use Rattle.run_steps.specs.Info.{with_itself}
use Rattle.npnp.proofs.InfoLemmas.{memory_stops, spent_is, suits_first}
use Rattle.npnp.proofs.ResultLemmas.{err_is}
use Rattle.npnp.proofs.info.rows_of.Goals as goal

pub returns-in_err-book-clause-spent : goal.returns-in_err-book-clause-spent
returns-in_err-book-clause-spent g c =
    memory_stops _ c.from_residual.result (err_is _ c.from_residual.ensures.1)

pub info-requires-clause-suits : goal.info-requires-clause-suits
info-requires-clause-suits g c =
    suits_first c.new-graphs.result c.in_ok-book.book c.args.ledger.now c.args.ledger.now.budget c.in_ok-book.ensures.empty c.requires

pub returns-clause-rows : goal.returns-clause-rows
returns-clause-rows g c =
    subst (λ (graphs : Graphs). IfOk c.info.result (λ rows. AreRows graphs.first rows.items)) c.new-graphs.ensures c.info.ensures.rows

pub returns-clause-spent : goal.returns-clause-spent
returns-clause-spent g c = λ learned is.
    spent_is (with_itself c.args.named.now.graph) c.new-graphs.result c.in_ok-book.book c.args.ledger.now c.info.new.ledger c.args.ledger.now.budget learned (record { inputs = refl; outputs = refl }) c.new-graphs.ensures c.in_ok-book.ensures.empty c.requires
    (subst (λ result. IfErr result (IsStopped c.in_ok-book.book c.args.ledger.now c.info.new.ledger)) is c.info.ensures.serves.stopped)
