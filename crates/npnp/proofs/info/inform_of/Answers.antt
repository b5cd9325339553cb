-- Rows are reported, or the budget of a new ledger was spent.
use Rattle.std.proofs.Common.{inl, ap, refl, sym, subst, Err}
use Rattle.claim_core.specs.Rows.{AreRows}
use Rattle.run_steps.specs.Info.{with_itself}
use Rattle.npnp.proofs.InfoLemmas.{budget_of_new, informed_is, is_new}
use Rattle.npnp.proofs.info.inform_of.Goals as goal

pub rows_of-requires : goal.rows_of-requires
rows_of-requires g c = is_new c.new-ledger.result c.args.budget c.new-ledger.ensures

pub returns-in-Ok : goal.returns-in-Ok
returns-in-Ok g c =
    let graph = c.args.named.now.graph in
    informed_is c.args.named.now c.args.budget graph c.deref.result.now c.informed.result refl
    (subst (AreRows graph) (sym c.deref.ensures.value) c.in-Ok.ensures.rows) c.informed.ensures.outcome c.informed.ensures.report c.informed.ensures.memory

pub returns-in-Err-Spent : goal.returns-in-Err-Spent
returns-in-Err-Spent g c = record {
  rows = tt;
  stopped = inl (
    c.rows_of.new.ledger,
    refl,
    budget_of_new (with_itself c.args.named.now.graph) c.new-ledger.result c.rows_of.new.ledger c.args.budget c.new-ledger.ensures
        (c.in-Err-Spent.ensures.spent c.in-Err-Spent.field-0-0 (ap Err c.in-Err-Spent.field-0-is)),
  );
}
