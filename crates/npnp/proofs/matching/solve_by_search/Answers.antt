-- The search came to an answer, or the budget of a new ledger was spent.
use Rattle.std.proofs.Common.{inl, ap, refl, Err}
use Rattle.npnp.proofs.InfoLemmas.{budget_of_new, is_new}
use Rattle.npnp.proofs.matching.solve_by_search.Goals as goal

pub search_in-requires : goal.search_in-requires
search_in-requires g c = record { new = is_new c.new-ledger.result c.args.budget c.new-ledger.ensures }

pub returns-in-Err-Spent : goal.returns-in-Err-Spent
returns-in-Err-Spent g c = record {
  answer = tt;
  stopped = inl (
    c.search_in.new.ledger,
    refl,
    budget_of_new c.args.graphs.now c.new-ledger.result c.search_in.new.ledger c.args.budget c.new-ledger.ensures
        (c.in-Err-Spent.ensures.spent c.in-Err-Spent.field-0-0 (ap Err c.in-Err-Spent.field-0-is)),
  );
}

pub returns-in-Ok : goal.returns-in-Ok
returns-in-Ok g c = record { answer = c.in-Ok.ensures.answer; stopped = tt }
