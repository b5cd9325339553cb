-- The book knows nothing and the ledger is new: the search came to an answer, or the budget was spent.
use Rattle.std.proofs.Common.{rules, ap, sym, subst, ◌∙◌}
use Rattle.oracle_core.specs.Oracles.{IsStopped, Known}
use Rattle.match_search.specs.Founds.{IsFound}
use Rattle.npnp.proofs.SearchLemmas.{bans_for, facts_for}
use Rattle.npnp.proofs.InfoLemmas.{memory_stops, spent_is, spent_says, suits_first}
use Rattle.npnp.proofs.ResultLemmas.{err_is}
use Rattle.npnp.proofs.matching.search_in.Goals as goal

pub returns-in_err-book-clause-spent : goal.returns-in_err-book-clause-spent
returns-in_err-book-clause-spent g c =
    memory_stops _ c.from_residual.result (err_is _ c.from_residual.ensures.1)

pub decide-requires : goal.decide-requires
decide-requires g c = record {
  may = record {
    graphs_are = sym (ap (λ (known : Known). known.graphs) c.in_ok-book.ensures.empty ∙ c.graphs.ensures.value);
    suits = suits_first c.graphs.result.now c.in_ok-book.book c.args.ledger.now c.args.ledger.now.budget c.in_ok-book.ensures.empty c.requires.new;
    none = search rules;
  };
}

pub returns-in_err-found-clause-spent : goal.returns-in_err-found-clause-spent
returns-in_err-found-clause-spent g c = λ learned is.
    spent_is c.args.graphs.now c.graphs.result.now c.in_ok-book.book c.args.ledger.now c.decide.new.ledger c.args.ledger.now.budget learned c.graphs.ensures.ports c.graphs.ensures.value c.in_ok-book.ensures.empty c.requires.new
    (spent_says (IsStopped c.in_ok-book.book c.args.ledger.now c.decide.new.ledger) learned c.in_err-found.ensures.searches.serves.stopped (cc (err_is _ c.from_residual-in_err-found.ensures.1, is)))

pub answered-requires-clause-facts : goal.answered-requires-clause-facts
answered-requires-clause-facts g c = facts_for _ c.decide.new.oracle c.in_ok-book.book _ c.decide.ensures.searches.serves.grows.graphs (sym (ap (λ (known : Known). known.graphs) c.in_ok-book.ensures.empty ∙ c.graphs.ensures.value)) c.into_facts.ensures.lawful

pub answered-requires-clause-bans : goal.answered-requires-clause-bans
answered-requires-clause-bans g c = bans_for c.args.graphs.now c.decide.new.oracle.facts c.into_facts.result c.decide.new.book c.into_bans.result c.into_facts.ensures.value c.into_bans.ensures c.decide.ensures.searches.valid.each

pub answered-requires-clause-found : goal.answered-requires-clause-found
answered-requires-clause-found g c = subst (λ bans. IsFound c.args.graphs.now bans c.in_ok-found.found) (sym c.into_bans.ensures) c.in_ok-found.ensures.searches.found

pub returns-in_err-answered-clause-spent : goal.returns-in_err-answered-clause-spent
returns-in_err-answered-clause-spent g c =
    memory_stops _ c.from_residual-in_err-answered.result (err_is _ c.from_residual-in_err-answered.ensures.1)
