use Rattle.fact_bans.specs.Asking.{AreSame, loans}
use Rattle.fact_bans.proofs.FactLemmas.{IsListing}
use Rattle.fact_bans.proofs.lists.facts_of.Given as goal

abbrev pub invariant-loop-input : goal.invariant-loop-input
invariant-loop-input g l =
    AreSame (loans g.O.Oracle.known l.fn.asker) (loans g.O.Oracle.known l.asker)
    × IsListing (g.O.Oracle.known l.fn.asker.oracle.now) (g.O.Oracle.known l.asker.oracle.now) l.fn.asker.ledger.now l.asker.ledger.now l.request l.input l.numbers
