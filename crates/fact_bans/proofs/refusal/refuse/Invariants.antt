use Rattle.fact_bans.specs.Asking.{AreSame, loans}
use Rattle.fact_bans.proofs.MakingLemmas.{HasMadeBans}
use Rattle.fact_bans.proofs.refusal.refuse.Given as goal

abbrev pub invariant-loop-tried : goal.invariant-loop-tried
invariant-loop-tried g l =
    AreSame (loans g.O.Oracle.known l.fn.asker) (loans g.O.Oracle.known l.asker)
    × HasMadeBans l.graphs (g.O.Oracle.known l.fn.asker.oracle.now) (g.O.Oracle.known l.asker.oracle.now) l.fn.asker.ledger.now l.asker.ledger.now l.fn.book l.book
