use Rattle.fact_bans.specs.Asking.{AreSame, loans}
use Rattle.fact_bans.specs.Serving.{HasServed}
use Rattle.fact_bans.proofs.open_claims.decide_open.Given as goal

abbrev pub invariant-loop-place : goal.invariant-loop-place
invariant-loop-place g l =
    AreSame (loans g.O.Oracle.known l.fn.asker) (loans g.O.Oracle.known l.asker)
    × HasServed (g.O.Oracle.known l.fn.asker.oracle.now) (g.O.Oracle.known l.asker.oracle.now) l.fn.asker.ledger.now l.asker.ledger.now
