use Rattle.fact_bans.specs.Asking.{AreSame, loans}
use Rattle.fact_bans.proofs.FactLemmas.{IsTelling}
use Rattle.fact_bans.proofs.rows.claims_of.Given as goal

abbrev pub invariant-loop-input : goal.invariant-loop-input
invariant-loop-input g l =
    AreSame (loans g.O.Oracle.known l.fn.asker) (loans g.O.Oracle.known l.asker)
    × IsTelling (g.O.Oracle.known l.fn.asker.oracle.now) (g.O.Oracle.known l.asker.oracle.now) l.fn.asker.ledger.now l.asker.ledger.now l.side l.output l.input l.row
