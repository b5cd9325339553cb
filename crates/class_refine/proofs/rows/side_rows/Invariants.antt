use Rattle.fact_bans.specs.Asking.{AreSame, loans}
use Rattle.class_refine.proofs.RowsLemmas.{IsListing}
use Rattle.class_refine.proofs.rows.side_rows.Given as goal

abbrev pub invariant-loop-output : goal.invariant-loop-output
invariant-loop-output g l =
    AreSame (loans g.O.Oracle.known l.fn.asker) (loans g.O.Oracle.known l.asker)
    × IsListing l.graphs (g.O.Oracle.known l.fn.asker.oracle.now) (g.O.Oracle.known l.asker.oracle.now) l.fn.asker.ledger.now l.asker.ledger.now l.side l.output l.rows
