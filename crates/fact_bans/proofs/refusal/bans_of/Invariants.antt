use Rattle.std.proofs.Common.{take}
use Rattle.fact_bans.specs.Asking.{AreSame, loans}
use Rattle.fact_bans.proofs.ReferLemmas.{AreFound}
use Rattle.fact_bans.proofs.refusal.bans_of.Given as goal

abbrev pub invariant-loop-pair : goal.invariant-loop-pair
invariant-loop-pair g l =
    AreSame (loans g.O.Oracle.known l.fn.asker) (loans g.O.Oracle.known l.asker)
    × AreFound l.graphs (g.O.Oracle.known l.fn.asker.oracle.now) (g.O.Oracle.known l.asker.oracle.now) l.fn.asker.ledger.now l.asker.ledger.now l.fn.book l.book (take l.pair-index l.ways) l.refs
