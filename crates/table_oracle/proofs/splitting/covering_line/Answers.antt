use Rattle.std.proofs.Common.{sym, ap, ◌∙◌}
use Rattle.table_oracle.proofs.SplitLemmas.{new_next}
use Rattle.table_oracle.proofs.splitting.covering_line.Goals as goal
use Rattle.cnf_core.specs.Derivations.{has_all}

pub loop-place-preserved : goal.loop-place-preserved
loop-place-preserved c =
    let clause = c.args.clause.now in
    let fresh = ap (has_all clause) (sym c.deref.ensures.value) ∙ (sym c.has_all.ensures ∙ c.if-has_all.false) in
    new_next c.args.lines.now clause c.loop-place.place c.index-lines-place.result c.loop-place.invariant c.index-lines-place.is c.loop-place-test.true fresh
