use Rattle.std.proofs.Common.{◌++◌, ◌∷◌, [], ap, subst, ◌∙◌}
use Rattle.table_oracle.specs.Splits.{IsNew, clauses_in, excluding}
use Rattle.table_oracle.proofs.SplitLemmas.{not_excluded}
use Rattle.table_oracle.proofs.splitting.Splitting.covering_longer.Goals as goal

pub unreachable-requires : goal.unreachable-requires
unreachable-requires c =
    let clauses = clauses_in c.args.self.now.base c.args.lines.now in
    let longer = c.args.bits.now ++ c.args.bit ∷ [] in
    let clause = c.deref-2.ensures.value ∙ (c.in_ok-clause.ensures ∙ ap excluding (c.deref.ensures.value ∙ c.in_ok-longer.ensures)) in
    not_excluded clauses longer (subst (IsNew clauses) clause c.in_default.ensures.none) (c.requires.closed c.args.bit)
