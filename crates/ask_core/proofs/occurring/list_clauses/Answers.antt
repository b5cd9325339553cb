-- One clause more.
use Rattle.std.proofs.Common.{ℕ, length, subst}
use Rattle.ask_core.specs.Renamings.{AreMarks}
use Rattle.ask_core.proofs.BaseLemmas.{clauses_listing_more, none}
use Rattle.ask_core.proofs.occurring.list_clauses.Goals as goal

pub loop-clause-preserved : goal.loop-clause-preserved
loop-clause-preserved c =
    clauses_listing_more (length c.args.marked.now) c.loop-clause.names.items c.list_all.new.names.items c.loop-clause.marked c.list_all.new.marked c.args.clauses.now c.loop-clause.clause-index c.literals.result.now none c.loop-clause.invariant c.loop-clause-test.true c.literals.ensures (subst (λ (n : ℕ). AreMarks n c.list_all.new.names.items c.list_all.new.marked) c.loop-clause.invariant.marks.size c.in_ok-list_all.ensures.marks) c.in_ok-list_all.ensures.named c.in_ok-list_all.ensures.stay
