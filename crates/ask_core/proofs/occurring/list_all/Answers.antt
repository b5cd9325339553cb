-- One literal more.
use Rattle.std.proofs.Common.{ℕ, length, subst}
use Rattle.ask_core.specs.Renamings.{AreMarks}
use Rattle.ask_core.proofs.BaseLemmas.{listing_more}
use Rattle.ask_core.proofs.occurring.list_all.Goals as goal
use Rattle.cnf_core.proofs.LiteralLemmas.{no_literal}

pub loop-literal-preserved : goal.loop-literal-preserved
loop-literal-preserved c =
    listing_more (length c.args.marked.now) c.args.names.now.items c.loop-literal.names.items c.list.new.names.items c.loop-literal.marked c.list.new.marked c.args.clause.now c.loop-literal.literal-index c.variable_in.result no_literal c.loop-literal.invariant c.loop-literal-test.true c.variable_in.ensures.value (subst (λ (n : ℕ). AreMarks n c.list.new.names.items c.list.new.marked) c.loop-literal.invariant.marks.size c.in_ok-list.ensures.marks) c.in_ok-list.ensures.named c.in_ok-list.ensures.stay
