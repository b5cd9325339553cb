use Rattle.std.proofs.Common.{All, subst, arith}
use Rattle.std.proofs.lemmas.List.{take_all}
use Rattle.std.proofs.lemmas.List.Elements.{All-more}
use Rattle.trail_core.specs.Trails.{literals}
use Rattle.watch_lists.specs.WatchStates.{IsFalseOrOther}
use Rattle.watch_lists.proofs.watch_choice.other_not_false.Goals as goal
use Rattle.cnf_core.proofs.LiteralLemmas.{no_literal}

pub loop-literal-preserved : goal.loop-literal-preserved
loop-literal-preserved c =
    All-more (IsFalseOrOther (literals c.args.trail.now.entries) c.args.other) c.args.clause.now c.loop-literal.literal-index no_literal c.loop-literal-test.true c.loop-literal.invariant (c.is_false_or_other.ensures.yes c.if-not-is_false_or_other.false)

pub returns-clause-none : goal.returns-clause-none
returns-clause-none c =
    subst (All (IsFalseOrOther (literals c.args.trail.now.entries) c.args.other)) (take_all c.loop-literal.literal-index c.args.clause.now (omega (arith, c.loop-literal-test.false))) c.loop-literal.invariant
