use Rattle.std.proofs.Common.{All, subst, arith}
use Rattle.std.proofs.lemmas.List.{take_all}
use Rattle.std.proofs.lemmas.List.Elements.{All-more}
use Rattle.watch_lists.specs.Attachments.{IsElsewhere}
use Rattle.watch_lists.proofs.watch_choice.other_of_level.Goals as goal
use Rattle.cnf_core.proofs.LiteralLemmas.{no_literal}

pub loop-literal-preserved : goal.loop-literal-preserved
loop-literal-preserved c =
    All-more (IsElsewhere c.args.trail.now c.args.first) c.args.clause.now c.loop-literal.literal-index no_literal c.loop-literal-test.true c.loop-literal.invariant (c.is_other_of_level.ensures.no c.if-is_other_of_level.false)

pub returns-clause-none : goal.returns-clause-none
returns-clause-none c =
    subst (All (IsElsewhere c.args.trail.now c.args.first)) (take_all c.loop-literal.literal-index c.args.clause.now (omega (arith, c.loop-literal-test.false))) c.loop-literal.invariant
