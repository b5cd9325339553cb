use Rattle.std.proofs.Common.{subst}
use Rattle.net_core.specs.Sides.{Graphs}
use Rattle.account_core.specs.Steps.{AreNamesKnown}
use Rattle.account_check.proofs.bans.test_step.Goals as goal

pub has_shown-requires-clause-names : goal.has_shown-requires-clause-names
has_shown-requires-clause-names c =
    let known = c.are_names_known.ensures.0 c.if-not-are_names_known.false in
    (c.args.given.now, subst (λ (graphs : Graphs). AreNamesKnown graphs c.args.given.now c.args.step.now) c.graphs-graphs.ensures known)
