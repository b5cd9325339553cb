use Rattle.std.proofs.Common.{List, map, subst, sym}
use Rattle.account_core.specs.Given.{decided_by}
use Rattle.account_core.specs.declared.step.Ban.{Ban}
use Rattle.pair_search.specs.Justified.{IsTrail}
use Rattle.search_tests.proofs.refinings.refined_by.Goals as goal

pub refine-answer-requires-clause-trail : goal.refine-answer-requires-clause-trail
refine-answer-requires-clause-trail g c = record {
  trail = subst (λ (bans : List Ban). IsTrail c.args.graphs.now bans c.args.domains.now) (sym c.new-book.ensures) c.requires.trail;
  shown = c.requires.shown (map decided_by (g.O.Oracle.known c.args.oracle.now).facts);
}
