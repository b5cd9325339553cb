use Rattle.pair_search.proofs.GroundedLemmas.{learns_twice, trail_later}
use Rattle.pair_search.proofs.back.learn.Goals as goal

pub returns-in_err-set-clause-trail : goal.returns-in_err-set-clause-trail
returns-in_err-set-clause-trail c =
    trail_later c.args.graphs.now c.args.book.now c.conflict_set_of.new.book c.args.domains.now c.in_err-set.ensures.more c.requires.trail

pub resolve-requires-clause-trail : goal.resolve-requires-clause-trail
resolve-requires-clause-trail c =
    trail_later c.args.graphs.now c.args.book.now c.conflict_set_of.new.book c.args.domains.now c.in_ok-set.ensures.more c.requires.trail

pub returns-in_err-learned-clause-more : goal.returns-in_err-learned-clause-more
returns-in_err-learned-clause-more c =
    learns_twice c.args.graphs.now c.args.domains.now.entries c.args.book.now c.conflict_set_of.new.book c.resolve.new.book c.in_ok-set.ensures.more c.in_err-learned.ensures.more

pub returns-in_err-learned-clause-trail : goal.returns-in_err-learned-clause-trail
returns-in_err-learned-clause-trail c =
    trail_later c.args.graphs.now c.conflict_set_of.new.book c.resolve.new.book c.args.domains.now c.in_err-learned.ensures.more (trail_later c.args.graphs.now c.args.book.now c.conflict_set_of.new.book c.args.domains.now c.in_ok-set.ensures.more c.requires.trail)

pub returns-clause-more : goal.returns-clause-more
returns-clause-more c =
    learns_twice c.args.graphs.now c.args.domains.now.entries c.args.book.now c.conflict_set_of.new.book c.resolve.new.book c.in_ok-set.ensures.more c.in_ok-learned.ensures.more

pub returns-clause-trail : goal.returns-clause-trail
returns-clause-trail c =
    trail_later c.args.graphs.now c.conflict_set_of.new.book c.resolve.new.book c.args.domains.now c.in_ok-learned.ensures.more (trail_later c.args.graphs.now c.args.book.now c.conflict_set_of.new.book c.args.domains.now c.in_ok-set.ensures.more c.requires.trail)
