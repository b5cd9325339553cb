use Rattle.ban_book.proofs.BookLemmas.{empty_ban}
use Rattle.pair_search.proofs.GroundedLemmas.{learns_twice, stay_none, trail_later}
use Rattle.match_search.proofs.BackLemmas.{trail_stays}
use Rattle.match_search.proofs.step_back.step_back.Goals as goal

pub resolve-requires-clause-trail : goal.resolve-requires-clause-trail
resolve-requires-clause-trail c =
    trail_later c.args.graphs.now c.args.book.now c.conflict_set_of.new.book c.args.domains.now c.in_ok-set.ensures.more c.requires.trail

pub returns-in_err-ban-clause-more : goal.returns-in_err-ban-clause-more
returns-in_err-ban-clause-more c =
    learns_twice c.args.graphs.now c.args.domains.now.entries c.args.book.now c.conflict_set_of.new.book c.resolve.new.book c.in_ok-set.ensures.more c.in_err-ban.ensures.more

pub returns-in-Refusal : goal.returns-in-Refusal
returns-in-Refusal c = record {
  more = learns_twice c.args.graphs.now c.args.domains.now.entries c.args.book.now c.conflict_set_of.new.book c.resolve.new.book c.in_ok-set.ensures.more c.in_ok-ban.ensures.more;
  trail = trail_later c.args.graphs.now c.conflict_set_of.new.book c.resolve.new.book c.args.domains.now c.in_ok-ban.ensures.more (trail_later c.args.graphs.now c.args.book.now c.conflict_set_of.new.book c.args.domains.now c.in_ok-set.ensures.more c.requires.trail);
  grounded = stay_none c.args.domains.now.entries;
  refusal = empty_ban c.resolve.new.book c.in-Refusal.ban (rw c.in-Refusal.is at c.in_ok-ban.ensures.learned);
}

pub return_to-requires-clause-choice : goal.return_to-requires-clause-choice
return_to-requires-clause-choice c = (c.latest-back.ensures c.resolve.new.book (rw c.in-Back.is at c.in_ok-ban.ensures.learned)).choice

pub return_to-requires-clause-known : goal.return_to-requires-clause-known
return_to-requires-clause-known c = (c.latest-back.ensures c.resolve.new.book (rw c.in-Back.is at c.in_ok-ban.ensures.learned)).known

pub return_to-requires-clause-open : goal.return_to-requires-clause-open
return_to-requires-clause-open c = (c.latest-back.ensures c.resolve.new.book (rw c.in-Back.is at c.in_ok-ban.ensures.learned)).open'

pub returns-in_err-return_to-in-Back-clause-more : goal.returns-in_err-return_to-in-Back-clause-more
returns-in_err-return_to-in-Back-clause-more c =
    learns_twice c.args.graphs.now c.args.domains.now.entries c.args.book.now c.conflict_set_of.new.book c.resolve.new.book c.in_ok-set.ensures.more c.in_ok-ban.ensures.more

pub returns-in_ok-return_to-in-Back : goal.returns-in_ok-return_to-in-Back
returns-in_ok-return_to-in-Back c =
    let trail = trail_later c.args.graphs.now c.conflict_set_of.new.book c.resolve.new.book c.args.domains.now c.in_ok-ban.ensures.more (trail_later c.args.graphs.now c.args.book.now c.conflict_set_of.new.book c.args.domains.now c.in_ok-set.ensures.more c.requires.trail) in
    let is = c.latest-back.ensures c.resolve.new.book (rw c.in-Back.is at c.in_ok-ban.ensures.learned) in
    let stays = c.in_ok-return_to-in-Back.ensures c.resolve.new.book trail.justified is.covers in
    record {
      more = learns_twice c.args.graphs.now c.args.domains.now.entries c.args.book.now c.conflict_set_of.new.book c.resolve.new.book c.in_ok-set.ensures.more c.in_ok-ban.ensures.more;
      trail = trail_stays c.args.graphs.now c.resolve.new.book c.args.domains.now c.return_to.new.domains trail stays;
      grounded = stays.grounded;
      refusal = tt;
    }
