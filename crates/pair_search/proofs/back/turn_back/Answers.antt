use Rattle.pair_search.proofs.GroundedLemmas.{learns_none, stay_none}
use Rattle.pair_search.proofs.back.turn_back.Goals as goal
use Rattle.ban_book.proofs.BookLemmas.{empty_ban}

pub returns-in-Refusal-clause-refusal : goal.returns-in-Refusal-clause-refusal
returns-in-Refusal-clause-refusal c = empty_ban c.learn.new.book c.in-Refusal.ban (rw c.in-Refusal.is at c.in_ok-ban.ensures.learned)

pub returns-in-Refusal-clause-grounded : goal.returns-in-Refusal-clause-grounded
returns-in-Refusal-clause-grounded c = stay_none c.args.domains.now.entries

pub returns-in_err-add_new-clause-more : goal.returns-in_err-add_new-clause-more
returns-in_err-add_new-clause-more c = learns_none c.args.graphs.now c.args.domains.now.entries c.args.book.now
