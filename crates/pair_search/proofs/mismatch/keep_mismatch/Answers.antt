use Rattle.pair_search.proofs.GroundedLemmas.{covers_mismatch}
use Rattle.pair_search.proofs.mismatch.keep_mismatch.Goals as goal

pub returns-clause-covers : goal.returns-clause-covers
returns-clause-covers c =
    covers_mismatch c.args.book.now c.hold.new.self c.in_ok-ban.ban c.args.way c.args.with c.args.unlike.fails c.args.unlike.holds c.in_ok-number.number c.in_ok-ban.ensures c.in_ok-number.ensures.added c.in_ok-number.ensures.number
