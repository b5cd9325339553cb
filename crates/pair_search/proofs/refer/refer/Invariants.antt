use Rattle.std.proofs.Common.{take}
use Rattle.ban_book.specs.Ways.{AreClosed}
use Rattle.pair_search.specs.Grounded.{LearnsMore}
use Rattle.pair_search.proofs.refer.refer.Given as goal

abbrev pub invariant-loop-place : goal.invariant-loop-place
invariant-loop-place l = AreClosed l.book l.conflict (take l.place l.noted.ways.now) l.refs × LearnsMore l.view.graphs.now l.view.domains.now.entries l.fn.book l.book
