use Rattle.std.proofs.Common.{sym, subst, All}
use Rattle.std.specs.Prelude.{Contains}
use Rattle.std.proofs.lemmas.List.Elements.{All-contains_itself}
use Rattle.ban_book.proofs.BookLemmas.{covers_last}
use Rattle.ban_book.proofs.KeepLemmas.{adds_one_ban}
use Rattle.ban_book.proofs.cover.keep_cover.Goals as goal

pub returns-clause-more : goal.returns-clause-more
returns-clause-more c =
    adds_one_ban c.args.graphs.now c.args.book.now c.hold.new.self c.in_ok-ban.ban c.in_ok-number.ensures.added c.in_ok-ban.ensures.step (λ facts. c.in_ok-ban.ensures.valid facts c.args.book.now c.requires.closed)

pub returns-clause-covers : goal.returns-clause-covers
returns-clause-covers c =
    covers_last c.args.book.now c.hold.new.self c.in_ok-ban.ban c.args.pairs.now c.in_ok-number.number c.in_ok-number.ensures.added c.in_ok-number.ensures.number (record { among = subst (All (Contains c.args.pairs.now)) (sym c.in_ok-ban.ensures.pairs) (All-contains_itself c.args.pairs.now) })
