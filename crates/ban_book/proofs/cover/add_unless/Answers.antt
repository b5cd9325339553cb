use Rattle.std.proofs.lemmas.List.Elements.{All-contains_itself}
use Rattle.ban_book.proofs.cover.add_unless.Goals as goal

pub returns-then-eq-clause-adds : goal.returns-then-eq-clause-adds
returns-then-eq-clause-adds c = record { part = c.requires.part; stays = All-contains_itself c.args.needed.now.items }
