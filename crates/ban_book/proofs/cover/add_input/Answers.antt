use Rattle.std.proofs.lemmas.List.Elements.{All-contains_itself}
use Rattle.ban_book.proofs.cover.add_input.Goals as goal

pub returns-then-ne-clause-adds : goal.returns-then-ne-clause-adds
returns-then-ne-clause-adds c = record { part = c.requires.part; stays = All-contains_itself c.args.inputs.now.items }
