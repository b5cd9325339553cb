use Rattle.std.proofs.Common.{sym, ◌∙◌}
use Rattle.std.proofs.lemmas.Bool.{false≢true}
use Rattle.std.proofs.lemmas.List.Elements.{All-contains_itself}
use Rattle.pair_search.specs.Named.{IsNamedIn}
use Rattle.pair_search.proofs.ConflictLemmas.{not_left_out}
use Rattle.pair_search.proofs.NamedLemmas.{one_reason}
use Rattle.pair_search.proofs.gather.gather_way.Goals as goal

pub returns-then-is_left_out-clause-adds : goal.returns-then-is_left_out-clause-adds
returns-then-is_left_out-clause-adds c = record { part = c.requires.part; stays = All-contains_itself c.args.conflict.now.items }

pub returns-then-is_impossible-clause-adds : goal.returns-then-is_impossible-clause-adds
returns-then-is_impossible-clause-adds c = record { part = c.requires.part; stays = All-contains_itself c.args.conflict.now.items }

pub returns-in-Some-clause-adds : goal.returns-in-Some-clause-adds
returns-in-Some-clause-adds c = record { part = c.requires.part; stays = All-contains_itself c.args.conflict.now.items }

pub add_named-requires-clause-named : goal.add_named-requires-clause-named
add_named-requires-clause-named c =
    let es = c.args.view.now.domains.now.entries in
    let named = not_left_out c.args.skipped c.args.way (IsNamedIn c.args.bans.now es c.args.view.now.assigned.now c.args.way) (λ same. false≢true (sym c.if-is_left_out.false ∙ c.is_left_out.ensures.1 same)) c.requires.named in
    one_reason c.args.bans.now es c.args.view.now.assigned.now c.args.way c.in-Some-reason.reason c.entries-lawful.ensures.lawful.distinct c.in-Some-reason.ensures.found named
