-- What a sweep replaces, from its beginning and at its end.
use Rattle.sweep.proofs.ReducingLemmas.{ended, nothing_compared}
use Rattle.sweep.proofs.reducing.replacements_in.Goals as goal

pub run-requires-clause-compared : goal.run-requires-clause-compared
run-requires-clause-compared c = nothing_compared c.args.exposed.now c.args.ledger.now c.requires.asked c.requires.unspent

pub returns : goal.returns
returns c =
    ended c.args.exposed.now c.run.new.self c.args.ledger.now.budget c.run.new.ledger c.into_replacements.result.items c.run.result c.in_ok-is_whole.is_whole c.requires.exposed c.into_replacements.ensures c.run.ensures.replaced c.run.ensures.swept c.run.ensures.stopped c.in_ok-is_whole.ensures
