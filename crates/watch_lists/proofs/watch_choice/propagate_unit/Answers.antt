-- The one literal that isn't false is true, and one more is found, or none.
use Rattle.watch_lists.proofs.EffectLemmas.{known_at}
use Rattle.watch_lists.proofs.WatchPairLemmas.{found_of_level, none_of_level, made_settled}
use Rattle.watch_lists.proofs.watch_choice.propagate_unit.Goals as goal

pub make_true-requires-clause-known : goal.make_true-requires-clause-known
make_true-requires-clause-known c = known_at c.args.trail.now.variables c.args.clause.now c.args.first c.requires.known c.requires.there

pub returns-clause-found : goal.returns-clause-found
returns-clause-found c =
    found_of_level c.args.trail.now c.make_true.new.trail c.args.clause.now c.args.first c.args.id c.other_of_level.result c.len-len.ensures.trail c.requires.there c.make_true.ensures c.other_of_level.ensures.found

pub returns-clause-none : goal.returns-clause-none
returns-clause-none c =
    none_of_level c.args.trail.now c.make_true.new.trail c.args.clause.now c.args.first c.args.id c.other_of_level.result c.len-len.ensures.trail c.requires.reached c.requires.there c.make_true.ensures c.other_of_level.ensures.none

pub returns-clause-settled : goal.returns-clause-settled
returns-clause-settled c =
    made_settled c.args.trail.now c.make_true.new.trail c.args.clause.now c.args.first c.args.id c.requires.there c.requires.others c.requires.not_false c.make_true.ensures
