-- Two literals that aren't false, or none.
use Rattle.std.proofs.Common.{refl}
use Rattle.trail_core.specs.Trails.{literals}
use Rattle.watch_lists.proofs.WatchPairLemmas.{none_not_false, pair_not_false}
use Rattle.watch_lists.proofs.watch_choice.find_watches.Goals as goal

pub returns-in_default-clause-attachment : goal.returns-in_default-clause-attachment
returns-in_default-clause-attachment c = (none_not_false (literals c.args.trail.now.entries) c.args.clause.now c.in_default.ensures.none, refl)

pub returns-in-Some-other_not_false-clause-attachment : goal.returns-in-Some-other_not_false-clause-attachment
returns-in-Some-other_not_false-clause-attachment c =
    pair_not_false c.args.trail.now c.args.clause.now c.in-Some.first c.in-Some-other_not_false.second c.in-Some.ensures.found c.in-Some-other_not_false.ensures.found
