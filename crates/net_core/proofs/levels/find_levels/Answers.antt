-- The levels that were found are those that are listed.
use Rattle.net_core.proofs.levels.find_levels.Goals as goal

pub place_all-requires-clause-found : goal.place_all-requires-clause-found
place_all-requires-clause-found c = rw c.deref.ensures.value c.in_ok-visits.ensures.levels
