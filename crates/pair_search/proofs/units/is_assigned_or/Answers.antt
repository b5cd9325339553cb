use Rattle.pair_domains.specs.Trails.{assigned_in}
use Rattle.pair_search.proofs.units.is_assigned_or.Goals as goal
use Rattle.circuits.proofs.Lists.{contains_cons}

pub returns : goal.returns
returns c = λ t. contains_cons (assigned_in c.args.domains.now.entries) c.args.way c.args.pair (c.is_assigned.ensures.assigned t)
