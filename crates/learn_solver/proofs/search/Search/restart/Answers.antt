-- The schedule is none of what is kept of the variables.
use Rattle.learn_solver.proofs.RunLemmas.{kept_beside}
use Rattle.learn_solver.proofs.search.Search.restart.Goals as goal

pub returns : goal.returns
returns c = kept_beside c.args.self.now c.back_to_root.new.self c.args.self.now.tools.focus c.count.new.self c.back_to_root.ensures
