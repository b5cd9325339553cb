-- The focus changes, and the search goes back.
use Rattle.learn_solver.proofs.RunLemmas.{kept_beside}
use Rattle.learn_solver.proofs.search.Search.widen.Goals as goal

pub back_to_root-requires : goal.back_to_root-requires
back_to_root-requires c = record { fitting = c.requires.fitting; order = c.requires.order }

pub returns : goal.returns
returns c = kept_beside c.args.self.now c.back_to_root.new.self c.widen.new.self c.args.self.now.tools.restarts c.back_to_root.ensures
