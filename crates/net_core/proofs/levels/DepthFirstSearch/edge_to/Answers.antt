-- The constant and the inputs have level 0, and a definition has what its visit says.
use Rattle.std.proofs.Common.{arith}
use Rattle.net_core.specs.Search.{positions}
use Rattle.net_core.proofs.SearchLaws.{seen_level}
use Rattle.net_core.proofs.levels.DepthFirstSearch.edge_to.Goals as goal

pub returns-in-Level : goal.returns-in-Level
returns-in-Level c =
    seen_level c.args.net.now c.args.self.now.visits.items (positions c.args.self.now.stack.items) _ _ c.in-Level.level c.index.result.now (omega (arith, c.requires.knows.entries)) c.index.ensures c.in-Level.is (omega arith) c.requires.knows
