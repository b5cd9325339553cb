-- The gates' bits are those of the valuation.
use Rattle.std.proofs.Common.{rules, false, ◌∷◌}
use Rattle.net_core.proofs.ValueLemmas.{with_bits}
use Rattle.net_core.proofs.graph.Graph.eval_into.Goals as goal

pub returns : goal.returns
returns c = let t = with_bits (false ∷ c.args.vector.now) c.args.self.now.gates in search rules
