-- The two netlists of a comparison.
use Rattle.circuits.specs.Netlists.{Net}
use Rattle.net_core.specs.declared.graphs.Side.{Side}
use Rattle.net_core.specs.declared.graphs.Side.TheVariants.{First, Second}

-- The first netlist, and the second.
pub record Graphs : Type 0 where
  pub first : Net
  pub second : Net

-- the netlist of a side
abbrev pub graph_of : Graphs → Side → Net
graph_of graphs First = graphs.first
graph_of graphs Second = graphs.second
