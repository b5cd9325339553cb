-- Circuits of which all vectors can be tried.
use Rattle.std.specs.Prelude.{◌≤◌}
use Rattle.net_core.specs.Sides.{Graphs}
use Rattle.account_core.specs.Ports.{HaveAsMany}

-- Two circuits with as many ports, of at most 12 inputs.
pub record AreSmall (graphs : Graphs) : Type 0 where
  pub ports : HaveAsMany graphs.first graphs.second
  pub small : graphs.first.inputs ≤ 12
