-- Circuits with the same numbers of ports.
use Rattle.std.proofs.Common.{◌≡◌}
use Rattle.circuits.specs.declared.port.PortKind.{PortKind}
use Rattle.circuits.specs.declared.port.PortKind.TheVariants.{Input, Output}
use Rattle.circuits.specs.Netlists.{Net}
use Rattle.account_core.specs.Ports.{HaveAsMany, ports_in}

-- as many of each kind
pub as_many : (first second : Net) (kind : PortKind) → HaveAsMany first second → ports_in first kind ≡ ports_in second kind
as_many first second Input many = many.inputs
as_many first second Output many = many.outputs
